use Rattle.std.specs.Prelude.{Result}
use Rattle.refusals.specs.declared.refusal.Refusal.{Refusal}
use mathlib.Core.Path.{◌≡◌, sym, ◌∙◌}
use Rattle.std.proofs.lemmas.Result.{err_from_is_err_and}
use Rattle.records.specs.House.{answered}
use Rattle.records.proofs.Reading.{by_head, by_fields}
use Rattle.minute.specs.Rules.{alone_lines}
use Rattle.minute.specs.Record.{minute_of, minute_head_lines, read_minute}
use Rattle.reading.proofs.minutes.read_minute.Goals as goal
use Rattle.reading.proofs.minutes.read_minute.Goals.{After-alone}

-- the head's verdict decides, and then the fields'
came : (v : After-alone) {w : Result Unit Refusal} → v.alone.result ≡ w → answered v.minute_in-minute.result w ≡ read_minute v.args.bytes.now
unfolding read_minute
came v {w} e =
    let b = v.args.bytes.now in
    by_fields alone_lines (minute_of b) (minute_head_lines b) v.minute_in-minute.result w
    (sym v.head.ensures ∙ v.in_ok-head.was)
    v.minute_in-minute.ensures
    (sym e ∙ v.alone.ensures)

pub returns-in_err-head : goal.returns-in_err-head
unfolding read_minute
returns-in_err-head c =
    let b = c.args.bytes.now in
    let p = err_from_is_err_and c.from_residual.result c.from_residual.ensures.1 in
    rw (p.1, p.2) (by_head alone_lines (minute_of b) (minute_head_lines b) (sym c.head.ensures ∙ c.in_err-head.was))

pub returns-in_err-alone : goal.returns-in_err-alone
returns-in_err-alone c =
    let p = err_from_is_err_and c.from_residual-in_err-alone.result c.from_residual-in_err-alone.ensures.1 in
    rw (p.1, p.2) (came (goal.at.returns-in_err-alone c).After-alone c.in_err-alone.was)

pub returns : goal.returns
returns c = came (goal.at.returns c).After-alone c.in_ok-alone.was
