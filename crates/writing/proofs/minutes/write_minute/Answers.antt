use mathlib.Core.Path.{◌≡◌, refl, sym, ◌∙◌}
use Rattle.std.proofs.lemmas.Result.{err_from_is_err_and}
use Rattle.records.proofs.Writing.{by_buffer}
use Rattle.minute.specs.Rules.{alone_lines}
use Rattle.minute.specs.Record.{minute_form, write_minute}
use Rattle.writing.proofs.minutes.write_minute.Goals as goal
use Rattle.writing.proofs.minutes.write_minute.Goals.{After-then}

-- the verdict is the table's
decided : (t : After-then) → t.then.result ≡ write_minute t.args.minute t.args.out.now
unfolding write_minute
decided t =
    let a = t.args in
    by_buffer minute_form.size a.out.now (alone_lines a.minute) t.also.ensures t.alone.ensures t.then.ensures

pub returns-in_err-then : goal.returns-in_err-then
returns-in_err-then c =
    let p = err_from_is_err_and c.from_residual.result c.from_residual.ensures.1 in
    rw (p.1, p.2) (sym c.in_err-then.was ∙ decided (goal.at.returns-in_err-then c).After-then, refl)

pub returns : goal.returns
returns c = (sym c.in_ok-then.was ∙ decided (goal.at.returns c).After-then, c.fill.ensures)
