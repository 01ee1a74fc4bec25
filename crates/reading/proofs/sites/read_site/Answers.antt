use Rattle.std.specs.Prelude.{Result}
use Rattle.refusals.specs.declared.refusal.Refusal.{Refusal}
use mathlib.Core.Path.{◌≡◌, sym, ◌∙◌}
use Rattle.std.proofs.lemmas.Result.{err_from_is_err_and}
use Rattle.records.specs.House.{answered}
use Rattle.records.proofs.Reading.{by_head, by_fields}
use Rattle.site.specs.Rules.{site_lines}
use Rattle.site.specs.Record.{site_of, site_head_lines, read_site}
use Rattle.reading.proofs.sites.read_site.Goals as goal
use Rattle.reading.proofs.sites.read_site.Goals.{After-verdict}

-- the head's verdict decides, and then the fields'
came : (v : After-verdict) {w : Result Unit Refusal} → v.verdict.result ≡ w → answered v.site_in-site.result w ≡ read_site v.args.bytes.now
unfolding read_site
came v {w} e =
    let b = v.args.bytes.now in
    by_fields site_lines (site_of b) (site_head_lines b) v.site_in-site.result w
    (sym v.head.ensures ∙ v.in_ok-head.was)
    v.site_in-site.ensures
    (sym e ∙ v.verdict.ensures)

pub returns-in_err-head : goal.returns-in_err-head
unfolding read_site
returns-in_err-head c =
    let b = c.args.bytes.now in
    let p = err_from_is_err_and c.from_residual.result c.from_residual.ensures.1 in
    rw (p.1, p.2) (by_head site_lines (site_of b) (site_head_lines b) (sym c.head.ensures ∙ c.in_err-head.was))

pub returns-in_err-verdict : goal.returns-in_err-verdict
returns-in_err-verdict c =
    let p = err_from_is_err_and c.from_residual-in_err-verdict.result c.from_residual-in_err-verdict.ensures.1 in
    rw (p.1, p.2) (came (goal.at.returns-in_err-verdict c).After-verdict c.in_err-verdict.was)

pub returns : goal.returns
returns c = came (goal.at.returns c).After-verdict c.in_ok-verdict.was
