use mathlib.Core.Path.{◌≡◌, refl, sym, ◌∙◌}
use Rattle.std.proofs.lemmas.Result.{err_from_is_err_and}
use Rattle.records.proofs.Writing.{by_buffer}
use Rattle.site.specs.Rules.{site_lines}
use Rattle.site.specs.Record.{site_form, write_site}
use Rattle.writing.proofs.sites.write_site.Goals as goal
use Rattle.writing.proofs.sites.write_site.Goals.{After-then}

-- the verdict is the table's
decided : (t : After-then) → t.then.result ≡ write_site t.args.site t.args.out.now
unfolding write_site
decided t =
    let a = t.args in
    by_buffer site_form.size a.out.now (site_lines a.site) t.also.ensures t.verdict.ensures t.then.ensures

pub returns-in_err-then : goal.returns-in_err-then
returns-in_err-then c =
    let p = err_from_is_err_and c.from_residual.result c.from_residual.ensures.1 in
    rw (p.1, p.2) (sym c.in_err-then.was ∙ decided (goal.at.returns-in_err-then c).After-then, refl)

pub returns : goal.returns
returns c = (sym c.in_ok-then.was ∙ decided (goal.at.returns c).After-then, c.fill.ensures)
