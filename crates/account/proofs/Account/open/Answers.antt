use mathlib.Core.Path.{◌≡◌, refl}
use Rattle.std.proofs.lemmas.Result.{err_from_is_err_and}
use mir.Syntax.{w16}
use mir.ValLaws.{to_z-of_z}
use Rattle.refusals.proofs.Tables.{one_more}
use Rattle.refusals.specs.Tables.{first_of}
use Rattle.site.specs.Rules.{site_lines}
use Rattle.maintenance.specs.Days.{list_wrong}
use Rattle.refusals.specs.declared.refusal.Refusal.TheVariants.{List as LIST}
use Rattle.account.specs.Opening.{last_day, open_lines, opened}
use Rattle.account.proofs.Account.open.Goals as goal
use Rattle.account.proofs.Account.open.Goals.{After-also}

-- the verdict is the table's
decided : (v : After-also) → let a = v.args in v.also.result ≡ first_of (open_lines a.site a.list.now)
unfolding open_lines
decided v =
    let a = v.args in
    let l = v.last_day in
    rw (v.also.ensures, v.verdict.ensures, v.list_wrong-wrong.ensures, to_z-of_z w16 l.result (record { sfits = l.type_inv }), l.ensures)
    (one_more (site_lines a.site) (list_wrong a.list.now (last_day a.site.year)) LIST)

pub returns-in_err-also : goal.returns-in_err-also
unfolding opened
returns-in_err-also c =
    let p = err_from_is_err_and c.from_residual.result c.from_residual.ensures.1 in
    rw (p.1, p.2, ← decided (goal.at.returns-in_err-also c).After-also, c.in_err-also.was) refl

pub returns : goal.returns
unfolding opened
returns c = rw (← decided (goal.at.returns c).After-also, c.in_ok-also.was, c.fresh.ensures)
