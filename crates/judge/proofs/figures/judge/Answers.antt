use Rattle.std.specs.Prelude.{Ok}
use mathlib.Core.Path.{◌≡◌, sym, ap, ◌∙◌}
use Rattle.refusals.specs.Tables.{first_of}
use Rattle.refusals.specs.declared.refusal.Refusal.TheVariants.{Oxygen}
use Rattle.refusals.proofs.Tables.{one_more}
use Rattle.records.specs.House.{answered}
use Rattle.minute.specs.Rules.{minute_lines}
use Rattle.tool06.specs.Judged.{oxygen_wrong, judged_lines}
use Rattle.tool06.specs.scaffold.Nanograms.{figures_ng, judged_ng}
use Rattle.tool06.proofs.Amounts.{same_judged}
use Rattle.tool06.proofs.Facts.{facts, fed_within, rule_takes}
use Rattle.std.proofs.lemmas.Result.{err_from_is_err_and}
use Rattle.judge.proofs.figures.judge.Goals as goal
use Rattle.judge.proofs.figures.judge.Goals.{After-also}

-- the verdict is the table's
decided : (v : After-also) → let a = v.args in v.also.result ≡ first_of (judged_lines a.disordered a.site a.minute)
decided v =
    let a = v.args in
    rw (v.also.ensures, v.oxygen_wrong.ensures, v.verdict.ensures)
    (one_more (minute_lines a.disordered a.minute) (oxygen_wrong a.site a.minute) Oxygen)

pub figures_of-requires : goal.figures_of-requires
figures_of-requires c =
    let a = c.args in
    let f = facts a.disordered a.site a.minute c.requires (sym (decided (goal.at.figures_of-requires c).After-also) ∙ c.in_ok-also.was) in
    (fed_within f, f.oxygen, rule_takes f a.in_time)

pub returns-in_err-also : goal.returns-in_err-also
unfolding judged_ng
returns-in_err-also c m pos =
    let a = c.args in
    let p = err_from_is_err_and c.from_residual.result c.from_residual.ensures.1 in
    rw (p.1, p.2)
    (ap (answered (figures_ng a.site a.minute a.in_time)) (sym c.in_err-also.was ∙ decided (goal.at.returns-in_err-also c).After-also)
    ∙ same_judged m pos a.disordered a.site a.minute a.in_time c.requires)

pub returns : goal.returns
unfolding judged_ng
returns c m pos =
    let a = c.args in
    ap Ok c.figures_of.ensures
    ∙ ap (answered (figures_ng a.site a.minute a.in_time)) (sym c.in_ok-also.was ∙ decided (goal.at.returns c).After-also)
    ∙ same_judged m pos a.disordered a.site a.minute a.in_time c.requires
