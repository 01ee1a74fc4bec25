use mathlib.Core.Path.{◌≡◌, sym, ap, subst}
use Prim.Native.Nat.{◌≤◌}
use native.Mathlib.Omega.{arith}
use Rattle.tool06.specs.declared.loss.Loss.{Loss}
use Rattle.tool06.specs.declared.loss.Ruling.{Ruling}
use Rattle.tool06.specs.scaffold.Nanograms.{Takes, figures_ng}
use Rattle.tool06.specs.Rules.{the_rule}
use Rattle.tool06.specs.Short.{F_RG_ng}
use Rattle.tool06.proofs.Amounts.{emitted_within}
use Rattle.judge.proofs.figures.figures_of.Goals as goal
use Rattle.judge.proofs.figures.figures_of.Goals.{After-emitted_ng-emitted, After-rule_of-rule}

-- the loss is that of the rule
loss-is : (v : After-rule_of-rule) → let a = v.args in v.rule_of-rule.result.loss ≡ (the_rule a.site a.minute a.in_time).loss
loss-is v = ap (λ (r : Ruling). r.loss) v.rule_of-rule.ensures

takes : (v : After-rule_of-rule) → Takes v.rule_of-rule.result.loss v.args.minute
takes v = subst (λ (l : Loss). Takes l v.args.minute) (sym (loss-is v)) v.requires.2

within : (e : After-emitted_ng-emitted) → e.emitted_ng-emitted.result ≤ F_RG_ng e.args.minute
within e =
    rw e.emitted_ng-emitted.ensures (emitted_within e.rule_of-rule.result.loss e.args.minute e.requires.1 (takes (goal.at.After-emitted_ng-emitted e).After-rule_of-rule))

pub ceil_div-requires-2 : goal.ceil_div-requires-2
ceil_div-requires-2 c =
    let most = c.requires.0 in
    omega (arith, within (goal.at.ceil_div-requires-2 c).After-emitted_ng-emitted)

pub overflow_sub-result : goal.overflow_sub-result
overflow_sub-result c =
    let fed = c.fed_ng-fed.ensures in
    omega (arith, within (goal.at.overflow_sub-result c).After-emitted_ng-emitted)

pub returns : goal.returns
unfolding figures_ng
returns c =
    rw (
      c.ceil_div-2.ensures,
      c.ceil_div.ensures,
      c.emitted_ng-emitted.ensures,
      c.fed_ng-fed.ensures,
      c.rule_of-rule.ensures,
    )
