use borrow.Author.Rules.{sfits_of}
use mathlib.Core.Path.{◌∙◌}
use mir.Syntax.{w16}
use mir.ValLaws.{to_z-of_z}
use Rattle.site.proofs.Bounded.{flow_excluded, temperature_excluded}
use Rattle.tool06.specs.Rules.{rule_lines, last_rule, the_rule}
use Rattle.rules.proofs.Turns.{found_first}
use Rattle.rules.proofs.rule.rule_of.Goals as goal

pub returns : goal.returns
unfolding the_rule rule_lines
returns c =
    let a = c.args in
    simp (
      ← found_first (rule_lines a.site a.minute a.in_time) (last_rule a.site a.minute),
      c.unwrap_or.ensures,
      c.or-8.ensures,
      c.share_if-9.ensures,
      c.or-7.ensures,
      c.share_if-8.ensures,
      c.or-6.ensures,
      c.share_if-7.ensures,
      c.or-5.ensures,
      c.share_if-6.ensures,
      c.or-4.ensures,
      c.share_if-5.ensures,
      c.or-3.ensures,
      c.share_if-4.ensures,
      c.or-2.ensures,
      c.share_if-3.ensures,
      c.or.ensures,
      c.share_if-2.ensures,
      c.share_if.ensures,
      c.exclude-litres_unfit.ensures ∙ flow_excluded a.site.flow a.minute.litres,
      c.exclude-celsius_unfit.ensures ∙ temperature_excluded a.site.temperature _,
      to_z-of_z w16 a.minute.temperature (sfits_of c.struct_told-1.given.1.1.0.1),
      c.is_open-open.ensures,
      c.has-read.ensures,
      c.has-felt.ensures,
      c.has-lit.ensures,
      c.low_tenth-tenth.ensures,
      c.class_of.ensures,
    )
