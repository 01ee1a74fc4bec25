-- Every line of the table is what the definitions answer, by the whole numbers that the code computes.
use Rattle.std.specs.Prelude.{Ok}
use mathlib.Core.Path.{◌≡◌, refl, sym, ap₂, ◌∙◌}
use mathlib.Core.Bool.{true, false}
use mathlib.Core.List.{List, [], ◌∷◌, map}
use Rattle.exact.specs.Rounding.{ceil_div}
use Rattle.refusals.specs.Tables.{first_of}
use Rattle.site.specs.Rules.{site_lines}
use Rattle.minute.specs.Rules.{composition_wrong, minute_lines}
use Rattle.tool06.specs.Judged.{judged}
use Rattle.tool06.specs.scaffold.Nanograms.{emitted_ng, figures_ng, judged_ng}
use Rattle.tool06.specs.Rules.{rule_lines, the_rule}
use Rattle.tool06.specs.Tool.{Masses, Positive}
use Rattle.tool06.proofs.Amounts.{same_judged}
use Rattle.worked.specs.declared.Example.{Example}
use Rattle.worked.specs.Table.{table, TableHolds}

in_nanograms : (m : Masses) → Positive m → (xs : List Example) → map (λ x. first_of (site_lines x.site)) xs ≡ map (λ x. (Ok tt)) xs → map (λ x. judged m false x.site x.minute true) xs ≡ map (λ x. judged_ng false x.site x.minute true) xs
in_nanograms m pos [] fine = refl
in_nanograms m pos (x ∷ xs) fine = ap₂ ◌∷◌ (sym (same_judged m pos false x.site x.minute true cc)) (in_nanograms m pos xs cc)

computed : map (λ x. judged_ng false x.site x.minute true) table ≡ map (λ x. x.answer) table
unfolding table judged_ng figures_ng emitted_ng ceil_div the_rule rule_lines site_lines minute_lines composition_wrong
computed = refl

examined : map (λ x. first_of (site_lines x.site)) table ≡ map (λ x. (Ok tt)) table
unfolding table site_lines
examined = refl

pub table-holds : TableHolds
table-holds = (examined, λ m pos. in_nanograms m pos table examined ∙ computed)
