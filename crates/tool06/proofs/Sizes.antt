-- How large the figures of one accepted minute can be.
use mathlib.Core.Path.{◌≡◌, refl}
use mathlib.Core.Bool.{Bool, true, false, not}
use mathlib.Core.List.{List, [], ◌∷◌}
use Prim.Native.Nat.{◌*◌, ◌≤◌, ◌<◌}
use lib.Dec.{ltb, eqb}
use native.Mathlib.Omega.{arith}
use borrow.Author.Tests.{ltb-true, ne_eqb}
use Rattle.exact.specs.Rounding.{ceil_div}
use Rattle.exact.specs.RoundingLaws.{ceil_le}
use Rattle.site.specs.declared.Site.{Site}
use Rattle.minute.specs.Rules.{has_gas}
use Rattle.minute.specs.declared.Minute.{Minute}
use Rattle.sums.specs.Sums.{one_if}
use Rattle.sums.specs.Within.{most_mg, Within}
use Rattle.tool06.specs.Bounds.{Entry, IsAccepted, figures_of, worth_of}
use Rattle.tool06.specs.Figures.{figures}
use Rattle.tool06.specs.scaffold.Nanograms.{figures_ng}
use Rattle.tool06.specs.Rules.{RuleLine, rule_count, rule_lines, last_rule, the_rule}
use Rattle.tool06.specs.Short.{F_RG_ng}
use Rattle.tool06.specs.Tool.{Masses, Positive}
use Rattle.tool06.proofs.Amounts.{same_figures}
use Rattle.tool06.proofs.Facts.{facts, fed_within}
use Rattle.tool06.proofs.Rules.{first_numbered}
use Rattle.tool06.proofs.Sums.{one_minute}

below-count : (s : Site) (n : Minute) (in_time : Bool) → (the_rule s n in_time).number < rule_count
unfolding the_rule rule_lines
below-count s n in_time = ltb-true _ _ (first_numbered (λ k. ltb k rule_count) (rule_lines s n in_time) (last_rule s n) refl refl)

-- the lines after the first, which is rule 0's
later : List RuleLine → List RuleLine
later [] = []
later (line ∷ lines) = lines

with_gas_lem : (s : Site) (n : Minute) (in_time : Bool) → has_gas n ≡ true → 0 < (the_rule s n in_time).number
unfolding the_rule rule_lines later
with_gas_lem s n in_time gas =
    rw gas (ltb-true _ _ (first_numbered (λ k. ltb 0 k) (later (rule_lines s n in_time)) (last_rule s n) refl refl))

without_gas : (s : Site) (n : Minute) (in_time : Bool) → has_gas n ≡ false → (the_rule s n in_time).number ≡ 0
unfolding the_rule rule_lines
without_gas s n in_time none = rw none refl

module _ (m : Masses) (e : Entry) where
  -- a minute has gas where its rule is not 0
  pub gas-by-rule : one_if (not (eqb (figures_of m e).rule 0)) ≡ (worth_of m e).gas
  unfolding figures
  gas-by-rule = by-gas (has_gas e.minute) refl
    where
      by-gas : (gas : Bool) → has_gas e.minute ≡ gas → one_if (not (eqb (the_rule e.site e.minute e.in_time).number 0)) ≡ one_if gas
      by-gas true gas =
          let r = with_gas_lem e.site e.minute e.in_time gas in
          rw (ne_eqb (the_rule e.site e.minute e.in_time).number 0 (λ z. omega arith)) refl
      by-gas false none = rw (without_gas e.site e.minute e.in_time none) refl

  pub rule_below : (figures_of m e).rule < rule_count
  unfolding figures
  rule_below = below-count e.site e.minute e.in_time

-- 71.6 kg at most_mg in a minute with gas
fed_most : (m : Masses) → Positive m → (e : Entry) → IsAccepted e → (figures_of m e).fed ≤ (worth_of m e).gas * most_mg
unfolding figures_ng
fed_most m pos e fine = by-gas (has_gas e.minute) refl
  where
    rounded : ceil_div (F_RG_ng e.minute) 1000000 ≤ most_mg
    rounded = (ceil_le (F_RG_ng e.minute) 1000000 most_mg (omega arith)).1 (let h = fed_within (facts false e.site e.minute fine.0 fine.1) in omega arith)

    in_ng : (figures_ng e.site e.minute e.in_time).fed ≤ most_mg
    in_ng = rounded

    by-gas : (gas : Bool) → has_gas e.minute ≡ gas → (figures_of m e).fed ≤ one_if gas * most_mg
    by-gas true gas = rw (← same_figures m pos (facts false e.site e.minute fine.0 fine.1) e.in_time) in_ng
    by-gas false none = let z = ((one_minute m pos e fine).no_gas (rw none refl)).0 in omega arith

pub worth_within : (m : Masses) → Positive m → (e : Entry) → IsAccepted e → Within (worth_of m e)
worth_within m pos e fine =
    let fed = fed_most m pos e fine in
    let within = (one_minute m pos e fine).together_within in
    record { fed_within = fed; emitted_within = omega arith; destroyed_within = omega arith }
