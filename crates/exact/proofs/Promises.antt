-- The promises of Promises.antt.
use Prim.Native.Nat.{ℕ, ◌*◌, ◌≤◌, ◌<◌}
use mathlib.Core.Path.{◌≡◌, refl}
use mathlib.Core.Logic.{◌↔◌}
use native.Mathlib.Omega.{arith}
use Rattle.exact.specs.Fractions.{Frac, ◌⊕◌, ◌⊖◌, ◌⊗◌, ◌⊘◌, whole, le_test, ◌≼◌}
use Rattle.exact.specs.Parts.{Same}
use Rattle.exact.specs.PartsLaws.{PartsLe}
use Rattle.exact.specs.Promises.{FractionsOfSchool, TwoFieldsWorked}
use Rattle.exact.proofs.Fractions.{⊕-assoc, ⊕-neg, ⊕-zero}
use Rattle.exact.proofs.Order.{told-le, tell_le, equal_means_same, ⊕-mono_left, ⊕-cancel}
use Rattle.exact.proofs.Ratios.{parts_ratio, ratio, ratio-≡, ratio-⊕, ratio-⊗, ⊘-unique}
use Rattle.exact.proofs.RoundedFractions.{up_not_below, up_near, down_not_above, down_near}

equal_crosswise : (a b c d : ℕ) → 0 < b → 0 < d → (whole a ⊘ whole b ≡ whole c ⊘ whole d) ↔ (a * d ≡ c * b)
equal_crosswise a b c d hb hd = (
  (λ e.
      let s : Same (parts_ratio a b hb) (parts_ratio c d hd) = equal_means_same (parts_ratio a b hb) (parts_ratio c d hd) (rw (ratio a b hb, ratio c d hd) at e) in
      omega arith),
  (λ e. ratio-≡ a b c d hb hd e),
)

not_above_crosswise : (a b c d : ℕ) → 0 < b → 0 < d → (whole a ⊘ whole b ≼ whole c ⊘ whole d) ↔ (a * d ≤ c * b)
unfolding le_test
not_above_crosswise a b c d hb hd = rw (ratio a b hb, ratio c d hd) (
  (λ t. let l : PartsLe (parts_ratio a b hb) (parts_ratio c d hd) = told-le (parts_ratio a b hb) (parts_ratio c d hd) t in omega arith),
  (λ l. tell_le (parts_ratio a b hb) (parts_ratio c d hd) (omega arith)),
)

⊕-undone : (x y : Frac) → x ⊕ y ⊖ y ≡ x
unfolding ◌⊖◌
⊕-undone x y = rw (⊕-assoc, ⊕-neg, ⊕-zero)

pub fractions_of_school : FractionsOfSchool
fractions_of_school = record {
  equal = equal_crosswise;
  not_above = not_above_crosswise;
  sum = ratio-⊕;
  product = ratio-⊗;
  difference = λ x y. ⊕-undone x y;
  quotient = λ x y h. ⊘-unique (x ⊗ y) y x h refl;
  order = λ x y z. (⊕-mono_left x y z, ⊕-cancel x y z);
  rounded_up = λ x. (up_not_below x, up_near x);
  rounded_down = λ x. (down_not_above x, down_near x);
}

pub two_fields_worked : TwoFieldsWorked
two_fields_worked = record { written = refl; read_back = refl }
