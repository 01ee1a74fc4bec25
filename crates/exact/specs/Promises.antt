-- R5, R7, R29, R43: what a reader needs of the fractions, and a layout of two fields worked out.
use Rattle.std.specs.Prelude.{ℕ, ◌+◌, ◌*◌, ◌≤◌, ◌<◌, ◌≡◌, ◌↔◌, [], ◌∷◌}
use Rattle.exact.specs.Fractions.{Frac, ◌⊕◌, ◌⊖◌, ◌⊗◌, ◌⊘◌, whole, ◌≼◌, ◌≺◌, round_up, round_down}
use Rattle.exact.specs.Layout.{Layout, bytes, laid, Maker, read_by}

-- R29, R43: a / b with whole numbers, b above 0, is the fraction of school
pub record FractionsOfSchool : Type 0 where
  -- R29: a / b is c / d exactly where a × d is c × b, and not above it exactly where a × d is not above c × b
  pub equal : (a b c d : ℕ) → 0 < b → 0 < d → (whole a ⊘ whole b ≡ whole c ⊘ whole d) ↔ (a * d ≡ c * b)
  pub not_above : (a b c d : ℕ) → 0 < b → 0 < d → (whole a ⊘ whole b ≼ whole c ⊘ whole d) ↔ (a * d ≤ c * b)
  pub sum : (a b c d : ℕ) → 0 < b → 0 < d → whole a ⊘ whole b ⊕ whole c ⊘ whole d ≡ whole (a * d + c * b) ⊘ whole (b * d)
  pub product : (a b c d : ℕ) → 0 < b → 0 < d → whole a ⊘ whole b ⊗ (whole c ⊘ whole d) ≡ whole (a * c) ⊘ whole (b * d)
  -- R29: - undoes +, and / undoes × by what is above 0; adding the same to both keeps the order
  pub difference : (x y : Frac) → x ⊕ y ⊖ y ≡ x
  pub quotient : (x y : Frac) → whole 0 ≺ y → x ⊗ y ⊘ y ≡ x
  pub order : (x y z : Frac) → (x ≼ y) ↔ (x ⊕ z ≼ y ⊕ z)
  -- R43: rounding up is not below and less than 1 above, rounding down not above and less than 1 below
  pub rounded_up : (x : Frac) → (x ≼ whole (round_up x)) × (whole 0 ≼ x → whole (round_up x) ≺ x ⊕ whole 1)
  pub rounded_down : (x : Frac) → (whole 0 ≼ x → whole (round_down x) ≼ x) × (x ≺ whole (round_down x) ⊕ whole 1)

-- R7: a year in bytes 0 to 1 and a method in byte 2
abbrev pub two_fields : Layout (ℕ × ℕ)
two_fields =
    bytes 0 1 (λ s. s.0)
    ∷ bytes 2 2 (λ s. s.1)
    ∷ []

-- R7: the year and the method, in the table's order
abbrev pub year_and_method : Maker two_fields (ℕ × ℕ)
year_and_method year method = (year, method)

-- R5, R7: of 2027 and 1 the bytes are 7, 235 and 1, since 2027 is 7 × 256 + 235, and they read back
pub record TwoFieldsWorked : Type 0 where
  pub written : laid two_fields (2027, 1) ≡ 7 ∷ 235 ∷ 1 ∷ []
  pub read_back : read_by two_fields year_and_method (7 ∷ 235 ∷ 1 ∷ []) ≡ (2027, 1)
