-- What holds of the first rule that applies.
use mathlib.Core.Path.{◌≡◌, refl}
use Prim.Native.Nat.{ℕ}
use mathlib.Core.Bool.{Bool, true, false, ◌&&◌}
use mathlib.Core.List.{List, [], ◌∷◌}
use Rattle.exact.proofs.Bools.{and_true}
use Rattle.tool06.specs.Rules.{Rule, RuleLine, when, first}

-- row by row: each row's rule where its test holds, and the last where no test does
infixr 20 ◌∣◌
pub data Rows (P : Rule → Type 0) : List RuleLine → Type 0 where
  end : Rows P []
  ◌∣◌ : {test : Bool} {r : Rule} {rest : List RuleLine} → (test ≡ true → P r) → Rows P rest → Rows P (when test r ∷ rest)

abbrev pub NoneHolds : List RuleLine → Type 0
NoneHolds [] = Unit {0}
NoneHolds (when test r ∷ rest) = (test ≡ false) × NoneHolds rest

pub by_rows : (P : Rule → Type 0) (lines : List RuleLine) (last : Rule) → Rows P lines → (NoneHolds lines → P last) → P (first lines last)
by_rows P [] last end p = p tt
by_rows P (when true r ∷ rest) last (row ∣ rows) p = row refl
by_rows P (when false r ∷ rest) last (row ∣ rows) p = by_rows P rest last rows (λ none. p (refl, none))

-- every rule of a list passes a test of its number
abbrev pub numbered : (ℕ → Bool) → List RuleLine → Bool
numbered fits [] = true
numbered fits (when test r ∷ rest) = fits r.number && numbered fits rest

pub first_numbered : (fits : ℕ → Bool) (lines : List RuleLine) (last : Rule) → numbered fits lines ≡ true → fits last.number ≡ true → fits (first lines last).number ≡ true
first_numbered fits [] last all e = e
first_numbered fits (when true r ∷ rest) last all e = (and_true (fits r.number) (numbered fits rest) all).0
first_numbered fits (when false r ∷ rest) last all e =
    first_numbered fits rest last (and_true (fits r.number) (numbered fits rest) all).1 e
