-- Reading, for any record: the head's table and then the fields'.
use Rattle.std.specs.Prelude.{Result, Ok, Err}
use Prim.Native.Nat.{ℕ}
use mathlib.Core.Path.{◌≡◌, refl, sym, ap, ◌∙◌}
use native.Mathlib.Omega.{arith}
use mathlib.Core.List.{List, ◌++◌}
use Rattle.refusals.specs.Tables.{Line, first_of, followed_by}
use Rattle.records.specs.House.{answered}
use Rattle.refusals.specs.declared.refusal.Refusal.{Refusal}
use Rattle.refusals.proofs.Tables.{joined}

module _ {S : Type 0} (lines : S → List Line) (s : S) (head : List Line) where
  -- where the head refuses
  pub by_head : {r : Refusal} → first_of head ≡ Err r → Err r ≡ answered s (first_of (head ++ lines s))
  by_head e = sym (ap (answered s) (joined head (lines s) ∙ ap (λ (v : Result Unit Refusal). followed_by v (first_of (lines s))) e))

  -- where the fields that were read have the verdict v
  pub by_fields : (read : S) (v : Result Unit Refusal) → first_of head ≡ Ok tt → read ≡ s → v ≡ first_of (lines read) → answered read v ≡ answered s (first_of (head ++ lines s))
  by_fields read v e same verdict =
      ap (answered read) verdict
      ∙ ap (λ (y : S). answered y (first_of (lines y))) same
      ∙ sym (ap (answered s) (joined head (lines s) ∙ ap (λ (w : Result Unit Refusal). followed_by w (first_of (lines s))) e))

refused_not : {S : Type 0} {s : S} {r : Refusal} → ◌≡◌ {A = Result S Refusal} (Err r) (Ok s) → ⊥
refused_not e = let z : ◌≡◌ {A = ℕ} 0 1 = cc in omega arith

-- what is accepted was not refused, and is the fields
pub answered_fine : {S : Type 0} (v : Result Unit Refusal) {s t : S} → answered s v ≡ Ok t → (v ≡ Ok tt) × (s ≡ t)
answered_fine (Ok tt) e = (refl, cc)
answered_fine (Err r) e = absurd (refused_not e)
