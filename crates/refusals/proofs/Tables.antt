-- Laws of tables of refusals.
use Rattle.std.specs.Prelude.{Result, Ok, Err}
use mathlib.Core.Path.{◌≡◌, refl, sym, ap₂, ◌∙◌}
use Prim.Native.Nat.{ℕ}
use mathlib.Core.Bool.{Bool, true, false}
use mathlib.Core.List.{List, [], ◌∷◌, ◌++◌}
use native.Mathlib.Omega.{arith}
use Rattle.refusals.specs.Tables.{Line, when, first_of, also, followed_by}
use Rattle.refusals.specs.declared.refusal.Refusal.{Refusal}

-- the lines one after the other, from a verdict on, as `Verdict::also` takes them
abbrev pub chain : Result Unit Refusal → List Line → Result Unit Refusal
chain v [] = v
chain v (when bad why ∷ t) = chain (also v bad why) t

kept : (first : Refusal) (t : List Line) → chain (Err first) t ≡ Err first
kept first [] = refl
kept first (when bad why ∷ t) = kept first t

pub chained : (t : List Line) → chain (Ok tt) t ≡ first_of t
chained [] = refl
chained (when true r ∷ t) = kept r t
chained (when false r ∷ t) = chained t

-- two tables, one after the other
pub joined : (t u : List Line) → first_of (t ++ u) ≡ followed_by (first_of t) (first_of u)
joined [] u = refl
joined (when true r ∷ t) u = refl
joined (when false r ∷ t) u = joined t u

-- a verdict after another is that of the two tables
pub followed : (t u : List Line) {v w verdict : Result Unit Refusal} → v ≡ first_of t → w ≡ first_of u → verdict ≡ followed_by v w → verdict ≡ first_of (t ++ u)
followed t u e f both = both ∙ ap₂ followed_by e f ∙ sym (joined t u)

fine_not : {r : Refusal} → ◌≡◌ {A = Result Unit Refusal} (Err r) (Ok tt) → ⊥
fine_not e = let z : ◌≡◌ {A = ℕ} 0 1 = cc in omega arith

both_fine : (v w : Result Unit Refusal) → followed_by v w ≡ Ok tt → (v ≡ Ok tt) × (w ≡ Ok tt)
both_fine (Ok tt) w e = (refl, e)
both_fine (Err r) w e = absurd (fine_not e)

-- two tables are fine only where both are
pub split : (t u : List Line) → first_of (t ++ u) ≡ Ok tt → (first_of t ≡ Ok tt) × (first_of u ≡ Ok tt)
split t u e = both_fine (first_of t) (first_of u) (sym (joined t u) ∙ e)

-- no line of the table matches
abbrev pub NoneOf : List Line → Type 0
NoneOf [] = Unit {0}
NoneOf (when bad why ∷ t) = (bad ≡ false) × NoneOf t

pub none : (t : List Line) → first_of t ≡ Ok tt → NoneOf t
none [] e = tt
none (when true r ∷ t) e = absurd (fine_not e)
none (when false r ∷ t) e = (refl, none t e)

-- one line more, after a table's verdict
pub one_more : (t : List Line) (bad : Bool) (why : Refusal) → also (first_of t) bad why ≡ first_of (t ++ (when bad why ∷ []))
one_more [] true why = refl
one_more [] false why = refl
one_more (when true r ∷ t) bad why = refl
one_more (when false r ∷ t) bad why = one_more t bad why
