-- What one more in the row of a month changes.
use Prim.Native.Nat.{ℕ, zero, suc, ◌+◌, ◌-◌, ◌≤◌, ◌<◌}
use mathlib.Core.Path.{◌≡◌, refl, sym, ap, ◌∙◌}
use mathlib.Core.Bool.{Bool, true, false}
use mathlib.Core.List.{List, [], ◌∷◌}
use native.Mathlib.Omega.{arith}
use borrow.Author.Tests.{eqb-true, eqb-false}
use lib.Dec.{eqb}
use lib.ListN.{length, get_or, set, replicate, length-set}
use lib.Seq.{get_or-set_same, get_or-set_other}
use Rattle.sums.specs.Sums.{no_sums, ◌⊞◌}
use Rattle.sums.specs.Within.{Within}
use Rattle.sums.specs.declared.Sums.{Sums}
use Rattle.sums.proofs.Laws.{⊞-none, ⊞-assoc, ⊞-comm, none-⊞, plus_within}
use Rattle.rows.specs.Rows.{no_rows, row_of, with_in, together}
use Rattle.rows.specs.scaffold.Only.{only}

module _ (rows : List Sums) (month : ℕ) (one : Sums) where
  pub length_with_in : length (with_in rows month one) ≡ length rows
  unfolding with_in
  length_with_in = length-set rows (month - 1) (row_of rows month ⊞ one)

  -- the row of any month, once one is added to a month's
  pub row_with_in : (k : ℕ) → 1 ≤ month → 1 ≤ k → k ≤ length rows → row_of (with_in rows month one) k ≡ row_of rows k ⊞ only (eqb month k) one
  unfolding with_in
  row_with_in k m h there = by_test (eqb month k) refl
    where
      by_test : (here : Bool) → eqb month k ≡ here → row_of (set rows (month - 1) (row_of rows month ⊞ one)) k ≡ row_of rows k ⊞ only here one
      by_test true e = rw (eqb-true month k e) (get_or-set_same rows (k - 1) (row_of rows k ⊞ one) no_sums (omega arith))
      by_test false e =
          let other : k - 1 ≡ month - 1 → ⊥ = λ same. eqb-false month k e (omega arith) in
          get_or-set_other rows (month - 1) (k - 1) (row_of rows month ⊞ one) no_sums other ∙ sym (⊞-none (row_of rows k))

-- the rows together, once one is added at a place
together-set : (rows : List Sums) (place : ℕ) (one : Sums) → place < length rows → together (set rows place (get_or rows place no_sums ⊞ one)) ≡ together rows ⊞ one
together-set [] place one h = absurd (omega arith)
together-set (r ∷ rows) zero one h =
    ⊞-assoc r one (together rows) ∙ ap (λ (s : Sums). r ⊞ s) (⊞-comm one (together rows)) ∙ sym (⊞-assoc r (together rows) one)
together-set (r ∷ rows) (suc place) one h =
    ap (λ (s : Sums). r ⊞ s) (together-set rows place one (omega arith)) ∙ sym (⊞-assoc r (together rows) one)

pub together_with_in : (rows : List Sums) (month : ℕ) (one : Sums) → month - 1 < length rows → together (with_in rows month one) ≡ together rows ⊞ one
unfolding with_in
together_with_in rows month one h = together-set rows (month - 1) one h

-- rows of no minute
pub twelve_rows : length no_rows ≡ 12
unfolding no_rows
twelve_rows = refl

pub no_row : (k : ℕ) → row_of no_rows k ≡ no_sums
unfolding no_rows
no_row k = all (k - 1) 12
  where
    all : (i n : ℕ) → get_or (replicate n no_sums) i no_sums ≡ no_sums
    all i zero = refl
    all zero (suc n) = refl
    all (suc i) (suc n) = all i n

pub together_none : together no_rows ≡ no_sums
unfolding no_rows
together_none = all 12
  where
    all : (n : ℕ) → together (replicate n no_sums) ≡ no_sums
    all zero = refl
    all (suc n) = none-⊞ (together (replicate n no_sums)) ∙ all n

-- no row is above the rows together
at_most_lem : (rows : List Sums) (place : ℕ) → let row = get_or rows place no_sums in let all = together rows in (row.minutes ≤ all.minutes) × (row.gas ≤ all.gas)
unfolding no_sums ◌⊞◌
at_most_lem [] place = (omega arith, omega arith)
at_most_lem (r ∷ rows) zero = (omega arith, omega arith)
at_most_lem (r ∷ rows) (suc place) = let h = at_most_lem rows place in (omega (arith, h.0), omega (arith, h.1))

pub row_at_most : (rows : List Sums) (k : ℕ) → ((row_of rows k).minutes ≤ (together rows).minutes) × ((row_of rows k).gas ≤ (together rows).gas)
row_at_most rows k = at_most_lem rows (k - 1)

pub rows-within_with : (rows : List Sums) (month : ℕ) (one : Sums) → ((k : ℕ) → Within (row_of rows k)) → Within one → (k : ℕ) → Within (row_of (with_in rows month one) k)
unfolding with_in
rows-within_with rows month one all w k = each rows (month - 1) (λ place. rw_place place (all (place + 1))) (k - 1)
  where
    rw_place : (place : ℕ) → Within (get_or rows (place + 1 - 1) no_sums) → Within (get_or rows place no_sums)
    rw_place place h = let e : place + 1 - 1 ≡ place = omega arith in rw e at h

    each : (rs : List Sums) (at : ℕ) → ((i : ℕ) → Within (get_or rs i no_sums)) → (i : ℕ) → Within (get_or (set rs at (get_or rs at no_sums ⊞ one)) i no_sums)
    each [] at all i = all i
    each (r ∷ rs) zero all zero = plus_within (all 0) w
    each (r ∷ rs) zero all (suc i) = all (suc i)
    each (r ∷ rs) (suc at) all zero = all 0
    each (r ∷ rs) (suc at) all (suc i) = each rs at (λ j. all (suc j)) i
