-- What one more under a rule changes.
use Prim.Native.Nat.{ℕ, zero, suc, ◌+◌, ◌≤◌, ◌<◌}
use mathlib.Core.Path.{◌≡◌, refl, sym}
use mathlib.Core.Bool.{Bool, true, false}
use mathlib.Core.List.{List, [], ◌∷◌}
use native.Mathlib.Omega.{arith}
use borrow.Author.Tests.{eqb-true, eqb-false}
use lib.Dec.{eqb}
use lib.ListN.{length, get_or, set}
use lib.Seq.{get_or-set_same, get_or-set_other}
use Rattle.sums.specs.Sums.{one_if}
use Rattle.counts.specs.Counts.{sum, one_more}

-- one more under a rule: the count of that rule is one more, and the others are as they were
pub one_more_at : (counts : List ℕ) (rule k : ℕ) → rule < length counts → get_or (one_more counts rule) k 0 ≡ get_or counts k 0 + one_if (eqb rule k)
one_more_at counts rule k there = by-rule (eqb rule k) refl
  where
    by-rule : (b : Bool) → eqb rule k ≡ b → get_or (one_more counts rule) k 0 ≡ get_or counts k 0 + one_if b
    by-rule true e = rw (← eqb-true rule k e) (get_or-set_same counts rule (get_or counts rule 0 + 1) 0 there)
    by-rule false e =
        let other = get_or-set_other counts rule k (get_or counts rule 0 + 1) 0 (λ z. eqb-false rule k e (sym z)) in
        omega (arith, other)

sum-set : (xs : List ℕ) (k x : ℕ) → k < length xs → sum (set xs k x) + get_or xs k 0 ≡ sum xs + x
sum-set [] k x h = elim h [ ]
sum-set (y ∷ xs) zero x h = omega arith
sum-set (y ∷ xs) (suc k) x h = let e = sum-set xs k x (omega arith) in omega (arith, e)

-- and so their sum is one more
pub sum_more : (counts : List ℕ) (rule : ℕ) → rule < length counts → sum (one_more counts rule) ≡ sum counts + 1
sum_more counts rule there = omega (arith, sum-set counts rule (get_or counts rule 0 + 1) there)

-- one of several is at most their sum
pub one_within : (xs : List ℕ) (k : ℕ) → get_or xs k 0 ≤ sum xs
one_within [] k = omega arith
one_within (x ∷ xs) zero = omega arith
one_within (x ∷ xs) (suc k) = let h = one_within xs k in omega arith
