-- A rule of a table, proved at all of its entries by one test that the checker computes, one entry after the other.
use mathlib.Core.Path.{◌∙◌, subst, sym}
use mathlib.Core.Bool.{Bool, true, false, ◌&&◌}
use mathlib.Core.List.{List, [], ◌∷◌}
use Prim.Native.Nat.{ℕ, zero, suc, ◌+◌, ◌<◌}
use native.Mathlib.Nat.{add-zero, zero-add, add-suc, suc-add, le_of_suc-le-suc, not-suc-le-zero}
use lib.Dec.{T}
use lib.ListN.{length, get_or}

pub first : (a b : Bool) → T (a && b) → T a
first true b t = tt
first false b t = t

pub second : (a b : Bool) → T (a && b) → T b
second true b t = t
second false b t = absurd t

-- the test f passes at each entry of the list and its place, counted from i
abbrev pub throughout : {A : Type 0} → (ℕ → A → Bool) → ℕ → List A → Bool
throughout f i [] = true
throughout f i (x ∷ xs) = f i x && throughout f (suc i) xs

from : {A : Type 0} (f : ℕ → A → Bool) (xs : List A) (i : ℕ) → T (throughout f i xs) → (k : ℕ) (d : A) → k < length xs → T (f (i + k) (get_or xs k d))
from f [] i t k d h = absurd (not-suc-le-zero h)
from f (x ∷ xs) i t zero d h = subst (λ (m : ℕ). T (f m x)) (sym (add-zero i)) (first (f i x) (throughout f (suc i) xs) t)
from f (x ∷ xs) i t (suc k) d h =
    subst (λ (m : ℕ). T (f m (get_or xs k d))) (suc-add i k ∙ sym (add-suc i k))
    (from f xs (suc i) (second (f i x) (throughout f (suc i) xs) t) k d (le_of_suc-le-suc h))

pub at : {A : Type 0} (f : ℕ → A → Bool) (xs : List A) → T (throughout f 0 xs) → (k : ℕ) (d : A) → k < length xs → T (f k (get_or xs k d))
at f xs t k d h = subst (λ (m : ℕ). T (f m (get_or xs k d))) (zero-add k) (from f xs 0 t k d h)
