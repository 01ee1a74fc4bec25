-- A list that rises strictly within its days, one day after another.
use Prim.Native.Nat.{ℕ, zero, suc, ◌+◌, ◌≤◌, ◌<◌}
use mathlib.Core.Path.{◌≡◌, refl}
use mathlib.Core.Bool.{Bool, true, false, ◌||◌, ◌&&◌, not, true≢false}
use mathlib.Core.List.{List, [], ◌∷◌}
use native.Mathlib.Numerals.{add-one}
use native.Mathlib.Omega.{arith}
use borrow.Author.Tests.{leb-true, leb-false, le-leb, lt-ltb, le-ltb}
use lib.Dec.{leb, ltb, leb-zero, leb-suc-zero, leb-suc-suc}
use lib.IntN.{ℤ, pos, negsuc}
use lib.ListN.{length, get_or, drop}
use lib.Seq.{drop-cons}
use lib.Signed.{lt_z, le_z}
use Rattle.exact.specs.Ranges.{minus}
use Rattle.maintenance.specs.Days.{rising_from, rising, within, list_wrong}

-- above is not at or below
not_leb : (a b : ℕ) → ltb a b ≡ not (leb b a)
not_leb a zero = rw (leb-suc-zero, leb-zero)
not_leb zero (suc b) = rw (leb-suc-suc, leb-zero, leb-suc-zero)
not_leb (suc a) (suc b) = rw (leb-suc-suc (suc a) b, leb-suc-suc b a) (not_leb a b)

not_le_z : (a b : ℤ) → lt_z a b ≡ not (le_z b a)
not_le_z (pos a) (pos b) = not_leb a b
not_le_z (pos a) (negsuc b) = refl
not_le_z (negsuc a) (pos b) = refl
not_le_z (negsuc a) (negsuc b) = not_leb b a

-- a day above the day before the first allowed is no day before the first
from_first : (d : ℤ) → lt_z (minus 3661) d ≡ not (lt_z d (minus 3660))
from_first (pos n) = refl
from_first (negsuc n) = not_leb n 3660

-- nor is a day above a later one, and it may stand before the next itself
pub from_first_on : (before d : ℤ) → le_z (minus 3661) before ≡ true → le_z d before ≡ false → (lt_z d (minus 3660) ≡ false) × (le_z (minus 3661) d ≡ true)
from_first_on before (pos n) low up = (refl, refl)
from_first_on (pos b) (negsuc n) low up = absurd (true≢false up)
from_first_on (negsuc b) (negsuc n) low up =
    let l : n < b = leb-false b n up in
    let m : b ≤ 3660 = leb-true b 3660 low in
    (le-ltb 3659 n (omega arith), le-leb n 3660 (omega arith))

-- how the tests go together
neither : (r w : Bool) → (not r || not w) ≡ not (r && w)
neither true w = refl
neither false w = refl

no_more : (r : Bool) → (r && false) ≡ false
no_more true = refl
no_more false = refl

first_test : (low high r w : Bool) → (r && (not (low || high) && w)) ≡ ((not low && r) && (not (low || high) && w))
first_test true high r w = no_more r
first_test false high r w = refl

day_test : (le low high r w : Bool) → (le ≡ false → low ≡ false) → ((not le && r) && (not (low || high) && w)) ≡ (not (le || high) && (r && w))
day_test true low high r w h = refl
day_test false low true r w h = rw (h refl) (no_more r)
day_test false low false r w h = rw (h refl) refl

module _ (days : List ℤ) (last : ℤ) where
  pub many_wrong : 64 < length days → list_wrong days last ≡ true
  unfolding list_wrong
  many_wrong h = rw (lt-ltb 64 (length days) h)

  pub few_wrong : length days ≤ 64 → list_wrong days last ≡ not (rising days && within (minus 3660) last days)
  unfolding list_wrong
  few_wrong h = rw (le-ltb 64 (length days) h) (neither (rising days) (within (minus 3660) last days))

  -- each day is tested against the day before it and the last
  pub at_day : (before : ℤ) (i : ℕ) → i < length days → le_z (minus 3661) before ≡ true → let d = get_or days i (pos 0) in (rising_from before (drop i days) && within (minus 3660) last (drop i days)) ≡ (not (le_z d before || lt_z last d) && (rising_from d (drop (i + 1) days) && within (minus 3660) last (drop (i + 1) days)))
  unfolding rising_from within
  at_day before i h low =
      let d = get_or days i (pos 0) in
      rw (drop-cons days i (pos 0) h, add-one, not_le_z before d)
      (day_test (le_z d before) (lt_z d (minus 3660)) (lt_z last d) _ _ (λ up. (from_first_on before d low up).0))

-- and the first of them against the day before the first allowed
pub at_first : (days : List ℤ) (last : ℤ) → (rising days && within (minus 3660) last days) ≡ (rising_from (minus 3661) days && within (minus 3660) last days)
unfolding rising rising_from within
at_first [] last = refl
at_first (d ∷ ds) last = rw (from_first d) (first_test (lt_z d (minus 3660)) (lt_z last d) (rising_from d ds) (within (minus 3660) last ds))
