-- A day counted from the lowest 16-bit number is not negative, and the days between two days are the same so counted.
use Prim.Native.Nat.{ℕ, zero, suc, ◌+◌, ◌-◌, ◌≤◌, ◌<◌}
use mathlib.Core.Path.{◌≡◌, refl, ap, ◌∙◌}
use mathlib.Core.Bool.{false}
use native.Mathlib.Omega.{arith}
use borrow.Author.Tests.{le-leb, lt-leb, le-ltb}
use lib.Dec.{T, leb}
use lib.IntN.{ℤ, pos, negsuc, nat_abs, ◌+ℤ◌}
use lib.Signed.{non_neg}
use mir.Syntax.{w16, w32, w64}
use mir.Val.{Fits, SFits, to_z, of_z}
use mir.Facts.{sfits_widen}
use mir.ValLaws.{to_z-of_z}
use Rattle.maintenance.specs.Days.{serves}

-- 32,768 days on it is not negative
counted : (e : ℤ) (f : SFits w16 e) → e +ℤ pos 32768 ≡ pos (nat_abs (e +ℤ pos 32768))
counted (pos n) f = refl
counted (negsuc n) f = rw (le-ltb 32768 (suc n) (omega (arith, f.sfits)))

most : (e : ℤ) (f : SFits w16 e) → nat_abs (e +ℤ pos 32768) < 65536
most (pos n) f = omega (arith, f.sfits)
most (negsuc n) f = rw (le-ltb 32768 (suc n) (omega (arith, f.sfits))) (omega arith)

-- maintenance done
pub in_days : (e : ℤ) (f : SFits w16 e) (d allowed : ℕ) → nat_abs (e +ℤ pos 32768) ≤ d + 32768 → leb (d + 32768 - nat_abs (e +ℤ pos 32768)) allowed ≡ serves d allowed e
unfolding serves
in_days (pos zero) f d allowed h = rw (le-leb 0 d (omega arith)) (ap (λ (n : ℕ). leb n allowed) (omega arith))
in_days (pos (suc n)) f d allowed h =
    rw (le-leb (suc n) d (omega arith), le-ltb d (suc n) (omega arith)) (ap (λ (n : ℕ). leb n allowed) (omega arith))
in_days (negsuc n) f d allowed h =
    rw (le-ltb 32768 (suc n) (omega (arith, f.sfits))) (ap (λ (n : ℕ). leb n allowed) (omega (arith, f.sfits)))

-- maintenance still to come
pub later : (e : ℤ) (f : SFits w16 e) (d allowed : ℕ) → d + 32768 < nat_abs (e +ℤ pos 32768) → false ≡ serves d allowed e
unfolding serves
later (pos n) f d allowed h = rw (lt-leb n d (omega arith))
later (negsuc n) f d allowed h =
    let l = rw (le-ltb 32768 (suc n) (omega (arith, f.sfits))) at h in absurd (omega arith)

-- and so it is in the machine's bits
module _ (e : ℤ) (f : SFits w16 e) where
  pub widened : SFits w32 (to_z w16 (of_z w16 e))
  widened = rw (to_z-of_z w16 e f) (sfits_widen tt f)

  sum_is : to_z w32 (of_z w32 (to_z w16 (of_z w16 e))) +ℤ pos 32768 ≡ e +ℤ pos 32768
  sum_is = rw (to_z-of_z w16 e f, to_z-of_z w32 e (sfits_widen tt f))

  pub sum_fits : SFits w32 (to_z w32 (of_z w32 (to_z w16 (of_z w16 e))) +ℤ pos 32768)
  sum_fits = rw (sum_is, counted e f) (record { sfits = omega (arith, most e f) })

  pub back : to_z w32 (of_z w32 (to_z w32 (of_z w32 (to_z w16 (of_z w16 e))) +ℤ pos 32768)) ≡ e +ℤ pos 32768
  back = to_z-of_z w32 _ sum_fits ∙ sum_is

  pub unsigned : T (non_neg (e +ℤ pos 32768)) × Fits w64 (nat_abs (e +ℤ pos 32768))
  unsigned = (rw (counted e f) tt, record { fits = omega (arith, most e f) })
