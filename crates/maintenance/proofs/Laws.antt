-- What holds of every list that is kept, and of every list that is not wrong.
use Prim.Native.Nat.{◌≤◌}
use mathlib.Core.Path.{◌≡◌}
use mathlib.Core.Bool.{false, ◌||◌, not}
use mathlib.Core.List.{List}
use native.Mathlib.Omega.{arith}
use borrow.Author.Tests.{ltb-false}
use lib.Dec.{ltb}
use lib.IntN.{ℤ}
use lib.ListN.{length, length-append, length-take, length-replicate}
use lib.Seq.{take_all, take-append_seam}
use Rattle.exact.specs.Ranges.{minus}
use Rattle.exact.proofs.Bools.{or_false}
use Rattle.maintenance.specs.Days.{rising, within, list_wrong, maintenance_of, listed_days, KeptList}

pub kept_list : (days : List ℤ) → length days ≤ 64 → KeptList (maintenance_of days)
unfolding maintenance_of
kept_list days h = record { places = simp (length-append, length-take, length-replicate) (omega arith); listed = h }

pub kept_few : (days : List ℤ) → KeptList (maintenance_of days) → length days ≤ 64
unfolding maintenance_of
kept_few days k = k.listed

pub listed-days : (days : List ℤ) → length days ≤ 64 → listed_days (maintenance_of days) ≡ days
unfolding maintenance_of listed_days
listed-days days h = rw (take_all 64 days h, take-append_seam)

pub few : (days : List ℤ) (last : ℤ) → list_wrong days last ≡ false → length days ≤ 64
unfolding list_wrong
few days last e =
    ltb-false 64 (length days) (or_false (ltb 64 (length days)) (not (rising days)) (or_false (ltb 64 (length days) || not (rising days)) (not (within (minus 3660) last days)) e).0).0
