use Prim.Native.Nat.{◌≤◌}
use mathlib.Core.Path.{◌≡◌}
use mathlib.Core.Bool.{true, ◌&&◌}
use lib.ListN.{length, drop}
use lib.Signed.{le_z}
use Rattle.exact.specs.Ranges.{minus}
use Rattle.maintenance.specs.Days.{rising_from, rising, within}
use Rattle.maintenance.proofs.list.list_wrong.Given as goal

-- the days that are left decide, and the one before them is at least the day before the first allowed
abbrev pub invariant-loop-day : goal.invariant-loop-day
invariant-loop-day l =
    (length l.list ≤ 64) × (le_z (minus 3661) l.before ≡ true) × ((rising l.list && within (minus 3660) l.last l.list) ≡ (rising_from l.before (drop l.day-index l.list) && within (minus 3660) l.last (drop l.day-index l.list)))
