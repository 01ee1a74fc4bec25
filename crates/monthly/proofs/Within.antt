-- The lines of so many months have so many bytes at most.
use Prim.Native.Nat.{ℕ, zero, suc, ◌*◌, ◌≤◌}
use native.Mathlib.Omega.{arith}
use lib.ListN.{length, length-append}
use Rattle.account.specs.Kept.{Kept}
use Rattle.account.specs.declared.Account.{Account}
use Rattle.month_line.proofs.Uncut.{month_uncut}
use Rattle.monthly.specs.Monthly.{first_months}

pub months-within : (a : Account) → Kept a → (n : ℕ) → length (first_months a n) ≤ n * 163
unfolding first_months
months-within a kept zero = omega arith
months-within a kept (suc n) = rw length-append (omega (arith, months-within a kept n, month_uncut a kept (suc n)))
