-- No line of an account is cut: each is its pieces, and each piece has so many bytes at most.
use Rattle.std.specs.Prelude.{Result, Ok, Err}
use Rattle.refusals.specs.declared.refusal.Refusal.{Refusal}
use Prim.Native.Nat.{ℕ, ◌≤◌}
use native.Mathlib.Omega.{arith}
use lib.ListN.{length, length-append}
use Rattle.sums.specs.declared.Sums.{Sums}
use Rattle.account.specs.Closing.{co2e, closing}
use Rattle.account.specs.declared.Account.{Account}
use Rattle.text.proofs.Decimals.{decimal-within}
use Rattle.lines.proofs.NoneCut.{methane-within}
use Rattle.sheet.specs.Promises.{SheetUncut}
use Rattle.sheet.specs.Sheet.{sums_text, total_line, standing, year_line}

sums_within : (s : Sums) (co2e : ℕ) → length (sums_text s co2e) ≤ 156
unfolding sums_text
sums_within s co2e =
    simp length-append (omega (arith, decimal-within s.minutes, decimal-within s.gas, methane-within s.fed s.emitted s.destroyed, decimal-within co2e))

total-within : (a : Account) → length (total_line a) ≤ 163
unfolding total_line
total-within a =
    simp length-append (omega (arith, sums_within a.sums (co2e a)))

standing-within : (closed : Result ℕ Refusal) → length (standing closed) ≤ 28
unfolding standing
standing-within (Ok t) = simp length-append (omega (arith, decimal-within t))
standing-within (Err r) = omega arith

year-within : (a : Account) → length (year_line a) ≤ 163
unfolding year_line
year-within a = simp length-append (omega (arith, decimal-within a.site.year, standing-within (closing a)))

pub sheet_uncut : SheetUncut
sheet_uncut = record { total = total-within; year = year-within }
