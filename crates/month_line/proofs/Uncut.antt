-- No line of a month is cut: it is its pieces, and each piece has so many bytes at most.
use Rattle.std.specs.Prelude.{Result, Ok, Err}
use Rattle.refusals.specs.declared.refusal.Refusal.{Refusal}
use Prim.Native.Nat.{ℕ, ◌≤◌}
use mathlib.Core.Path.{◌≡◌, refl}
use native.Mathlib.Omega.{arith}
use lib.ListN.{length, length-append}
use Rattle.sums.specs.scaffold.Fits.{minutes_most}
use Rattle.account.specs.declared.Account.{Account}
use Rattle.by_month.specs.Month.{month_asked}
use Rattle.by_month.specs.declared.Row.{Row}
use Rattle.by_month.proofs.Laws.{GivenRow, given-row}
use Rattle.text.specs.Text.{decimal}
use Rattle.text.proofs.Decimals.{decimal-within, decimal-below}
use Rattle.lines.proofs.NoneCut.{methane-within}
use Rattle.sheet.specs.Sheet.{sums_text}
use Rattle.month_line.specs.Line.{row_line, asked_line, month_line}
use Rattle.month_line.specs.Promises.{MonthUncut}

-- a number of minutes in a year, at most
six : (n : ℕ) → n ≤ minutes_most → length (decimal n) ≤ 6
six n h = decimal-below 6 n (omega arith) (omega arith)

row_within : (a : Account) (k : ℕ) (row : Row) → GivenRow a k row → length (row_line k row) ≤ 163
unfolding row_line sums_text
row_within a k row given =
    let s = row.sums in
    simp length-append
    (omega (
      arith,
      six k given.month_most,
      six s.minutes given.minutes_most_lem,
      six s.gas given.gas_most,
      methane-within s.fed s.emitted s.destroyed,
      decimal-within row.co2e,
    ))

pub month_uncut : MonthUncut
unfolding month_line
month_uncut a kept k = by_asked (month_asked a k) refl
  where
    by_asked : (asked : Result Row Refusal) → month_asked a k ≡ asked → length (asked_line k asked) ≤ 163
    by_asked (Ok row) e = row_within a k row (given-row kept k row e)
    by_asked (Err r) e = omega arith
