-- What a month's row has.
use Rattle.std.specs.Prelude.{Ok}
use Prim.Native.Nat.{ℕ, ◌≤◌}
use mathlib.Core.Path.{◌≡◌, refl}
use mathlib.Core.Bool.{Bool, true, false}
use native.Mathlib.Omega.{arith}
use borrow.Author.Tests.{ltb-false}
use lib.Dec.{ltb}
use Rattle.exact.specs.Ranges.{outside}
use Rattle.exact.proofs.Bools.{or_false}
use Rattle.sums.specs.scaffold.Fits.{minutes_most}
use Rattle.account.specs.Kept.{Kept}
use Rattle.account.specs.declared.Account.{Account}
use Rattle.account.proofs.Laws.{row_most}
use Rattle.account.proofs.Within.{year-within}
use Rattle.by_month.specs.Month.{month_row, month_asked}
use Rattle.by_month.specs.declared.Row.{Row}

-- a month that is not refused
pub a_month : (k : ℕ) → outside 1 12 k ≡ false → (1 ≤ k) × (k ≤ 12)
a_month k inside = let both = or_false (ltb k 1) (ltb 12 k) inside in (ltb-false k 1 both.0, ltb-false 12 k both.1)

-- the row that is given is the month's, and its numbers are a year's at most
pub record GivenRow (a : Account) (k : ℕ) (row : Row) : Type 0 where
  pub is : row ≡ month_row a k
  pub month_most : k ≤ minutes_most
  pub minutes_most_lem : row.sums.minutes ≤ minutes_most
  pub gas_most : row.sums.gas ≤ minutes_most

pub given-row : {a : Account} → Kept a → (k : ℕ) (row : Row) → month_asked a k ≡ Ok row → GivenRow a k row
unfolding month_asked
given-row {a} kept k row e = by_test (outside 1 12 k) refl
  where
    by_test : (out : Bool) → outside 1 12 k ≡ out → GivenRow a k row
    by_test true out = let z = rw out at e in absurd (let y : ◌≡◌ {A = ℕ} 0 1 = cc in omega arith)
    by_test false inside =
        let z = rw inside at e in
        let same : row ≡ month_row a k = cc in
        let most = row_most kept k in
        let y = (year-within a.site.year).1 in
        record {
          is = same;
          month_most = omega (arith, (a_month k inside).1);
          minutes_most_lem = rw same (omega (arith, most.0, kept.minutes_within));
          gas_most = rw same (omega (arith, most.1, kept.gas_counted, kept.minutes_within));
        }
