-- How large the numbers of an account can be.
use Prim.Native.Nat.{ℕ, ◌%◌, ◌*◌, ◌≤◌}
use mathlib.Core.Bool.{Bool, true, false}
use mathlib.Core.Path.{◌≡◌, refl}
use lib.Dec.{eqb}
use native.Mathlib.Omega.{arith}
use Rattle.exact.proofs.Rounding.{mul-within}
use Rattle.site.specs.Rules.{year_minutes}
use Rattle.sums.specs.Sums.{one_if}
use Rattle.sums.specs.Within.{most_mg}
use Rattle.account.specs.Closing.{co2e}
use Rattle.account.specs.Kept.{Kept}
use Rattle.account.specs.declared.Account.{Account}
use Rattle.account.proofs.Opens.{gwp_most, site_examined}

pub year-within : (year : ℕ) → (525600 ≤ year_minutes year) × (year_minutes year ≤ 527040)
year-within year = by_leap (eqb (year % 4) 0) refl
  where
    by_leap : (leap : Bool) → eqb (year % 4) 0 ≡ leap → (525600 ≤ year_minutes year) × (year_minutes year ≤ 527040)
    by_leap true e = rw e (omega arith, omega arith)
    by_leap false e = rw e (omega arith, omega arith)

pub one_if_within : (b : Bool) → one_if b ≤ 1
one_if_within true = omega arith
one_if_within false = omega arith

pub sum-within : {a : Account} → Kept a → (x : ℕ) → x ≤ a.sums.gas * most_mg → x ≤ 37736064000000
sum-within {a} k x h =
    let y = (year-within a.site.year).1 in
    let n = k.minutes_within in
    let g = k.gas_counted in
    omega arith

-- below 2^53 mg
pub gwp_times : {a : Account} → Kept a → (x : ℕ) → x ≤ a.sums.gas * most_mg → a.site.gwp * x ≤ 3773606400000000
gwp_times {a} k x h = mul-within a.site.gwp x 100 37736064000000 (gwp_most a.site (site_examined k)) (sum-within k x h)

pub co2e-within : {a : Account} → Kept a → co2e a ≤ 3773606400000000
unfolding co2e
co2e-within {a} k = gwp_times k a.sums.emitted k.sums_within.emitted_within
