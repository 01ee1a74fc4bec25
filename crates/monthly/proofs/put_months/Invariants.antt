use Prim.Native.Nat.{◌-◌}
use Rattle.text.specs.Places.{Puts}
use Rattle.monthly.specs.Monthly.{first_months}
use Rattle.monthly.proofs.put_months.Given as goal

-- the lines of the months before stand on the page
abbrev pub invariant-loop-month : goal.invariant-loop-month
invariant-loop-month l = Puts l.initial.page (first_months l.account (l.month - 1)) l.page
