use Prim.Native.Nat.{◌+◌, ◌≤◌}
use native.Mathlib.Omega.{arith}
use Rattle.text.specs.Places.{Puts}
use Rattle.text.proofs.Putting.{onwards}
use Rattle.room.proofs.Placing.{whole}
use Rattle.lines.specs.Lines.{last_line}
use Rattle.lines.proofs.NoneCut.{last_within}
use Rattle.monthly.specs.Monthly.{month_sheet}
use Rattle.monthly.proofs.put_sheet.Goals as goal
use Rattle.monthly.proofs.put_sheet.Goals.{After-put_last}

-- behind the months' lines, that of the refusal
module _ (p : After-put_last) where
  last : Puts p.put_months.new.page (last_line p.args.account.sums.minutes p.args.verdict) p.put_last.new.page
  last = whole (omega arith) (rw p.minutes.ensures at p.put_last.ensures)

  few : p.put_last.new.page.at ≤ p.args.page.now.at + 2119
  few = omega (arith, last.place, last_within p.args.account.sums.minutes p.args.verdict)

pub put_ending-requires-clause-at_in_bounds : goal.put_ending-requires-clause-at_in_bounds
put_ending-requires-clause-at_in_bounds c =
    let p = (goal.at.put_ending-requires-clause-at_in_bounds c).After-put_last in omega (arith, few p, (last p).long)

pub returns : goal.returns
unfolding month_sheet
returns c =
    let p = (goal.at.returns c).After-put_last in
    record { put_from = onwards (onwards c.put_months.ensures.put_from (last p)) c.put_ending.ensures.put_from; within = omega (arith, few p) }
