use native.Mathlib.Omega.{arith}
use Rattle.text.proofs.Putting.{onwards}
use Rattle.sheet.specs.Sheet.{total_line}
use Rattle.room.proofs.Placing.{there, nowhere}
use Rattle.sheet.proofs.put_total.Goals as goal

pub returns-then-room-ge-LONGEST : goal.returns-then-room-ge-LONGEST
unfolding total_line
returns-then-room-ge-LONGEST c =
    let sums = rw (c.co2e-co2e.ensures, c.sums-sums.ensures) at c.put_sums.ensures.put_from in
    there (omega arith) (onwards (onwards c.text.ensures sums) c.text-then-room-ge-LONGEST.ensures)

pub returns-else-room-ge-LONGEST : goal.returns-else-room-ge-LONGEST
returns-else-room-ge-LONGEST c = nowhere _ _ (omega arith)
