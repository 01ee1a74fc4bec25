use native.Mathlib.Omega.{arith}
use Rattle.text.proofs.Putting.{onwards}
use Rattle.room.proofs.Placing.{there, nowhere}
use Rattle.lines.specs.Lines.{site_line}
use Rattle.lines.proofs.put_site.Goals as goal

pub returns-then-room-ge-LONGEST : goal.returns-then-room-ge-LONGEST
unfolding site_line
returns-then-room-ge-LONGEST c =
    let number = rw c.number.ensures at c.decimal.ensures.put_from in
    there (omega arith) (onwards (onwards c.text.ensures number) c.text-then-room-ge-LONGEST.ensures)

pub returns-else-room-ge-LONGEST : goal.returns-else-room-ge-LONGEST
returns-else-room-ge-LONGEST c = nowhere _ _ (omega arith)
