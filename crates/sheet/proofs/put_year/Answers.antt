use native.Mathlib.Omega.{arith}
use Rattle.text.proofs.Putting.{onwards}
use Rattle.sheet.specs.Sheet.{year_line}
use Rattle.room.proofs.Placing.{there, nowhere}
use Rattle.sheet.proofs.put_year.Goals as goal

pub returns-then-room-ge-LONGEST : goal.returns-then-room-ge-LONGEST
unfolding year_line
returns-then-room-ge-LONGEST c =
    let year = rw c.site-site.ensures at c.decimal.ensures.put_from in
    let stands = rw c.close-closed.ensures at c.put_standing.ensures.put_from in
    there (omega arith) (onwards (onwards (onwards c.text.ensures year) stands) c.text-then-room-ge-LONGEST.ensures)

pub returns-else-room-ge-LONGEST : goal.returns-else-room-ge-LONGEST
returns-else-room-ge-LONGEST c = nowhere _ _ (omega arith)
