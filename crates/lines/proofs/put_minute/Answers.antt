use native.Mathlib.Omega.{arith}
use Rattle.room.proofs.Placing.{there, nowhere}
use Rattle.lines.proofs.put_minute.Goals as goal

pub returns-in-Ok : goal.returns-in-Ok
returns-in-Ok c = there (omega arith) (rw c.in-Ok.is c.put_accepted.ensures)

pub returns-in-Err : goal.returns-in-Err
returns-in-Err c = there (omega arith) (rw c.in-Err.is c.put_refused.ensures)

pub returns-else-room-ge-LONGEST : goal.returns-else-room-ge-LONGEST
returns-else-room-ge-LONGEST c = nowhere _ _ (omega arith)
