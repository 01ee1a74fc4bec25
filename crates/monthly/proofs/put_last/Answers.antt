use mathlib.Core.Path.{refl}
use Rattle.room.proofs.Placing.{no_line}
use Rattle.monthly.proofs.put_last.Goals as goal

pub returns-in_default : goal.returns-in_default
returns-in_default c = no_line _ (rw c.in_default.is refl)
