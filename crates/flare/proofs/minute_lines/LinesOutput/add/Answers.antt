use mathlib.Core.Path.{sym}
use Rattle.tool06.proofs.Ones.{ones, ones_positive}
use Rattle.flare.proofs.minute_lines.LinesOutput.add.Goals as goal

-- the page is that of the buffer, whichever masses the lines are by
pub shape_of-out-then-not-self : goal.shape_of-out-then-not-self
shape_of-out-then-not-self g c = sym (c.feed-verdict.ensures.value ones ones_positive).2.same_reference

pub shape_of-out-else-not-self : goal.shape_of-out-else-not-self
shape_of-out-else-not-self g c = sym (c.feed-verdict.ensures.value ones ones_positive).2.same_reference
