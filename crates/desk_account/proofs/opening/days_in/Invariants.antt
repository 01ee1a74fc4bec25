use Rattle.std.proofs.Common.{length}
use Rattle.desk_account.proofs.opening.days_in.Given as goal

abbrev pub decreases-loop-word : goal.decreases-loop-word
decreases-loop-word l = length l.rest
