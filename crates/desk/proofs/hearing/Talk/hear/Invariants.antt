use Rattle.std.proofs.Common.{length}
use Rattle.desk_account.specs.Desk.{Ready}
use Rattle.desk.proofs.hearing.Talk.hear.Given as goal

abbrev pub invariant-loop-end : goal.invariant-loop-end
invariant-loop-end g l = Ready l.self.desk

abbrev pub decreases-loop-end : goal.decreases-loop-end
decreases-loop-end g l = length l.rest
