use Rattle.desk_account.specs.Desk.{Ready}
use Rattle.desk.proofs.hear_all.Given as goal

abbrev pub invariant-loop : goal.invariant-loop
invariant-loop g l = Ready l.talk.desk
