use Rattle.account.specs.Kept.{Kept}
use Rattle.desk_account.proofs.adding.fill_up.Given as goal

abbrev pub invariant-loop-taken : goal.invariant-loop-taken
invariant-loop-taken l = Kept l.account
