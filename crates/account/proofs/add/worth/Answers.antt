use Rattle.account.specs.Adding.{worth}
use Rattle.account.proofs.add.worth.Goals as goal

pub returns : goal.returns
unfolding worth
returns c = rw c.with_gas.ensures
