use Rattle.account.specs.Opening.{fresh}
use Rattle.account.proofs.Account.fresh.Goals as goal

pub returns : goal.returns
unfolding fresh
returns c = rw (c.none-rows.ensures, c.of.ensures, c.none.ensures)
