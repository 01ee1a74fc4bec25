use mathlib.Core.Path.{refl}
use Rattle.account.specs.Closing.{co2e}
use Rattle.account.proofs.Account.co2e.Goals as goal

pub returns : goal.returns
unfolding co2e
returns c = refl
