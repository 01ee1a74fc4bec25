use mathlib.Core.Path.{refl}
use Rattle.sums.specs.Sums.{no_sums}
use Rattle.sums.proofs.Sums.none.Goals as goal

pub returns : goal.returns
unfolding no_sums
returns c = refl
