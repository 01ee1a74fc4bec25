use mathlib.Core.Path.{refl}
use lib.Ieee.{of_bits, of_int}
use Rattle.tonnes.specs.Tonnes.{in_tonnes}
use Rattle.tonnes.proofs.in_tonnes.Goals as goal

pub returns : goal.returns
unfolding in_tonnes of_bits of_int
returns c = refl
