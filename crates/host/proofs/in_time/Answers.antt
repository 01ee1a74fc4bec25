use mathlib.Core.Path.{refl}
use Rattle.host.specs.Single.{since_in_time}
use Rattle.host.proofs.in_time.Goals as goal

pub returns : goal.returns
unfolding since_in_time
returns c = refl
