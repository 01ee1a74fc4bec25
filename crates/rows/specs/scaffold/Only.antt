-- Sums where a test holds, as the laws of a row have them.
use Rattle.std.specs.Prelude.{Bool, true, false}
use Rattle.sums.specs.Sums.{no_sums}
use Rattle.sums.specs.declared.Sums.{Sums}

abbrev pub only : Bool → Sums → Sums
only true s = s
only false s = no_sums
