-- What sums of at most a year have, so that they fit into their numbers.
use Rattle.std.specs.Prelude.{ℕ, ◌≤◌}
use Rattle.sums.specs.Within.{Within}
use Rattle.sums.specs.declared.Sums.{Sums}

-- minutes in a year, at most
abbrev pub minutes_most : ℕ
minutes_most = 527040

pub record Fits (s : Sums) : Type 0 where
  pub minutes_fit : s.minutes ≤ minutes_most
  pub gas_fits : s.gas ≤ minutes_most
  pub within : Within s
