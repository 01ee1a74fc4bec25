-- R89: how large sums can be.
use Rattle.std.specs.Prelude.{ℕ, ◌*◌, ◌≤◌}
use Rattle.sums.specs.declared.Sums.{Sums}

-- R89: 71.6 kg, in mg, for each minute with gas
abbrev pub most_mg : ℕ
most_mg = 71600000

-- R89: each of the three sums is at most that
pub record Within (s : Sums) : Type 0 where
  pub fed_within : s.fed ≤ s.gas * most_mg
  pub emitted_within : s.emitted ≤ s.gas * most_mg
  pub destroyed_within : s.destroyed ≤ s.gas * most_mg
