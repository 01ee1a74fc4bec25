-- R8, R9: the ranges that a site's limits and a minute's readings share.
use Rattle.std.specs.Prelude.{ℕ, Bool, ℤ, pos}
use Rattle.exact.specs.Ranges.{above, outside_z, minus}

-- R6, R8, R9: tenths of a degree Celsius, -500..15,000
abbrev pub temperature_outside : ℤ → Bool
temperature_outside t = outside_z (minus 500) (pos 15000) t

-- R8, R9: litres a minute, 0..100,000
abbrev pub flow_outside : ℕ → Bool
flow_outside litres = above 100000 litres
