-- R49: mg in tonnes, as an f64.
use Rattle.std.specs.Prelude.{ℕ, pos, Float}
use Rattle.std.specs.Float.{binary64}
use Rattle.std.specs.Float.Ieee.{of_int, div}

-- R49: "the mg sum converted without loss, then one division by 1e9"
unfoldable pub in_tonnes : ℕ → Float
in_tonnes mg = div binary64 (of_int binary64 (pos mg)) (of_int binary64 (pos 1000000000))
