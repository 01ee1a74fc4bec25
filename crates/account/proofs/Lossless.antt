-- Both sums of a chart point are below 2^53.
use Prim.Native.Nat.{ℕ, ◌^◌, ◌≤◌}
use mathlib.Core.Bool.{false}
use native.Mathlib.Omega.{arith}
use lib.Ieee.{binary64, of_int}
use lib.Ieee.Back.{round_whole}
use Rattle.account.specs.Closing.{co2e}
use Rattle.account.specs.Promises.{ConvertedExactly, Lossless}
use Rattle.account.proofs.Within.{sum-within, co2e-within}

exactly : (mg : ℕ) → mg ≤ 2 ^ 53 → ConvertedExactly mg
unfolding of_int
exactly mg h = round_whole binary64 false mg h

pub lossless : Lossless
lossless a k =
    let f = sum-within k a.sums.fed k.sums_within.fed_within in
    let e = co2e-within k in
    (exactly a.sums.fed (omega arith), exactly (co2e a) (omega arith))
