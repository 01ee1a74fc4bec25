use mathlib.Core.Path.{ap, ◌∙◌}
use Prim.Native.Nat.{ℕ, ◌+◌, ◌*◌, ◌/◌, ◌%◌}
use native.Mathlib.Omega.{arith}
use Rattle.exact.proofs.Rounding.{ceil_le_self, share_ceil}
use Rattle.nanograms.proofs.Sizes.{share_within}
use Rattle.nanograms.proofs.share_ng.Goals as goal

pub overflow_add-result : goal.overflow_add-result
overflow_add-result c =
    let a = c.args in
    let w = share_within a.fed a.millionths c.requires.0 c.requires.1 in
    record { fits = omega (arith, w.0, w.1, c.ceil_div.ensures, ceil_le_self (a.fed % 1000000 * a.millionths) 1000000 (omega arith)) }

pub returns : goal.returns
returns c =
    let a = c.args in
    ap (λ (z : ℕ). a.fed / 1000000 * a.millionths + z) c.ceil_div.ensures ∙ share_ceil a.fed a.millionths 1000000 (omega arith)
