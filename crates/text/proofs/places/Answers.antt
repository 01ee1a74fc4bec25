use Prim.Native.Nat.{◌+◌}
use mathlib.Core.Path.{sym}
use native.Mathlib.Nat.{pow-suc}
use native.Mathlib.Numerals.{add-one}
use native.Mathlib.Omega.{arith}
use Rattle.text.proofs.Decimals.{decimal_long}
use Rattle.text.proofs.places.Goals as goal

pub returns-in-Some-clause-value : goal.returns-in-Some-clause-value
returns-in-Some-clause-value c =
    let k = c.in-Some.power in
    let is = c.in-Some.ensures in
    let ten = pow-suc 10 k in
    sym (decimal_long (k + 1) c.args.n (omega (arith, is.bound)) (record { some = omega arith; below = rw add-one (omega (arith, is.next_power_gt)); above = λ h. rw add-one (omega (arith, is.power_le)) }))

pub returns-in-None-clause-value : goal.returns-in-None-clause-value
returns-in-None-clause-value c =
    let none = c.in-None.ensures.none in
    sym (decimal_long 1 c.args.n (omega arith) (record { some = omega arith; below = omega arith; above = λ h. absurd (omega arith) }))
