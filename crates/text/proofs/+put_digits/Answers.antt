use Prim.Native.Nat.{◌-◌}
use mathlib.Core.Path.{◌≡◌}
use native.Mathlib.Omega.{arith}
use lib.ListN.{length}
use Rattle.text.proofs.Decimals.{last-two, last_first, last_none}
use Rattle.text.proofs.+put_digits.Goals as goal

pub returns-in-Some : goal.returns-in-Some
returns-in-Some t c =
    let before : length c.in-Some.front.now ≡ length c.args.digits.now - 2 = omega (arith, c.in-Some.ensures.cases.2) in
    rw (c.put_digits.ensures, before, last-two (length c.args.digits.now) c.args.n (omega (arith, c.in-Some.ensures.cases.2)))

pub returns-in-Some-last_mut : goal.returns-in-Some-last_mut
returns-in-Some-last_mut t c =
    last_first c.args.digits.now c.args.n (omega (arith, c.in_default.ensures.cases)) (c.in-Some-last_mut.ensures.item.3.0)

pub returns-in_default-last_mut : goal.returns-in_default-last_mut
returns-in_default-last_mut t c = last_none c.args.digits.now c.args.n c.in_default-last_mut.ensures.item.3
