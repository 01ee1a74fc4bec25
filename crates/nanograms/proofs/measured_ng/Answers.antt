use mathlib.Core.Path.{ap, ◌∙◌}
use Prim.Native.Nat.{ℕ, ◌+◌, ◌*◌, ◌/◌, ◌%◌, min}
use native.Mathlib.Omega.{arith}
use Rattle.exact.specs.Rounding.{ceil_div}
use Rattle.exact.proofs.Rounding.{ceil_le_self, factor_capped}
use Rattle.tool06.specs.scaffold.Nanograms.{P, Q}
use Rattle.nanograms.proofs.Sizes.{digit-over, tens_within, rest-within}
use Rattle.nanograms.proofs.measured_ng.Goals as goal

pub overflow_add-x : goal.overflow_add-x
overflow_add-x c = let a = c.args in record { fits = omega (arith, digit-over a.air a.tenths a.fed (omega arith) (omega arith)) }

pub overflow_add-x-2 : goal.overflow_add-x-2
overflow_add-x-2 c =
    let a = c.args in
    let e = a.air * (a.tenths * (a.fed % 10)) in
    record { fits = omega (arith, digit-over a.air a.tenths a.fed (omega arith) (omega arith), rest-within a.x e, c.ceil_div-rest.ensures) }

pub ceil_div-up-requires : goal.ceil_div-up-requires
ceil_div-up-requires c =
    let a = c.args in
    let e = a.air * (a.tenths * (a.fed % 10)) in
    omega (arith, digit-over a.air a.tenths a.fed (omega arith) (omega arith), rest-within a.x e, c.ceil_div-rest.ensures)

pub overflow_add-tenths : goal.overflow_add-tenths
overflow_add-tenths c =
    let a = c.args in
    let e = a.air * (a.tenths * (a.fed % 10)) in
    let r = c.ceil_div-rest.result in
    record { fits = omega (arith, tens_within a.tenths a.fed (omega arith) (omega arith), digit-over a.air a.tenths a.fed (omega arith) (omega arith), rest-within a.x e, c.ceil_div-rest.ensures, c.ceil_div-up.ensures, ceil_le_self (a.x / Q * P + r) (2 * a.air) (omega arith)) }

pub returns : goal.returns
returns c =
    let a = c.args in
    c.min.ensures
    ∙ ap (λ (z : ℕ). min (a.tenths * (a.fed / 10) + z) a.fed) (c.ceil_div-up.ensures ∙ ap (λ (z : ℕ). ceil_div (a.x / Q * P + z) (2 * a.air)) c.ceil_div-rest.ensures)
    ∙ factor_capped a.x a.air P Q a.fed a.tenths (omega arith) (omega arith)
