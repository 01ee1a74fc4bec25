-- No line is cut: each is its pieces, and each piece has so many bytes at most.
use Rattle.std.specs.Prelude.{Result, Ok, Err}
use Rattle.tool06.specs.declared.figures.Figures.{Figures}
use Prim.Native.Nat.{ℕ, ◌≤◌}
use native.Mathlib.Omega.{arith}
use lib.ListN.{length, length-append}
use Rattle.refusals.specs.Refusals.{number_of}
use Rattle.refusals.specs.declared.refusal.Refusal.{Refusal}
use Rattle.text.proofs.Decimals.{decimal-within}
use Rattle.lines.specs.Lines.{methane, accepted_line, refused_line, minute_line, last_line, site_line}
use Rattle.lines.specs.Promises.{NoneCut}

pub methane-within : (fed emitted destroyed : ℕ) → length (methane fed emitted destroyed) ≤ 85
unfolding methane
methane-within fed emitted destroyed =
    simp length-append (omega (arith, decimal-within fed, decimal-within emitted, decimal-within destroyed))

minute-within : (minute : ℕ) (answer : Result Figures Refusal) → length (minute_line minute answer) ≤ 163
unfolding accepted_line refused_line
minute-within minute (Ok f) =
    simp length-append (omega (arith, decimal-within minute, decimal-within f.rule, methane-within f.fed f.emitted f.destroyed))
minute-within minute (Err r) =
    simp length-append (omega (arith, decimal-within minute, decimal-within (number_of r)))

pub last_within : (expected : ℕ) (verdict : Result Unit Refusal) → length (last_line expected verdict) ≤ 163
last_within expected (Ok tt) = omega arith
last_within expected (Err r) = minute-within expected (Err r)

site_within : (r : Refusal) → length (site_line r) ≤ 163
unfolding site_line
site_within r = simp length-append (omega (arith, decimal-within (number_of r)))

pub none_cut : NoneCut
none_cut = record { minute = minute-within; site = site_within }
