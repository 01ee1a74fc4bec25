-- Each call's contract leaves one result.
-- `Learnt κs a x e` is what the contract says of the arguments a, the result x and the state e at exit; κs are the lifetimes.
use mathlib.Core.Path.{sym, ◌∙◌}
use Rattle.exact.specs.One.{OneResult}
use Rattle.tonnes.proofs.whole_tonnes.Reads as whole-tonnes
use Rattle.tonnes.proofs.in_tonnes.Reads as in-tonnes

pub whole_tonnes_one : (κs : _) (a : _) → OneResult (whole-tonnes.Learnt κs a)
whole_tonnes_one κs a x y e f p q = p ∙ sym q

pub in_tonnes_one : (κs : _) (a : _) → OneResult (in-tonnes.Learnt κs a)
in_tonnes_one κs a x y e f p q = p ∙ sym q
