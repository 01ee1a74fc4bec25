-- The call's contract leaves one result.
-- `Learnt κs a x e` is what the contract says of the arguments a, the result x and the state e at exit; κs are the lifetimes.
use mathlib.Core.Path.{sym, ◌∙◌}
use Rattle.exact.specs.One.{OneResult}
use Rattle.worked.proofs.examples.Reads as examples

pub examples_one : (κs : _) (a : _) → OneResult (examples.Learnt κs a)
examples_one κs a x y e f p q = p ∙ sym q
