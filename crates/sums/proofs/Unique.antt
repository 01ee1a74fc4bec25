-- Each call's contract leaves one result.
-- `Learnt κs a x e` is what the contract says of the arguments a, the result x and the state e at exit; κs are the lifetimes.
use mathlib.Core.Path.{sym, ◌∙◌}
use Rattle.exact.specs.One.{OneResult}
use Rattle.sums.proofs.Sums.none.Reads as none
use Rattle.sums.proofs.Sums.plus.Reads as plus

pub none_one : (κs : _) (a : _) → OneResult (none.Learnt κs a)
none_one κs a x y e f p q = p ∙ sym q

pub plus_one : (κs : _) (a : _) → OneResult (plus.Learnt κs a)
plus_one κs a x y e f p q = p ∙ sym q
