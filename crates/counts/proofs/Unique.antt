-- The call's contract leaves one result.
-- `Learnt κs a x e` is what the contract says of the arguments a, the result x and the state e at exit; κs are the lifetimes.
use mathlib.Core.Path.{refl, sym, ◌∙◌}
use Rattle.exact.specs.One.{OneOutcome}
use Rattle.counts.proofs.one_more.Reads as one_more

pub one_more_one : (κs : _) (a : _) → OneOutcome (λ e. e.0.now) (one_more.Learnt κs a)
one_more_one κs a x y e f p q = (refl, p ∙ sym q)
