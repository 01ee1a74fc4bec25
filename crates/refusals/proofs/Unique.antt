-- Each call's contract leaves one result.
-- `Learnt κs a x e` is what the contract says of the arguments a, the result x and the state e at exit; κs are the lifetimes.
use mathlib.Core.Path.{sym, ◌∙◌}
use Rattle.exact.specs.One.{OneResult}
use Rattle.refusals.proofs.refusal.Refusal.number.Reads as number
use Rattle.refusals.proofs.verdict.ResultUnitRefusalVerdict.also.Reads as also
use Rattle.refusals.proofs.verdict.ResultUnitRefusalVerdict.then.Reads as then

pub number_one : (κs : _) (a : _) → OneResult (number.Learnt κs a)
number_one κs a x y e f p q = p ∙ sym q

pub also_one : (κs : _) (a : _) → OneResult (also.Learnt κs a)
also_one κs a x y e f p q = p ∙ sym q

pub then_one : (κs : _) (a : _) → OneResult (then.Learnt κs a)
then_one κs a x y e f p q = p ∙ sym q
