-- The call's contract leaves one result.
-- `Learnt κs a x e` is what the contract says of the arguments a, the result x and the state e at exit; κs are the lifetimes.
use mathlib.Core.Path.{sym, ◌∙◌}
use Rattle.exact.specs.One.{OneResult}
use Rattle.calendar.proofs.month_of.Reads as month-of

pub month_of_one : (κs : _) (a : _) → OneResult (month-of.Learnt κs a)
month_of_one κs a x y e f p q = p ∙ sym q
