-- The call's contract leaves one result.
-- `Learnt κs a x e` is what the contract says of the arguments a, the result x and the state e at exit; κs are the lifetimes.
use mathlib.Core.Path.{sym, ◌∙◌}
use Rattle.exact.specs.One.{OneResult}
use Rattle.by_month.proofs.month.Reads as month

pub month_one : (κs : _) (a : _) → OneResult (month.Learnt κs a)
month_one κs a x y e f p q = p ∙ sym q
