-- Each call's contract leaves one result.
-- `Learnt κs a x e` is what the contract says of the arguments a, the result x and the state e at exit; κs are the lifetimes.
use mathlib.Core.Path.{sym, ◌∙◌}
use Rattle.exact.specs.One.{OneResult}
use Rattle.maintenance.proofs.list.Maintenance.of.Reads as of
use Rattle.maintenance.proofs.list.list_wrong.Reads as list-wrong
use Rattle.maintenance.proofs.time.in_time.Reads as in-time

pub of_one : (κs : _) (a : _) → OneResult (of.Learnt κs a)
of_one κs a x y e f p q = p ∙ sym q

pub list_wrong_one : (κs : _) (a : _) → OneResult (list-wrong.Learnt κs a)
list_wrong_one κs a x y e f p q = p ∙ sym q

pub in_time_one : (κs : _) (a : _) → OneResult (in-time.Learnt κs a)
in_time_one κs a x y e f p q = p ∙ sym q
