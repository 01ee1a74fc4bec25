-- Each call's contract leaves one result.
-- `Learnt κs a x e` is what the contract says of the arguments a, the result x and the state e at exit; κs are the lifetimes.
use mathlib.Core.Path.{sym, ◌∙◌}
use Rattle.exact.specs.One.{OneResult}
use Rattle.tool06.proofs.Ones.{ones, ones_positive}
use Rattle.due.proofs.Due.answer.Reads as answer
use Rattle.due.proofs.Due.is_full.Reads as is-full

pub answer_one : (κs : _) (a : _) → OneResult (answer.Learnt κs a)
answer_one κs a x y e f p q = p ones ones_positive ∙ sym (q ones ones_positive)

pub is_full_one : (κs : _) (a : _) → OneResult (is-full.Learnt κs a)
is_full_one κs a x y e f p q = p ∙ sym q
