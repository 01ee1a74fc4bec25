-- Each call's contract leaves one result, and one state of a lent buffer.
-- `Learnt κs a x e` is what the contract says of the arguments a, the result x and the state e at exit; κs are the lifetimes.
use mathlib.Core.Path.{refl, sym, ◌∙◌}
use Rattle.exact.specs.One.{OneResult, OneOutcome}
use Rattle.records.proofs.head.Reads as head
use Rattle.records.proofs.put_head.Reads as put-head

pub head_one : (κs : _) (a : _) → OneResult (head.Learnt κs a)
head_one κs a x y e f p q = p ∙ sym q

pub put_head_one : (κs : _) (a : _) → OneOutcome (λ e. e.0.now) (put-head.Learnt κs a)
put_head_one κs a x y e f p q = (refl, p ∙ sym q)
