-- The call's contract leaves one state of the page, its buffer and its place.
-- `Learnt κs a x e` is what the contract says of the arguments a, the result x and the state e at exit; κs are the lifetimes.
use mathlib.Core.Path.{refl, sym, ◌∙◌}
use Rattle.exact.specs.One.{OneOutcome}
use Rattle.text.proofs.Unique.{state, same_state}
use Rattle.summary.proofs.put_rule.Reads as put-rule

pub put-rule_one : (κs : _) (a : _) → OneOutcome (λ e. state e.0.now) (put-rule.Learnt κs a)
put-rule_one κs a x y e f p q = (refl, same_state (p.holds ∙ sym q.holds) (p.place ∙ sym q.place))
