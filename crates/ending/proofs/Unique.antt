-- Each call's contract leaves one state of the page, its buffer and its place.
-- `Learnt κs a x e` is what the contract says of the arguments a, the result x and the state e at exit; κs are the lifetimes.
use mathlib.Core.Path.{refl, sym, ◌∙◌}
use Rattle.exact.specs.One.{OneOutcome}
use Rattle.text.proofs.Unique.{state, same_state}
use Rattle.ending.proofs.put_ending.Reads as put-ending
use Rattle.ending.proofs.put_refused_site.Reads as put-refused-site

pub put-ending_one : (κs : _) (a : _) → OneOutcome (λ e. state e.0.now) (put-ending.Learnt κs a)
put-ending_one κs a x y e f p q = (refl, same_state (p.0.holds ∙ sym q.0.holds) (p.0.place ∙ sym q.0.place))

pub put-refused-site_one : (κs : _) (a : _) → OneOutcome (λ e. state e.0.now) (put-refused-site.Learnt κs a)
put-refused-site_one κs a x y e f p q = (refl, same_state (p.0.holds ∙ sym q.0.holds) (p.0.place ∙ sym q.0.place))
