-- Each call's contract leaves one state of the page, its buffer and its place.
-- `Learnt κs a x e` is what the contract says of the arguments a, the result x and the state e at exit; κs are the lifetimes.
use mathlib.Core.Path.{refl, sym, ◌∙◌}
use Rattle.exact.specs.One.{OneOutcome}
use Rattle.text.proofs.Unique.{state, same_state}
use Rattle.lines.proofs.put_methane.Reads as put-methane
use Rattle.lines.proofs.put_minute.Reads as put-minute
use Rattle.lines.proofs.put_site.Reads as put-site

pub put-minute_one : (κs : _) (a : _) → OneOutcome (λ e. state e.0.now) (put-minute.Learnt κs a)
put-minute_one κs a x y e f p q = (refl, same_state (p.holds ∙ sym q.holds) (p.place ∙ sym q.place))

pub put-site_one : (κs : _) (a : _) → OneOutcome (λ e. state e.0.now) (put-site.Learnt κs a)
put-site_one κs a x y e f p q = (refl, same_state (p.holds ∙ sym q.holds) (p.place ∙ sym q.place))

pub put-methane_one : (κs : _) (a : _) → OneOutcome (λ e. state e.0.now) (put-methane.Learnt κs a)
put-methane_one κs a x y e f p q = (refl, same_state (p.0.holds ∙ sym q.0.holds) (p.0.place ∙ sym q.0.place))
