-- Each call's contract leaves one state of the page, its buffer and its place.
-- `Learnt κs a x e` is what the contract says of the arguments a, the result x and the state e at exit; κs are the lifetimes.
use mathlib.Core.Path.{refl, sym, ◌∙◌}
use Rattle.exact.specs.One.{OneOutcome}
use Rattle.text.proofs.Unique.{state, same_state}
use Rattle.sheet.proofs.put_count.Reads as put_count
use Rattle.sheet.proofs.put_sums.Reads as put-sums
use Rattle.sheet.proofs.put_total.Reads as put-total
use Rattle.sheet.proofs.put_year.Reads as put-year

pub put-count_one : (κs : _) (a : _) → OneOutcome (λ e. state e.0.now) (put_count.Learnt κs a)
put-count_one κs a x y e f p q = (refl, same_state (p.0.holds ∙ sym q.0.holds) (p.0.place ∙ sym q.0.place))

pub put_sums_one : (κs : _) (a : _) → OneOutcome (λ e. state e.0.now) (put-sums.Learnt κs a)
put_sums_one κs a x y e f p q = (refl, same_state (p.0.holds ∙ sym q.0.holds) (p.0.place ∙ sym q.0.place))

pub put-total_one : (κs : _) (a : _) → OneOutcome (λ e. state e.0.now) (put-total.Learnt κs a)
put-total_one κs a x y e f p q = (refl, same_state (p.holds ∙ sym q.holds) (p.place ∙ sym q.place))

pub put-year_one : (κs : _) (a : _) → OneOutcome (λ e. state e.0.now) (put-year.Learnt κs a)
put-year_one κs a x y e f p q = (refl, same_state (p.holds ∙ sym q.holds) (p.place ∙ sym q.place))
