-- Each call's contract leaves one result.
-- `Learnt κs a x e` is what the contract says of the arguments a, the result x and the state e at exit; κs are the lifetimes.
use mathlib.Core.Path.{refl, sym, ◌∙◌}
use Rattle.exact.specs.One.{OneResult, OneOutcome}
use Rattle.rows.proofs.none.Reads as none
use Rattle.rows.proofs.add_in.Reads as add_in

pub none_one : (κs : _) (a : _) → OneResult (none.Learnt κs a)
none_one κs a x y e f p q = p ∙ sym q

pub add_in_one : (κs : _) (a : _) → OneOutcome (λ e. e.0.now) (add_in.Learnt κs a)
add_in_one κs a x y e f p q = (refl, p ∙ sym q)
