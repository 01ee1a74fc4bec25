-- Each call's contract leaves one result, and one state of a lent buffer.
-- `Learnt κs a x e` is what the contract says of the arguments a, the result x and the state e at exit; κs are the lifetimes.
use mathlib.Core.Path.{refl, sym, ◌∙◌}
use Rattle.exact.specs.One.{OneResult, OneOutcome}
use Rattle.numbers.proofs.at.Reads as at
use Rattle.numbers.proofs.put.Reads as put
use Rattle.numbers.proofs.signed.Reads as signed
use Rattle.numbers.proofs.unsigned.Reads as unsigned

-- at any type N with its bounds' members
pub at_one : (N : _) (laws : _) (copy : _) (number : _) (n : _) (clone : _) (c : _) (κs : _) (a : _) → OneResult (at.Learnt N laws copy number n clone c κs a)
at_one N laws copy number n clone c κs a x y e f p q = p ∙ sym q

pub put_one : (N : _) (laws : _) (copy : _) (number : _) (n : _) (clone : _) (c : _) (κs : _) (a : _) → OneOutcome (λ e. e.0.now) (put.Learnt N laws copy number n clone c κs a)
put_one N laws copy number n clone c κs a x y e f p q = (refl, p ∙ sym q)

pub signed_one : (κs : _) (a : _) → OneResult (signed.Learnt κs a)
signed_one κs a x y e f p q = p ∙ sym q

pub unsigned_one : (κs : _) (a : _) → OneResult (unsigned.Learnt κs a)
unsigned_one κs a x y e f p q = p ∙ sym q
