-- The call's contract leaves one result, and one state of the answer buffer.
-- `Learnt κs a x e` is what the contract says of the arguments a, the result x and the state e at exit; κs are the lifetimes.
use mathlib.Core.Path.{sym, ◌∙◌}
use Rattle.exact.specs.One.{OneOutcome}
use Rattle.tool06.proofs.Ones.{ones, ones_positive}
use Rattle.host.proofs.flare_minute.Reads as flare-minute

pub flare-minute_one : (κs : _) (a : _) → OneOutcome (λ e. e.1.1.1.0.now) (flare-minute.Learnt κs a)
flare-minute_one κs a x y e f p q = (p.0 ∙ sym q.0, p.1 ones ones_positive ∙ sym (q.1 ones ones_positive))
