-- Each call's contract leaves one result.
-- `Learnt κs a x e` is what the contract says of the arguments a, the result x and the state e at exit; κs are the lifetimes.
use mathlib.Core.Path.{sym, ◌∙◌}
use Rattle.exact.specs.One.{OneResult}
use Rattle.minute.proofs.Minute.alone.Reads as alone
use Rattle.minute.proofs.Minute.has.Reads as has
use Rattle.minute.proofs.Minute.verdict.Reads as verdict

pub verdict_one : (κs : _) (a : _) → OneResult (verdict.Learnt κs a)
verdict_one κs a x y e f p q = p ∙ sym q

pub has_one : (κs : _) (a : _) → OneResult (has.Learnt κs a)
has_one κs a x y e f p q = p ∙ sym q

pub alone_one : (κs : _) (a : _) → OneResult (alone.Learnt κs a)
alone_one κs a x y e f p q = p ∙ sym q
