-- Each call's contract leaves one result.
-- `Learnt κs a x e` is what the contract says of the arguments a, the result x and the state e at exit; κs are the lifetimes.
use mathlib.Core.Path.{sym, ◌∙◌}
use Rattle.exact.specs.One.{OneResult}
use Rattle.site.proofs.Site.is_open.Reads as is_open
use Rattle.site.proofs.Site.minutes.Reads as minutes
use Rattle.site.proofs.Site.verdict.Reads as verdict

pub verdict_one : (κs : _) (a : _) → OneResult (verdict.Learnt κs a)
verdict_one κs a x y e f p q = p ∙ sym q

pub minutes_one : (κs : _) (a : _) → OneResult (minutes.Learnt κs a)
minutes_one κs a x y e f p q = p ∙ sym q

pub is_open_one : (κs : _) (a : _) → OneResult (is_open.Learnt κs a)
is_open_one κs a x y e f p q = p ∙ sym q
