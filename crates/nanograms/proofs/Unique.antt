-- Each call's contract leaves one result.
-- `Learnt κs a x e` is what the contract says of the arguments a, the result x and the state e at exit; κs are the lifetimes.
use mathlib.Core.Path.{sym, ◌∙◌}
use Rattle.exact.specs.One.{OneResult}
use Rattle.nanograms.proofs.ceil_div.Reads as ceil-div
use Rattle.nanograms.proofs.fed_ng.Reads as fed-ng
use Rattle.nanograms.proofs.emitted_ng.Reads as emitted-ng

pub ceil_div_one : (κs : _) (a : _) → OneResult (ceil-div.Learnt κs a)
ceil_div_one κs a x y e f p q = p ∙ sym q

pub fed_ng_one : (κs : _) (a : _) → OneResult (fed-ng.Learnt κs a)
fed_ng_one κs a x y e f p q = p ∙ sym q

pub emitted-ng_one : (κs : _) (a : _) → OneResult (emitted-ng.Learnt κs a)
emitted-ng_one κs a x y e f p q = p ∙ sym q
