-- Each call's contract leaves one result.
-- `Learnt κs a x e` is what the contract says of the arguments a, the result x and the state e at exit; κs are the lifetimes.
use mathlib.Core.Path.{sym, ◌∙◌}
use Rattle.exact.specs.One.{OneResult}
use Rattle.reading.proofs.minutes.minute_in.Reads as minute-in
use Rattle.reading.proofs.minutes.read_minute.Reads as read-minute
use Rattle.reading.proofs.sites.read_site.Reads as read-site
use Rattle.reading.proofs.sites.site_in.Reads as site-in

pub read-site_one : (κs : _) (a : _) → OneResult (read-site.Learnt κs a)
read-site_one κs a x y e f p q = p ∙ sym q

pub site_in_one : (κs : _) (a : _) → OneResult (site-in.Learnt κs a)
site_in_one κs a x y e f p q = p ∙ sym q

pub read-minute_one : (κs : _) (a : _) → OneResult (read-minute.Learnt κs a)
read-minute_one κs a x y e f p q = p ∙ sym q

pub minute_in_one : (κs : _) (a : _) → OneResult (minute-in.Learnt κs a)
minute_in_one κs a x y e f p q = p ∙ sym q
