-- Each call's contract leaves one result, and one state of the lent buffer.
-- `Learnt κs a x e` is what the contract says of the arguments a, the result x and the state e at exit; κs are the lifetimes.
use mathlib.Core.Path.{ap, sym, ◌∙◌}
use Rattle.exact.specs.One.{OneOutcome}
use Rattle.records.specs.House.{written}
use Rattle.writing.proofs.minutes.write_minute.Reads as write-minute
use Rattle.writing.proofs.sites.write_site.Reads as write-site

pub write-site_one : (κs : _) (a : _) → OneOutcome (λ e. e.1.0.now) (write-site.Learnt κs a)
write-site_one κs a x y e f p q =
    let same = p.0 ∙ sym q.0 in
    (same, p.1 ∙ ap (written _ _) same ∙ sym q.1)

pub write-minute_one : (κs : _) (a : _) → OneOutcome (λ e. e.1.0.now) (write-minute.Learnt κs a)
write-minute_one κs a x y e f p q =
    let same = p.0 ∙ sym q.0 in
    (same, p.1 ∙ ap (written _ _) same ∙ sym q.1)
