-- Each call's contract leaves one result.
-- `Learnt κs a x e` is what the contract says of the arguments a, the result x and the state e at exit; κs are the lifetimes.
use mathlib.Core.Path.{sym, ◌∙◌}
use Rattle.exact.specs.One.{OneResult, OneOutcome}
use Rattle.tool06.proofs.Ones.{ones, ones_positive}
use Rattle.account.proofs.Account.add.Reads as add
use Rattle.account.proofs.Account.chart.Reads as chart
use Rattle.account.proofs.Account.close.Reads as close
use Rattle.account.proofs.Account.co2e.Reads as co2e
use Rattle.account.proofs.Account.open.Reads as opening
use Rattle.account.proofs.Account.site.Reads as site
use Rattle.account.proofs.Account.sums.Reads as sums
use Rattle.account.proofs.Account.minutes.Reads as minutes
use Rattle.account.proofs.Account.counts.Reads as counts
use Rattle.account.proofs.Account.rows.Reads as rows

pub open_one : (κs : _) (a : _) → OneResult (opening.Learnt κs a)
open_one κs a x y e f p q = p ∙ sym q

pub add_one : (κs : _) (a : _) → OneOutcome (λ e. e.0.now) (add.Learnt κs a)
add_one κs a x y e f p q =
    let u = p ones ones_positive in
    let v = q ones ones_positive in
    (u.0 ∙ sym v.0, u.1 ∙ sym v.1)

pub co2e_one : (κs : _) (a : _) → OneResult (co2e.Learnt κs a)
co2e_one κs a x y e f p q = p ∙ sym q

pub close_one : (κs : _) (a : _) → OneResult (close.Learnt κs a)
close_one κs a x y e f p q = p ∙ sym q

pub chart_one : (κs : _) (a : _) → OneResult (chart.Learnt κs a)
chart_one κs a x y e f p q = p ∙ sym q

-- the readers
pub site_one : (κs : _) (a : _) → OneResult (site.Learnt κs a)
site_one κs a x y e f p q = p ∙ sym q

pub sums_one : (κs : _) (a : _) → OneResult (sums.Learnt κs a)
sums_one κs a x y e f p q = p ∙ sym q

pub minutes_one : (κs : _) (a : _) → OneResult (minutes.Learnt κs a)
minutes_one κs a x y e f p q = p ∙ sym q

pub counts_one : (κs : _) (a : _) → OneResult (counts.Learnt κs a)
counts_one κs a x y e f p q = p ∙ sym q

pub rows_one : (κs : _) (a : _) → OneResult (rows.Learnt κs a)
rows_one κs a x y e f p q = p ∙ sym q
