-- R88: one possible outcome of each call on records, accounts, runs and single minutes, for every input.
-- `Learnt κs a x e` is all that a caller may know of a call by its contract: its arguments a, its result x, the state e at exit; κs are the lifetimes of what is lent.
use Rattle.std.specs.Prelude.{◌≡◌}
use denote.Slice.{shr_slice_vals}
use Rattle.exact.specs.One.{OneResult, OneOutcome}
use Rattle.reading.proofs.read_site.Reads as read-site
use Rattle.writing.proofs.write_site.Reads as write-site
use Rattle.reading.proofs.read_minute.Reads as read-minute
use Rattle.writing.proofs.write_minute.Reads as write-minute
use Rattle.rules.proofs.class_of.Reads as class_of
use Rattle.account.proofs.Account.open.Reads as open-account
use Rattle.account.proofs.Account.add.Reads as add
use Rattle.account.proofs.Account.co2e.Reads as co2e
use Rattle.account.proofs.Account.close.Reads as close
use Rattle.account.proofs.Account.chart.Reads as chart
use Rattle.account.proofs.Account.site.Reads as site
use Rattle.account.proofs.Account.sums.Reads as sums
use Rattle.account.proofs.Account.minutes.Reads as minutes
use Rattle.account.proofs.Account.counts.Reads as counts
use Rattle.account.proofs.Account.rows.Reads as rows
use Rattle.by_month.proofs.month.Reads as month
use Rattle.run.proofs.check_run.Reads as check-run
use Rattle.day.proofs.day_part.Reads as day-part
use Rattle.host.proofs.flare_minute.Reads as flare-minute

-- R88: two results that a contract allows are equal, and where a buffer is lent so is what it holds afterwards
pub record OneOutcomeOfCalls : Type 1 where
  pub reading_a_site : (κs : _) (a : _) → OneResult (read-site.Learnt κs a)
  pub reading_a_minute : (κs : _) (a : _) → OneResult (read-minute.Learnt κs a)
  pub writing_a_site : (κs : _) (a : _) → OneOutcome (λ e. e.1.0.now) (write-site.Learnt κs a)
  pub writing_a_minute : (κs : _) (a : _) → OneOutcome (λ e. e.1.0.now) (write-minute.Learnt κs a)
  pub classing : (κs : _) (a : _) → OneResult (class_of.Learnt κs a)
  pub opening : (κs : _) (a : _) → OneResult (open-account.Learnt κs a)
  -- R56: the answer, and the account after it
  pub adding : (κs : _) (a : _) → OneOutcome (λ e. e.0.now) (add.Learnt κs a)
  pub co2_equivalent : (κs : _) (a : _) → OneResult (co2e.Learnt κs a)
  pub closing_a_year : (κs : _) (a : _) → OneResult (close.Learnt κs a)
  pub charting : (κs : _) (a : _) → OneResult (chart.Learnt κs a)
  pub asking_a_month : (κs : _) (a : _) → OneResult (month.Learnt κs a)
  -- the readers of an account
  pub reading_site : (κs : _) (a : _) → OneResult (site.Learnt κs a)
  pub reading_sums : (κs : _) (a : _) → OneResult (sums.Learnt κs a)
  pub reading_minutes : (κs : _) (a : _) → OneResult (minutes.Learnt κs a)
  pub reading_counts : (κs : _) (a : _) → OneResult (counts.Learnt κs a)
  pub reading_rows : (κs : _) (a : _) → OneResult (rows.Learnt κs a)
  pub checking_a_run : (κs : _) (a : _) → OneResult (check-run.Learnt κs a)
  -- R63: a part of the run: the same bytes at the same place, so the same pointer and length
  pub part_of_a_day : (κs : _) (a : _) (x y : _) (e f : _) → day-part.Learnt κs a x e → day-part.Learnt κs a y f → (x.now ≡ y.now) × (x.ref_ptr ≡ y.ref_ptr) × (shr_slice_vals x ≡ shr_slice_vals y)
  pub a_single_minute : (κs : _) (a : _) → OneOutcome (λ e. e.1.1.1.0.now) (flare-minute.Learnt κs a)
