-- R46, R55, R56, R91: adding a minute: its answer, and what an accepted minute adds.
use Rattle.refusals.specs.declared.refusal.Refusal.{Refusal}
use Rattle.std.specs.Prelude.{Result, Ok, Err, ℕ, ◌/◌, not, List, eqb}
use Rattle.sums.specs.Sums.{◌⊞◌, one_if}
use Rattle.sums.specs.declared.Sums.{Sums}
use Rattle.calendar.specs.Calendar.{month_of}
use Rattle.rows.specs.Rows.{with_in}
use Rattle.tool06.specs.Tool.{Masses}
use Rattle.tool06.specs.declared.figures.Figures.{Figures}
use Rattle.counts.specs.Counts.{one_more}
use Rattle.due.specs.Answer.{answer}
use Rattle.due.specs.declared.Due.{Due}
use Rattle.account.specs.declared.Account.{Account}

-- R51, R55, R56: a record is answered at the account's site and with its list, as the minute expected next, whose number is that of the minutes accepted so far
abbrev pub due : Account → Due
due a = record { site = a.site; maintenance = a.maintenance; minute = a.sums.minutes }

-- R46: 1 for a minute with gas: rule 0 is "no gas"
abbrev pub with_gas : ℕ → ℕ
with_gas rule = one_if (not (eqb rule 0))

-- R46: what an accepted minute adds: one to the minutes, one to those with gas unless its rule is 0, and its three figures
unfoldable pub worth : Figures → Sums
worth f = record { minutes = 1; gas = with_gas f.rule; fed = f.fed; emitted = f.emitted; destroyed = f.destroyed }

-- R91: the month of the day of the minute that is due, which is the accepted minute's own: the minutes before it are its number
abbrev pub month_due : Account → ℕ
month_due a = month_of a.site.year (a.sums.minutes / 1440)

-- R46, R91: the sums with the minute's worth, one more under its rule, and the worth once more in the row of its month
unfoldable pub with_minute : Account → Figures → Account
with_minute a f = record {
  site = a.site;
  maintenance = a.maintenance;
  sums = a.sums ⊞ worth f;
  counts = one_more a.counts f.rule;
  rows = with_in a.rows (month_due a) (worth f);
}

-- R56, R58: "A refusal returns its number and nothing else; the account .. stay[s]"
abbrev pub after_answer : Account → Result Figures Refusal → Account
after_answer a (Ok f) = with_minute a f
after_answer a (Err r) = a

-- R55, R56: the answer, and the account after it
pub record Added : Type 0 where
  pub answer : Result Figures Refusal
  pub account : Account

-- R55, R56: what adding a record comes to
unfoldable pub add_to : Masses → Account → List ℕ → Added
add_to m a b = record { answer = answer m (due a) b; account = after_answer a (answer m (due a) b) }
