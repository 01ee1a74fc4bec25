-- R89: what every account that the calls can give has: a site and a list that opening does not refuse, room for its sums, and arrays of their length.
use Rattle.std.specs.Prelude.{Ok, ℕ, ◌+◌, ◌≤◌, ◌≡◌, length, get_or}
use Rattle.refusals.specs.Tables.{first_of}
use Rattle.site.specs.Rules.{year_minutes}
use Rattle.sums.specs.Within.{Within}
use Rattle.rows.specs.Rows.{month_count, row_of, together}
use Rattle.maintenance.specs.Days.{listed_days, KeptList}
use Rattle.tool06.specs.Rules.{rule_count}
use Rattle.counts.specs.Counts.{sum}
use Rattle.account.specs.Opening.{open_lines}
use Rattle.account.specs.declared.Account.{Account}

-- R89: what every call that takes an account requires of it
pub record Kept (a : Account) : Type 0 where
  pub opens : first_of (open_lines a.site (listed_days a.maintenance)) ≡ Ok tt
  pub minutes_within : a.sums.minutes ≤ year_minutes a.site.year
  pub list_kept : KeptList a.maintenance
  pub counts_all : length a.counts ≡ rule_count
  -- each minute is counted under one rule, and those under rule 0 have no gas
  pub counts_sum : sum a.counts ≡ a.sums.minutes
  pub gas_counted : a.sums.gas + get_or a.counts 0 0 ≡ a.sums.minutes
  -- 71.6 kg at most in a minute with gas
  pub sums_within : Within a.sums
  pub rows_all : length a.rows ≡ month_count
  -- R94: the months' rows add up to the sums, and each has the same room
  pub rows_add_up : together a.rows ≡ a.sums
  pub rows_within : (k : ℕ) → Within (row_of a.rows k)
