-- R53, R54: "Opening an account takes a site's fields: 3 to 9, then 10".
use Rattle.std.specs.Prelude.{Result, ℕ, ◌-◌, ◌/◌, List, [], ◌∷◌, ◌++◌, ℤ, pos, replicate}
use Rattle.refusals.specs.Tables.{Line, when, first_of}
use Rattle.refusals.specs.declared.refusal.Refusal.{Refusal}
use Rattle.refusals.specs.declared.refusal.Refusal.TheVariants.{List as LIST}
use Rattle.records.specs.House.{answered}
use Rattle.site.specs.Rules.{year_minutes, site_lines}
use Rattle.site.specs.declared.Site.{Site}
use Rattle.sums.specs.Sums.{no_sums}
use Rattle.rows.specs.Rows.{no_rows}
use Rattle.maintenance.specs.Days.{list_wrong, maintenance_of}
use Rattle.tool06.specs.Rules.{rule_count}
use Rattle.account.specs.declared.Account.{Account}

-- R14: "the year's last day": "Days count from 0"
unfoldable pub last_day : ℕ → ℤ
last_day year = pos (year_minutes year / 1440 - 1)

-- R53: 3 to 9 of the site, then 10 of the list
unfoldable pub open_lines : Site → List ℤ → List Line
open_lines s days = site_lines s ++ (when (list_wrong days (last_day s.year)) LIST ∷ [])

-- R1, R46, R91: the account of one flare and one year, with no minute yet
unfoldable pub fresh : Site → List ℤ → Account
fresh s days = record {
  site = s;
  maintenance = maintenance_of days;
  sums = no_sums;
  counts = replicate rule_count 0;
  rows = no_rows;
}

-- R53, R54: that account, or the refusal alone: of what is refused no call takes an account (OnlyOpened)
unfoldable pub opened : Site → List ℤ → Result Account Refusal
opened s days = answered (fresh s days) (first_of (open_lines s days))
