-- R92: the call for one month's row.
use Rattle.refusals.specs.declared.refusal.Refusal.{Refusal}
use Rattle.std.specs.Prelude.{Result, ℕ, ◌*◌, List, [], ◌∷◌}
use Rattle.exact.specs.Ranges.{outside}
use Rattle.refusals.specs.Tables.{Line, when, first_of}
use Rattle.refusals.specs.declared.refusal.Refusal.TheVariants.{Month}
use Rattle.records.specs.House.{answered}
use Rattle.rows.specs.Rows.{month_count, row_of}
use Rattle.account.specs.declared.Account.{Account}
use Rattle.by_month.specs.declared.Row.{Row}

-- R92: "23 MONTH, when the asked month is not 1 to 12"
abbrev pub month_lines : ℕ → List Line
month_lines k = when (outside 1 month_count k) Month ∷ []

-- R92: the month's row, and its CO2 equivalent, which is GWP times the row's emitted sum
abbrev pub month_row : Account → ℕ → Row
month_row a k = record { sums = row_of a.rows k; co2e = a.site.gwp * (row_of a.rows k).emitted }

-- R92: that, or 23
unfoldable pub month_asked : Account → ℕ → Result Row Refusal
month_asked a k = answered (month_row a k) (first_of (month_lines k))
