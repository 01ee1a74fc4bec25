-- R91: "twelve rows beside the account", one a month, each a `Sums` of its own.
use Rattle.std.specs.Prelude.{ℕ, ◌-◌, List, get_or, set, replicate}
use Rattle.sums.specs.Sums.{no_sums, ◌⊞◌, total}
use Rattle.sums.specs.declared.Sums.{Sums}

-- R91: one for each month
abbrev pub month_count : ℕ
month_count = 12

-- R91: at first all numbers are 0
unfoldable pub no_rows : List Sums
no_rows = replicate month_count no_sums

-- R91: the row of month k, January being month 1; no call asks for month 0, which would be January's too
abbrev pub row_of : List Sums → ℕ → Sums
row_of rows k = get_or rows (k - 1) no_sums

-- R91: so much more in the row of month k, and the others as they were
unfoldable pub with_in : List Sums → ℕ → Sums → List Sums
with_in rows k more = set rows (k - 1) (row_of rows k ⊞ more)

-- R94: the rows added up, each column by itself
abbrev pub together : List Sums → Sums
together rows = total (λ row. row) rows
