-- R93: what the program `months` prints.
use Rattle.refusals.specs.declared.refusal.Refusal.{Refusal}
use Rattle.std.specs.Prelude.{Result, ℕ, zero, suc, List, [], ◌++◌}
use Rattle.account.specs.declared.Account.{Account}
use Rattle.rows.specs.Rows.{month_count}
use Rattle.lines.specs.Lines.{last_line}
use Rattle.month_line.specs.Line.{month_line}
use Rattle.ending.specs.Ending.{ending}

-- R93: the lines of the first n months, January first
unfoldable pub first_months : Account → ℕ → List ℕ
first_months a zero = []
first_months a (suc n) = first_months a n ++ month_line a (suc n)

-- R93: the twelve months, then the line of the minute that was refused, if one was, then the total and the year
unfoldable pub month_sheet : Account → Result Unit Refusal → List ℕ
month_sheet a verdict = first_months a month_count ++ last_line a.sums.minutes verdict ++ ending a
