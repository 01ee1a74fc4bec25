-- R93: the line of a month.
use Rattle.refusals.specs.declared.refusal.Refusal.{Refusal}
use Rattle.std.specs.Prelude.{Result, Ok, Err, ℕ, List, [], ◌++◌}
use Rattle.account.specs.declared.Account.{Account}
use Rattle.by_month.specs.Month.{month_asked}
use Rattle.by_month.specs.declared.Row.{Row}
use Rattle.text.specs.Text.{text, decimal}
use Rattle.sheet.specs.Sheet.{sums_text}

-- R93: month K minutes A gas G fed F emitted E destroyed D co2e C
unfoldable pub row_line : ℕ → Row → List ℕ
row_line k row = text "month " ++ decimal k ++ text " minutes " ++ sums_text row.sums row.co2e ++ text "\n"

-- R93: the line of what was asked; a month that is refused has none
abbrev pub asked_line : ℕ → Result Row Refusal → List ℕ
asked_line k (Ok row) = row_line k row
asked_line k (Err r) = []

-- R93: the line of month k of an account
unfoldable pub month_line : Account → ℕ → List ℕ
month_line a k = asked_line k (month_asked a k)
