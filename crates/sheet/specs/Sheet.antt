-- R71, R72: the lines of an account.
use Rattle.refusals.specs.declared.refusal.Refusal.{Refusal}
use Rattle.std.specs.Prelude.{Result, Ok, Err, ℕ, List, ◌++◌}
use Rattle.sums.specs.declared.Sums.{Sums}
use Rattle.account.specs.Closing.{co2e, closing}
use Rattle.account.specs.declared.Account.{Account}
use Rattle.text.specs.Text.{text, decimal}
use Rattle.lines.specs.Lines.{methane}

-- R71: "minutes accepted, minutes with gas, sums", and CO2 equivalent
unfoldable pub sums_text : Sums → ℕ → List ℕ
sums_text s co2e =
    decimal s.minutes
    ++ text " gas " ++ decimal s.gas
    ++ methane s.fed s.emitted s.destroyed
    ++ text " co2e " ++ decimal co2e

-- R71: the account's
unfoldable pub total_line : Account → List ℕ
total_line a = text "total " ++ sums_text a.sums (co2e a) ++ text "\n"

-- R72: "`open` becomes `tonnes T` when closed"
unfoldable pub standing : Result ℕ Refusal → List ℕ
standing (Ok t) = text " tonnes " ++ decimal t
standing (Err r) = text " open"

-- R72: the year, and how it stands
unfoldable pub year_line : Account → List ℕ
year_line a = text "year " ++ decimal a.site.year ++ standing (closing a) ++ text "\n"
