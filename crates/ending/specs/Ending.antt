-- R71, R72, R93: what the programs `flare` and `months` end with.
use Rattle.std.specs.Prelude.{ℕ, List, ◌++◌}
use Rattle.account.specs.declared.Account.{Account}
use Rattle.sheet.specs.Sheet.{total_line, year_line}

-- R71, R72: after the last record: "total and year lines still follow"
abbrev pub ending : Account → List ℕ
ending a = total_line a ++ year_line a
