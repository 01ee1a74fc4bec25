-- R75: what an account's lines promise: none is cut.
use Rattle.std.specs.Prelude.{◌≤◌, length}
use Rattle.account.specs.declared.Account.{Account}
use Rattle.sheet.specs.Sheet.{total_line, year_line}

-- R75: neither is longer than 163 bytes, and each is put only where there is room for that many
pub record SheetUncut : Type 0 where
  pub total : (a : Account) → length (total_line a) ≤ 163
  pub year : (a : Account) → length (year_line a) ≤ 163
