-- R75: what a month's line promises: it is not cut.
use Rattle.std.specs.Prelude.{ℕ, ◌≤◌, length}
use Rattle.account.specs.Kept.{Kept}
use Rattle.account.specs.declared.Account.{Account}
use Rattle.month_line.specs.Line.{month_line}

-- R75: no month's line is longer than 163 bytes
abbrev pub MonthUncut : Type 0
MonthUncut = (a : Account) → Kept a → (k : ℕ) → length (month_line a k) ≤ 163
