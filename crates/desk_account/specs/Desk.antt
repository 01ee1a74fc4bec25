-- R82: what the desk keeps between two lines.
use Rattle.std.specs.Prelude.{Option, Some, None}
use Rattle.account.specs.Kept.{Kept}
use Rattle.account.specs.declared.Account.{Account}

-- R82: an account that is open has what the calls of an account require
abbrev pub Ready : Option Account → Type 0
Ready (Some account) = Kept account
Ready None = Unit
