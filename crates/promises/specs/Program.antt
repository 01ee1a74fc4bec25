-- R59, R68, R93: the account whose total a program prints is one that the calls give.
use Rattle.std.specs.Prelude.{List, ℕ, ℤ}
use Rattle.site.specs.declared.Site.{Site}
use Rattle.tool06.specs.Bounds.{Entry}
use Rattle.tool06.specs.Tool.{Masses}
use Rattle.account.specs.declared.Account.{Account}
use Rattle.in_turn.specs.Turn.{records_of, add_all}
use Rattle.history.specs.History.{Reached}
use Rattle.report.specs.Report.{report}

-- R59: some calls gave this account, with some minutes accepted on the way
pub data Given (m : Masses) (s : Site) (days : List ℤ) (a : Account) : Type 0 where
  by : (es : List Entry) → Reached m s days a es → Given m s days a

-- R59, R68: so all that is promised of every account holds of the one after a buffer of records
abbrev pub ReportsAreGiven : Type 0
ReportsAreGiven = (m : Masses) (s : Site) (days : List ℤ) (a : Account) (b : List ℕ) → Given m s days a → Given m s days (report m a b).account

-- R59, R93: and of the one whose months are printed
abbrev pub MonthsAreGiven : Type 0
MonthsAreGiven =
    (m : Masses) (s : Site) (days : List ℤ) (a : Account) (b : List ℕ) → Given m s days a → Given m s days (add_all m a (records_of b)).account
