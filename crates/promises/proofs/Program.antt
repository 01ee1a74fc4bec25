-- Records that are added in turn are added by the calls, one after the other.
use mathlib.Core.List.{List}
use Prim.Native.Nat.{ℕ}
use Rattle.account.specs.Adding.{add_to}
use Rattle.in_turn.specs.Turn.{records_of}
use Rattle.account.specs.declared.Account.{Account}
use Rattle.in_turn.proofs.Turn.{after_all}
use Rattle.history.specs.History.{then, add}
use Rattle.report.specs.Report.{report}
use Rattle.promises.specs.Program.{Given, by, ReportsAreGiven, MonthsAreGiven}

pub months_are_given : MonthsAreGiven
months_are_given m s days a b here = after_all m (Given m s days) one_more a here (records_of b)
  where
    -- one record more is one call more
    one_more : (c : Account) → Given m s days c → (r : List ℕ) → Given m s days (add_to m c r).account
    one_more c (by es reached) r = by _ (then reached (add r))

pub reports_are_given : ReportsAreGiven
unfolding report
reports_are_given = months_are_given
