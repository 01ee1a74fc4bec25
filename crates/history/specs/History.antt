-- R59: every account that any calls can give, with the minutes accepted so far.
use Rattle.tool06.specs.declared.figures.Figures.{Figures}
use Rattle.refusals.specs.declared.refusal.Refusal.{Refusal}
use Rattle.std.specs.Prelude.{Result, Ok, Err, ◌≡◌, List, [], ◌∷◌, ◌++◌, ℕ, ℤ}
use Rattle.site.specs.declared.Site.{Site}
use Rattle.tool06.specs.Bounds.{Entry}
use Rattle.tool06.specs.Tool.{Masses}
use Rattle.due.specs.Answer.{entry, answer}
use Rattle.account.specs.Adding.{due, add_to}
use Rattle.account.specs.Opening.{fresh, opened}
use Rattle.account.specs.declared.Account.{Account}

-- R59: the calls that take an account, with the bytes lent to them or the month asked for; reading one of its numbers gives no account and needs no place here
pub data Call : Type 0 where
  add check-run : List ℕ → Call
  close chart co2e : Call
  month : ℕ → Call

-- R48, R59: adding gives an account; the other calls give none, and the account is the one it was
abbrev pub account_after : Masses → Account → Call → Account
account_after m a (add bytes) = (add_to m a bytes).account
account_after m a (check-run run) = a
account_after m a close = a
account_after m a chart = a
account_after m a co2e = a
account_after m a (month k) = a

-- R59: one minute more, where it is accepted
abbrev pub grown : List Entry → Entry → Result Figures Refusal → List Entry
grown es e (Ok f) = es ++ (e ∷ [])
grown es e (Err r) = es

-- R59: the minutes accepted, after a call
abbrev pub minutes_after : Masses → Account → List Entry → Call → List Entry
minutes_after m a es (add bytes) = grown es (entry (due a) bytes) (answer m (due a) bytes)
minutes_after m a es (check-run run) = es
minutes_after m a es close = es
minutes_after m a es chart = es
minutes_after m a es co2e = es
minutes_after m a es (month k) = es

-- R59: the account after an opening with this site and this list that was not refused, and any calls; and the minutes accepted, in their order
pub data Reached (m : Masses) (s : Site) (days : List ℤ) : Account → List Entry → Type 0 where
  at_first : opened s days ≡ Ok (fresh s days) → Reached m s days (fresh s days) []
  then : {a : Account} {es : List Entry} → Reached m s days a es → (c : Call) → Reached m s days (account_after m a c) (minutes_after m a es c)
