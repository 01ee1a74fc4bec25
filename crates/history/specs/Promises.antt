-- R84, R86, R89: what is proved of every account that any calls can give.
use Rattle.std.specs.Prelude.{◌≡◌, List, [], ◌∷◌, ℕ, suc, ◌*◌, ◌/◌, ◌<◌, eqb, ℤ, length, get_or}
use Rattle.exact.specs.Fractions.{Frac}
use Rattle.site.specs.declared.Site.{Site}
use Rattle.maintenance.specs.Days.{in_time, listed_days}
use Rattle.sums.specs.Bounds.{exact_sums, Bounds}
use Rattle.sums.specs.Sums.{total, count}
use Rattle.tool06.specs.Bounds.{Entry, IsAccepted, figures_of, worth_of, exact_of}
use Rattle.tool06.specs.Rules.{rule_count}
use Rattle.tool06.specs.Tool.{Each, Masses, Positive, AllPositive, by_equation_7}
use Rattle.account.specs.Closing.{co2e}
use Rattle.account.specs.Kept.{Kept}
use Rattle.account.specs.declared.Account.{Account}
use Rattle.history.specs.History.{Reached}

-- R84: the minute e is minute k of the year at this site, accepted, with maintenance in time by this list on its own day
pub record InPlace (s : Site) (days : List ℤ) (k : ℕ) (e : Entry) : Type 0 where
  pub site_is : e.site ≡ s
  pub number_is : e.minute.number ≡ k
  pub in_time_is : e.in_time ≡ in_time days (k / 1440) s.days
  pub accepted : IsAccepted e

-- R84: minutes k, k + 1 and so on
abbrev pub FromMinute : Site → List ℤ → ℕ → List Entry → Type 0
FromMinute s days k [] = Unit {0}
FromMinute s days k (e ∷ es) = InPlace s days k e × FromMinute s days (suc k) es

-- R84: what the account holds is the sum, or the number, over exactly these minutes
pub record Holds (m : Masses) (a : Account) (es : List Entry) : Type 0 where
  pub minutes_are : a.sums.minutes ≡ length es
  pub sums_are : a.sums ≡ total (worth_of m) es
  -- R84: "each count is the number of accepted minutes under that rule"
  pub counts_are : (k : ℕ) → k < rule_count → get_or a.counts k 0 ≡ count (λ e. eqb (figures_of m e).rule k) es
  -- R47: "CO2 equivalent, in mg, is GWP times the emitted sum"
  pub co2e_is : co2e a ≡ a.site.gwp * (total (worth_of m) es).emitted

-- R59: for every account that any calls can give
abbrev pub OfEvery : ((m : Masses) (s : Site) (days : List ℤ) (a : Account) (es : List Entry) → Type 0) → Type 0
OfEvery P = (m : Masses) → Positive m → (s : Site) (days : List ℤ) (a : Account) (es : List Entry) → Reached m s days a es → P m s days a es

-- R84: the accepted minutes are the first minutes of the year, each judged at its site and for its own day; the account holds just them
abbrev pub Histories : Type 0
Histories = OfEvery (λ m s days a es. FromMinute s days 0 es × Holds m a es)

-- R84: an account stays that of its site and its list
abbrev pub OpenedStays : Type 0
OpenedStays = OfEvery (λ m s days a es. (a.site ≡ s) × (listed_days a.maintenance ≡ days))

-- R89: what the calls require
abbrev pub EveryKept : Type 0
EveryKept = OfEvery (λ m s days a es. Kept a)

-- R30: the account and its minutes are the same by any other positive masses
abbrev pub ByAnyMasses : Type 0
ByAnyMasses = OfEvery (λ m s days a es. (m' : Masses) → Positive m' → Reached m' s days a es)

-- R86: the sums beside the exact sums with these masses
abbrev pub BesideTheTool : Masses → Account → List Entry → Type 0
BesideTheTool m a es = Bounds a.sums (exact_sums (exact_of m) es)

-- R86: "For any calls on an account, beside the tool's own equations as exact fractions, for any positive molecular mass", any for each minute
abbrev pub DemandThree : Type 0
DemandThree = OfEvery (λ m s days a es. BesideTheTool m a es)

-- R31, R86: the same with the tool's own: that of each minute's gas, by equation (7)
abbrev pub DemandThreeBySeven : Type 0
DemandThreeBySeven = OfEvery (λ m s days a es. (MM : Each Frac) → AllPositive MM → BesideTheTool (by_equation_7 m MM) a es)
