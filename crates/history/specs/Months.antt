-- R94: the twelve rows of every account that any calls can give.
use Rattle.std.specs.Prelude.{◌≡◌, Bool, cond, List, [], ◌∷◌, ℕ, ◌/◌, ◌≤◌, eqb, length}
use Rattle.exact.specs.Fractions.{Frac}
use Rattle.sums.specs.Bounds.{exact_sums, Bounds}
use Rattle.sums.specs.Sums.{total}
use Rattle.calendar.specs.Calendar.{month_of}
use Rattle.rows.specs.Rows.{month_count, row_of, together}
use Rattle.tool06.specs.Bounds.{Entry, worth_of, exact_of}
use Rattle.tool06.specs.Tool.{Each, Masses, AllPositive, by_equation_7}
use Rattle.account.specs.declared.Account.{Account}
use Rattle.history.specs.Promises.{OfEvery}

-- R91, R94: the minute's own day is in month k of its year
abbrev pub in_month : ℕ → Entry → Bool
in_month k e = eqb (month_of e.site.year (e.minute.number / 1440)) k

-- R94: of these minutes those of month k, in their order
abbrev pub of_month : ℕ → List Entry → List Entry
of_month k [] = []
of_month k (e ∷ es) = cond (in_month k e) (e ∷ of_month k es) (of_month k es)

-- R94: "each column's twelve rows add up to the account's sum"
abbrev pub RowsAddUp : Type 0
RowsAddUp = OfEvery (λ m s days a es. (length a.rows ≡ month_count) × (together a.rows ≡ a.sums))

-- R94: for each month, January being month 1
abbrev pub OfEachMonth : (ℕ → Type 0) → Type 0
OfEachMonth P = (k : ℕ) → 1 ≤ k → k ≤ month_count → P k

-- R94: "each row is the sum over that month's minutes"
abbrev pub RowsAre : Type 0
RowsAre = OfEvery (λ m s days a es. OfEachMonth (λ k. row_of a.rows k ≡ total (worth_of m) (of_month k es)))

-- R94: each row beside the exact sums over that month's minutes, with these masses
abbrev pub RowsBesideTheTool : Masses → Account → List Entry → Type 0
RowsBesideTheTool m a es = OfEachMonth (λ k. Bounds (row_of a.rows k) (exact_sums (exact_of m) (of_month k es)))

-- R94: "The bounds of demand 3 hold row by row, with the row's own count", for any positive molecular mass of each minute
abbrev pub DemandThreeByMonth : Type 0
DemandThreeByMonth = OfEvery (λ m s days a es. RowsBesideTheTool m a es)

-- R31, R94: the same with the tool's own: that of each minute's gas, by equation (7)
abbrev pub DemandThreeByMonthAndSeven : Type 0
DemandThreeByMonthAndSeven = OfEvery (λ m s days a es. (MM : Each Frac) → AllPositive MM → RowsBesideTheTool (by_equation_7 m MM) a es)
