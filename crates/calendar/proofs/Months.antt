-- The months, by tests that the checker computes over all days of each kind of year.
use Prim.Native.Nat.{ℕ, ◌-◌, ◌/◌, ◌≤◌, ◌<◌}
use mathlib.Core.Path.{◌≡◌, refl, subst}
use mathlib.Core.Bool.{Bool, true, false, not, cond, ◌&&◌, ◌||◌}
use mathlib.Core.List.{List}
use native.Mathlib.Omega.{arith}
use borrow.Author.Tests.{le-leb}
use lib.Dec.{T, leb, ltb, eqb, eqb→eq, leb→le, ltb→lt}
use lib.ListN.{length, get_or, replicate, length-replicate}
use Rattle.site.specs.Rules.{is_leap, year_minutes}
use Rattle.calendar.specs.Calendar.{month_table, entry_in, month_in, month_of}
use Rattle.calendar.specs.Promises.{spans, span, MonthIs, EachInOne}
use Rattle.calendar.proofs.Throughout.{first, second, throughout, at}

-- the days of a year
days_of : Bool → ℕ
days_of leap = cond leap 366 365

-- a list of that length: the tests go by the place
days : Bool → List ℕ
days leap = replicate (days_of leap) 0

span_of : Bool → ℕ → ℕ × ℕ
span_of leap k = get_or (spans leap) (k - 1) (0, 0)

-- each day lies in the span of its month
in_one : Bool → ℕ → ℕ → Bool
in_one leap day x =
    let k = month_in leap day in
    (leb 1 k && leb k 12) && (leb (span_of leap k).0 day && leb day (span_of leap k).1)

-- a span that holds the day is that of its month
is_its : Bool → ℕ → ℕ → (ℕ × ℕ) → Bool
is_its leap day place span = not (leb span.0 day && leb day span.1) || eqb (month_in leap day - 1) place

each_its : Bool → ℕ → ℕ → Bool
each_its leap day x = throughout (is_its leap day) 0 (spans leap)

in_year : Bool → ℕ → (ℕ × ℕ) → Bool
in_year leap place span = ltb span.1 (days_of leap)

all_in_one : (leap : Bool) → T (throughout (in_one leap) 0 (days leap))
unfolding in_one span_of days days_of month_in entry_in month_table
all_in_one true = tt
all_in_one false = tt

all_its : (leap : Bool) → T (throughout (each_its leap) 0 (days leap))
unfolding each_its is_its days days_of month_in entry_in month_table
all_its true = tt
all_its false = tt

all_in_year : (leap : Bool) → T (throughout (in_year leap) 0 (spans leap))
unfolding in_year days_of
all_in_year true = tt
all_in_year false = tt

twelve : (leap : Bool) → length (spans leap) ≡ 12
twelve true = refl
twelve false = refl

days_of_year : (year : ℕ) → year_minutes year / 1440 ≡ days_of (is_leap year)
unfolding days_of
days_of_year year = by_leap (is_leap year) refl
  where
    by_leap : (leap : Bool) → is_leap year ≡ leap → year_minutes year / 1440 ≡ cond leap 366 365
    by_leap true e = rw e refl
    by_leap false e = rw e refl

-- a minute of a year is on one of its days
pub day_in_year : (year minute : ℕ) → minute < year_minutes year → minute / 1440 < year_minutes year / 1440
day_in_year year minute = by_leap (is_leap year) refl
  where
    by_leap : (leap : Bool) → is_leap year ≡ leap → minute < year_minutes year → minute / 1440 < year_minutes year / 1440
    by_leap true e = rw e (λ h. omega arith)
    by_leap false e = rw e (λ h. omega arith)

in_one_lem : (leap : Bool) (day : ℕ) → day < days_of leap → let k = month_in leap day in ((1 ≤ k) × (k ≤ 12)) × ((span_of leap k).0 ≤ day) × (day ≤ (span_of leap k).1)
unfolding in_one days
in_one_lem leap day within =
    let k = month_in leap day in
    let t = at (in_one leap) (days leap) (all_in_one leap) day 0 (omega (arith, length-replicate {A = ℕ} (days_of leap) 0)) in
    let month = first (leb 1 k && leb k 12) _ t in
    let there = second (leb 1 k && leb k 12) _ t in (
      (leb→le 1 k (first (leb 1 k) (leb k 12) month), leb→le k 12 (second (leb 1 k) (leb k 12) month)),
      leb→le (span_of leap k).0 day (first (leb (span_of leap k).0 day) _ there),
      leb→le day (span_of leap k).1 (second (leb (span_of leap k).0 day) _ there),
    )

pub each_in_one : EachInOne
unfolding month_of span_of
each_in_one year day within =
    let t = in_one_lem (is_leap year) day (omega (arith, days_of_year year)) in
    (t.0.0, t.0.1, t.1, t.2)

-- a day in the span at a place is in the month after it
its : (leap : Bool) (place day : ℕ) → place < 12 → let span = get_or (spans leap) place (0, 0) in span.0 ≤ day → day ≤ span.1 → (day < days_of leap) × (month_in leap day - 1 ≡ place)
unfolding in_year each_its is_its days
its leap place day below from to =
    let span = get_or (spans leap) place (0, 0) in
    let there : place < length (spans leap) = omega (arith, twelve leap) in
    let ends = ltb→lt span.1 (days_of leap) (at (in_year leap) (spans leap) (all_in_year leap) place (0, 0) there) in
    let within : day < days_of leap = omega arith in
    let t = at (each_its leap) (days leap) (all_its leap) day 0 (omega (arith, length-replicate {A = ℕ} (days_of leap) 0)) in
    let u = at (is_its leap day) (spans leap) t place (0, 0) there in
    let v = subst (λ (b : Bool). T (not (b && leb day span.1) || eqb (month_in leap day - 1) place)) (le-leb span.0 day from) u in
    (within, eqb→eq (month_in leap day - 1) place (subst (λ (b : Bool). T (not (true && b) || eqb (month_in leap day - 1) place)) (le-leb day span.1 to) v))

pub month_is : MonthIs
unfolding month_of
month_is year k day one most from to =
    let t = its (is_leap year) (k - 1) day (omega arith) from to in
    let m = (in_one_lem (is_leap year) day t.0).0 in
    omega (arith, t.1, m.0, m.1)
