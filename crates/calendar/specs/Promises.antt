-- R90: what is promised of the months: each is the days that the calendar has, and no day is without one.
use Rattle.std.specs.Prelude.{ℕ, ◌-◌, ◌/◌, ◌≤◌, ◌<◌, ◌≡◌, Bool, true, false, List, [], ◌∷◌, get_or}
use Rattle.site.specs.Rules.{is_leap, year_minutes}
use Rattle.calendar.specs.Calendar.{month_of}

-- R90: the first and the last day of each month, from January to December, days counted from 0; of a leap year and of an ordinary one
abbrev pub spans : Bool → List (ℕ × ℕ)
spans true = (0, 30) ∷ (31, 59) ∷ (60, 90) ∷ (91, 120) ∷ (121, 151) ∷ (152, 181) ∷ (182, 212) ∷ (213, 243) ∷ (244, 273) ∷ (274, 304) ∷ (305, 334) ∷ (335, 365) ∷ []
spans false = (0, 30) ∷ (31, 58) ∷ (59, 89) ∷ (90, 119) ∷ (120, 150) ∷ (151, 180) ∷ (181, 211) ∷ (212, 242) ∷ (243, 272) ∷ (273, 303) ∷ (304, 333) ∷ (334, 364) ∷ []

-- R90: of month k, January being month 1
abbrev pub span : ℕ → ℕ → ℕ × ℕ
span year k = get_or (spans (is_leap year)) (k - 1) (0, 0)

-- R90: January is days 0 to 30, and so on to December
abbrev pub MonthIs : Type 0
MonthIs = (year k day : ℕ) → 1 ≤ k → k ≤ 12 → (span year k).0 ≤ day → day ≤ (span year k).1 → month_of year day ≡ k

-- R90: no day of a year is without a month
abbrev pub EachInOne : Type 0
EachInOne =
    (year day : ℕ) → day < year_minutes year / 1440 →
    let k = month_of year day in (1 ≤ k) × (k ≤ 12) × ((span year k).0 ≤ day) × (day ≤ (span year k).1)
