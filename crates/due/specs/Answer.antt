-- R55, R56: "Adding a minute: 11, 1, 2, 12 to 19": what a record is answered.
use Rattle.tool06.specs.declared.figures.Figures.{Figures}
use Rattle.refusals.specs.declared.refusal.Refusal.{Refusal}
use Rattle.std.specs.Prelude.{Result, ℕ, ◌/◌, Bool, not, List, ◌∷◌, ◌++◌, leb, eqb}
use Rattle.refusals.specs.Tables.{Line, when, first_of}
use Rattle.refusals.specs.declared.refusal.Refusal.TheVariants.{Full}
use Rattle.records.specs.House.{answered}
use Rattle.site.specs.Rules.{year_minutes}
use Rattle.minute.specs.Record.{minute_of, minute_head_lines}
use Rattle.minute.specs.declared.Minute.{Minute}
use Rattle.maintenance.specs.Days.{in_time, listed_days}
use Rattle.tool06.specs.Bounds.{Entry, figures_of}
use Rattle.tool06.specs.Judged.{judged_lines}
use Rattle.tool06.specs.Tool.{Masses}
use Rattle.due.specs.declared.Due.{Due}

-- R48, R51: 11, "the year's last minute is already in"
unfoldable pub is_full : Due → Bool
is_full d = leb (year_minutes d.site.year) d.minute

-- R51: 13, "not the next minute"
abbrev pub not_next : Due → Minute → Bool
not_next d n = not (eqb n.number d.minute)

-- R14, R16: "in time on day d", d being the day of this minute of the year
unfoldable pub in_time_at : Due → ℕ → Bool
in_time_at d number = in_time (listed_days d.maintenance) (number / 1440) d.site.days

-- R56: the minute of these bytes, as it is judged
abbrev pub entry : Due → List ℕ → Entry
entry d b = record { site = d.site; minute = minute_of b; in_time = in_time_at d (minute_of b).number }

-- R55: 11, then 1 and 2
abbrev pub record_lines : Due → List ℕ → List Line
record_lines d b = when (is_full d) Full ∷ minute_head_lines b

-- R55: then 12 to 19
unfoldable pub add_lines : Due → List ℕ → List Line
add_lines d b = record_lines d b ++ judged_lines (not_next d (minute_of b)) d.site (minute_of b)

-- R56: the minute's figures and rule, or the refusal
unfoldable pub answer : Masses → Due → List ℕ → Result Figures Refusal
answer m d b = answered (figures_of m (entry d b)) (first_of (add_lines d b))
