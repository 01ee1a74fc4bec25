-- Every answer is decided by its table, whatever the answer's type.
use Rattle.std.specs.Prelude.{Result, Ok, Err}
use Rattle.tool06.specs.declared.figures.Figures.{Figures}
use Prim.Native.Nat.{ℕ, zero, suc, ◌+◌, ◌*◌, ◌/◌, ◌%◌, ◌<◌}
use mathlib.Core.Path.{◌≡◌, refl}
use mathlib.Core.Bool.{Bool, true, false, not, cond}
use mathlib.Core.List.{List, [], ◌∷◌, ◌++◌}
use mathlib.Core.Option.{some, none}
use lib.Dec.{eqb, leb}
use lib.ListN.{length, length-append}
use lib.Seq.{take-append_seam, drop-append_seam}
use borrow.Author.Tests.{le-leb, lt-leb}
use native.Mathlib.Omega.{arith}
use Rattle.exact.specs.Rounding.{ceil_div}
use Rattle.refusals.specs.Refusals.{number_of}
use Rattle.refusals.specs.Tables.{Line, when, first_of}
use Rattle.refusals.specs.declared.refusal.Refusal.{Refusal}
use Rattle.refusals.specs.declared.refusal.Refusal.TheVariants.{Length, Version, Method, Year, Gwp, Size, Spec, Open, Schedule, List as LIST, Full, Flags, Order, Flow, Composition, Methane, Temperature, Exhaust, Oxygen, Incomplete, Day, Buffer, Month}
use Rattle.records.specs.House.{head_lines, buffer_lines, answered, written}
use Rattle.site.specs.Record.{site_of, site_bytes, read_site, write_site, site_form, site_head_lines}
use Rattle.site.specs.Rules.{site_lines}
use Rattle.minute.specs.Record.{minute_of, minute_bytes, read_minute, write_minute, minute_form, minute_head_lines}
use Rattle.minute.specs.Rules.{minute_lines, alone_lines}
use Rattle.tool06.specs.Bounds.{figures_of}
use Rattle.tool06.specs.declared.class.Class.TheVariants.{Open as Open', Low, Tall}
use Rattle.tool06.specs.Tool.{Masses}
use Rattle.due.specs.Answer.{is_full, entry, add_lines, answer}
use Rattle.account.specs.Adding.{due, after_answer, add_to}
use Rattle.account.specs.Closing.{co2e, closing, chart}
use Rattle.tonnes.specs.Tonnes.{in_tonnes}
use Rattle.account.specs.Opening.{open_lines, fresh, opened}
use Rattle.in_turn.specs.Turn.{records_of, AddedAll, with_answer, add_all}
use Rattle.account.specs.declared.Account.{Account}
use Rattle.by_month.specs.Month.{month_lines, month_row, month_asked}
use Rattle.run.specs.Check.{first_refused, whole_or, checked}
use Rattle.day.specs.Part.{day_part}
use Rattle.host.specs.Single.{single_lines, single, single_figures, returned, answer_bytes, answer_after}
use Rattle.promises.specs.Numbers.{Said, given, refused, said_of_site, said_of_minute, said_of_opened, said_of_judged, said_of_closed, said_of_asked, said_of_verdict, said_of_checked, said_of_class, decides}
use Rattle.promises.specs.Calls.{ReadingASite, ReadingAMinute, WritingASite, WritingAMinute, OpeningAnAccount, AddingAMinute, ClosingAYear, Charting, AskingAMonth, TakingADay, ASingleMinute, Classing, or_later, first_said, CheckingARun, NumbersOfCalls, RefusedChangesNothing}

-- an answer of any type, which is a value or a refusal
by-table :
    {A : Type 0} (say : Result A Refusal → Said A) (v : A)
    → say (Ok v) ≡ given v
    → ((r : Refusal) → say (Err r) ≡ refused r)
    → (t : List Line) → say (answered v (first_of t)) ≡ decides t v
by-table say v fine refuse [] = fine
by-table say v fine refuse (when true r ∷ t) = refuse r
by-table say v fine refuse (when false r ∷ t) = by-table say v fine refuse t

reading_a_site : ReadingASite
unfolding read_site head_lines site_lines
reading_a_site b = record { in_order = refl; decided = by-table said_of_site (site_of b) refl (λ r. refl) (site_head_lines b ++ site_lines (site_of b)) }

reading_a_minute : ReadingAMinute
unfolding read_minute head_lines minute_lines
reading_a_minute b = record { in_order = refl; decided = by-table said_of_minute (minute_of b) refl (λ r. refl) (minute_head_lines b ++ alone_lines (minute_of b)) }

-- a lent buffer holds the values where nothing is refused
by_written : (own image : List ℕ) (t : List Line) → said_of_verdict (written own image (first_of t)) (first_of t) ≡ decides t image
by_written own image [] = refl
by_written own image (when true r ∷ t) = refl
by_written own image (when false r ∷ t) = by_written own image t

writing_a_site : WritingASite
unfolding write_site site_lines
writing_a_site s out = record { in_order = refl; decided = by_written out (site_bytes s) (buffer_lines site_form.size out ++ site_lines s) }

writing_a_minute : WritingAMinute
unfolding write_minute minute_lines
writing_a_minute n out = record { in_order = refl; decided = by_written out (minute_bytes n) (buffer_lines minute_form.size out ++ alone_lines n) }

opening_an_account : OpeningAnAccount
unfolding opened open_lines site_lines
opening_an_account s days = record { in_order = refl; decided = by-table said_of_opened (fresh s days) refl (λ r. refl) (open_lines s days) }

adding_a_minute : AddingAMinute
unfolding add_to answer add_lines head_lines minute_lines
adding_a_minute m a b = record { in_order = refl; decided = by-table said_of_judged (figures_of m (entry (due a) b)) refl (λ r. refl) (add_lines (due a) b) }

closing_a_year : ClosingAYear
unfolding closing
closing_a_year a = record { in_order = refl; decided = by-table said_of_closed (ceil_div (co2e a) 1000000000) refl (λ r. refl) (when (not (is_full (due a))) Incomplete ∷ []) }

asking_a_month : AskingAMonth
unfolding month_asked
asking_a_month a k = record { in_order = refl; decided = by-table said_of_asked (month_row a k) refl (λ r. refl) (month_lines k) }

same_number : {A : Type 0} (v : A) (w : Result Unit Refusal) → returned w ≡ (said_of_verdict v w).number
unfolding returned
same_number v (Ok tt) = refl
same_number v (Err r) = refl

a_single_minute : ASingleMinute
unfolding single single_lines head_lines site_lines minute_lines answer_after answer_bytes
a_single_minute m site minute days answer = (
  record { in_order = refl; decided = by_written answer (answer_bytes (single_figures m site minute days)) (single_lines site minute answer) },
  same_number (answer_after m site minute days answer) (single site minute answer),
)

-- no refusal has the number 0
no_zero : (r : Refusal) → 0 < number_of r
no_zero Length = omega arith
no_zero Version = omega arith
no_zero Method = omega arith
no_zero Year = omega arith
no_zero Gwp = omega arith
no_zero Size = omega arith
no_zero Spec = omega arith
no_zero Open = omega arith
no_zero Schedule = omega arith
no_zero LIST = omega arith
no_zero Full = omega arith
no_zero Flags = omega arith
no_zero Order = omega arith
no_zero Flow = omega arith
no_zero Composition = omega arith
no_zero Methane = omega arith
no_zero Temperature = omega arith
no_zero Exhaust = omega arith
no_zero Oxygen = omega arith
no_zero Incomplete = omega arith
no_zero Day = omega arith
no_zero Buffer = omega arith
no_zero Month = omega arith

stops : (k expected : ℕ) (later : Said (ℕ × ℕ)) → 0 < k → record { number = k; values = some (expected / 1440, expected % 1440) } ≡ or_later k expected later
stops zero expected later h = absurd (omega arith)
stops (suc k) expected later h = refl

step :
    (a : Account) (j : Result Figures Refusal) (rest : AddedAll) (later : Said (ℕ × ℕ))
    → said_of_checked (first_refused rest) ≡ later
    → said_of_checked (first_refused (with_answer j a rest)) ≡ or_later (said_of_judged j).number a.sums.minutes later
step a (Ok f) rest later e = e
step a (Err r) rest later e = stops (number_of r) a.sums.minutes later (no_zero r)

in_turn : (m : Masses) (a : Account) (bs : List (List ℕ)) → said_of_checked (first_refused (add_all m a bs)) ≡ first_said m a bs
unfolding add_to
in_turn m a [] = refl
in_turn m a (b ∷ bs) = step a (answer m (due a) b) _ _ (in_turn m (after_answer a (answer m (due a) b)) bs)

checking_a_run : CheckingARun
unfolding checked
checking_a_run m a run = by_whole (eqb (length run % minute_form.size) 0)
  where
    by_whole : (whole : Bool) → said_of_checked (whole_or whole (first_refused (add_all m a (records_of run)))) ≡ cond whole (first_said m a (records_of run)) (record { number = 1; values = none })
    by_whole true = in_turn m a (records_of run)
    by_whole false = refl

classing : Classing
classing s = by_height (leb s.height (2 * s.diameter)) (leb s.height (10 * s.diameter))
  where
    by_height : (bare low : Bool) → said_of_class (cond bare Open' (cond low Low Tall)) ≡ given (cond bare "open" (cond low "low" "tall"))
    by_height true low = refl
    by_height false true = refl
    by_height false false = refl

charting : Charting
unfolding chart in_tonnes co2e
charting a = (refl, refl)

taking_a_day : TakingADay
unfolding day_part
taking_a_day = record { there = whole_day; not_there = λ run day short. rw (lt-leb (day * 77760 + 77760) (length run) short) }
  where
    whole_day : (before part behind : List ℕ) (day : ℕ) → length before ≡ day * 77760 → length part ≡ 77760 → day_part (before ++ (part ++ behind)) day ≡ part
    whole_day before part behind day b p =
        let long = length-append before (part ++ behind) in
        let rest = length-append part behind in
        rw (le-leb (day * 77760 + 77760) (length (before ++ (part ++ behind))) (omega (arith, long, rest)), ← b, drop-append_seam before (part ++ behind), ← p)
        (take-append_seam part behind)

pub numbers_of_calls : NumbersOfCalls
numbers_of_calls = record {
  reading_a_site = reading_a_site;
  reading_a_minute = reading_a_minute;
  writing_a_site = writing_a_site;
  writing_a_minute = writing_a_minute;
  classing = classing;
  opening_an_account = opening_an_account;
  adding_a_minute = adding_a_minute;
  closing_a_year = closing_a_year;
  charting = charting;
  asking_a_month = asking_a_month;
  checking_a_run = checking_a_run;
  taking_a_day = taking_a_day;
  a_single_minute = a_single_minute;
}

stays : {A : Type 0} (v : A) (own image : List ℕ) (w : Result Unit Refusal) → 0 < (said_of_verdict v w).number → written own image w ≡ own
stays v own image (Ok tt) h = absurd (omega arith)
stays v own image (Err r) h = refl

stays_returned : (own image : List ℕ) (w : Result Unit Refusal) → 0 < returned w → written own image w ≡ own
unfolding returned
stays_returned own image (Ok tt) h = absurd (omega arith)
stays_returned own image (Err r) h = refl

account_stays : (a : Account) (j : Result Figures Refusal) → 0 < (said_of_judged j).number → after_answer a j ≡ a
account_stays a (Ok f) h = absurd (omega arith)
account_stays a (Err r) h = refl

pub refused_changes_nothing : RefusedChangesNothing
unfolding answer_after add_to
refused_changes_nothing = record {
  adding_a_minute = λ m a b h. account_stays a (answer m (due a) b) h;
  writing_a_site = λ s out h. stays _ out (site_bytes s) (write_site s out) h;
  writing_a_minute = λ n out h. stays _ out (minute_bytes n) (write_minute n out) h;
  a_single_minute = λ m site minute days answer h. stays_returned answer (answer_bytes (single_figures m site minute days)) (single site minute answer) h;
}
