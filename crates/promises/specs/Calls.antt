-- R50, R58, R83: each call's order of refusals, and what it answers where none is given.
use Rattle.std.specs.Prelude.{ℕ, zero, suc, ◌+◌, ◌*◌, ◌/◌, ◌%◌, ◌<◌, ◌≡◌, not, cond, List, [], ◌∷◌, ◌++◌, eqb, leb, ℤ, pos, length}
use Rattle.std.proofs.Math.Option.{some, none}
use Rattle.std.specs.Float.{binary64}
use Rattle.std.specs.Float.Ieee.{of_int, div}
use Rattle.exact.specs.Bytes.{bytes_of}
use Rattle.exact.specs.Rounding.{ceil_div}
use Rattle.refusals.specs.Tables.{when}
use Rattle.refusals.specs.declared.refusal.Refusal.TheVariants.{Incomplete}
use Rattle.records.specs.House.{buffer_lines, written}
use Rattle.site.specs.Record.{site_of, site_bytes, read_site, write_site, site_form, site_head_lines}
use Rattle.site.specs.Rules.{site_lines}
use Rattle.site.specs.declared.Site.{Site}
use Rattle.minute.specs.Record.{minute_of, minute_bytes, read_minute, write_minute, minute_form, minute_head_lines}
use Rattle.minute.specs.Rules.{alone_lines}
use Rattle.minute.specs.declared.Minute.{Minute}
use Rattle.tool06.specs.Bounds.{figures_of}
use Rattle.tool06.specs.Class.{class_of}
use Rattle.tool06.specs.Tool.{Masses}
use Rattle.due.specs.Answer.{is_full, entry, add_lines}
use Rattle.account.specs.Adding.{due, add_to}
use Rattle.account.specs.Closing.{co2e, closing, chart}
use Rattle.account.specs.Opening.{open_lines, fresh, opened}
use Rattle.in_turn.specs.Turn.{records_of}
use Rattle.account.specs.declared.Account.{Account}
use Rattle.by_month.specs.Month.{month_lines, month_row, month_asked}
use Rattle.run.specs.Check.{checked}
use Rattle.day.specs.Part.{day_part}
use Rattle.host.specs.Single.{single_lines, single, single_figures, returned, answer_after}
use Rattle.promises.specs.Numbers.{Said, given, said_of_site, said_of_minute, said_of_opened, said_of_judged, said_of_closed, said_of_asked, said_of_verdict, said_of_checked, said_of_class, ◌to◌, By}

-- R52: "Site: 1 to 9."
abbrev pub ReadingASite : Type 0
ReadingASite = (b : List ℕ) → By (1 to 9) (site_head_lines b ++ site_lines (site_of b)) (said_of_site (read_site b)) (site_of b)

-- R61: "Reading a minute alone .. gives 1, 2, 12, 13 in that sense, 14 to 18."
abbrev pub ReadingAMinute : Type 0
ReadingAMinute =
    (b : List ℕ) → By (1 ∷ 2 ∷ 12 to 18) (minute_head_lines b ++ alone_lines (minute_of b)) (said_of_minute (read_minute b)) (minute_of b)

-- R60: "Writing ..: 22, then the same field refusals (for a site 3 to 9 ..)"
abbrev pub WritingASite : Type 0
WritingASite =
    (s : Site) (out : List ℕ) →
    By (22 ∷ 3 to 9) (buffer_lines site_form.size out ++ site_lines s) (said_of_verdict (written out (site_bytes s) (write_site s out)) (write_site s out)) (site_bytes s)

-- R60: "(.. for a minute 12, 13 when it is not below 527,040, 14 to 18)"
abbrev pub WritingAMinute : Type 0
WritingAMinute =
    (n : Minute) (out : List ℕ) →
    By (22 ∷ 12 to 18) (buffer_lines minute_form.size out ++ alone_lines n) (said_of_verdict (written out (minute_bytes n) (write_minute n out)) (write_minute n out)) (minute_bytes n)

-- R17, R18: "Height at most twice the diameter: open. Above that and at most ten times: low. Above ten: tall."
abbrev pub Classing : Type 0
Classing =
    (s : Site) →
    said_of_class (class_of s)
    ≡ given (cond (leb s.height (2 * s.diameter)) "open" (cond (leb s.height (10 * s.diameter)) "low" "tall"))

-- R53: "Opening an account takes a site's fields: 3 to 9, then 10."
abbrev pub OpeningAnAccount : Type 0
OpeningAnAccount =
    (s : Site) (days : List ℤ) →
    By (3 to 10) (open_lines s days) (said_of_opened (opened s days)) (fresh s days)

-- R55, R56: "Adding a minute: 11, 1, 2, 12 to 19."
abbrev pub AddingAMinute : Type 0
AddingAMinute =
    (m : Masses) (a : Account) (b : List ℕ) →
    By (11 ∷ 1 ∷ 2 ∷ 12 to 19) (add_lines (due a) b) (said_of_judged (add_to m a b).answer) (figures_of m (entry (due a) b))

-- R48: "Closing gives tonnes CO2 equivalent, rounded up, once every minute is in", else 20
abbrev pub ClosingAYear : Type 0
ClosingAYear = (a : Account) → By (20 ∷ []) (when (not (is_full (due a))) Incomplete ∷ []) (said_of_closed (closing a)) (ceil_div (co2e a) 1000000000)

-- R92: "23 MONTH, when the asked month is not 1 to 12", else its row and CO2 equivalent
abbrev pub AskingAMonth : Type 0
AskingAMonth = (a : Account) (k : ℕ) → By (23 ∷ []) (month_lines k) (said_of_asked (month_asked a k)) (month_row a k)

-- R64, R66: "Order: 22, 1 to 9, minute 1, 2, 12, 13 (minute beyond the year), 14 to 19. It returns 0 or the refusal's number"
abbrev pub ASingleMinute : Type 0
ASingleMinute =
    (m : Masses) (site minute : List ℕ) (days : ℕ) (answer : List ℕ) →
    let f = single_figures m site minute days in
    let said = said_of_verdict (answer_after m site minute days answer) (single site minute answer) in
    By (22 ∷ 1 to 9 ++ (1 ∷ 2 ∷ 12 to 19)) (single_lines site minute answer) said
    (bytes_of 8 f.fed ++ (bytes_of 8 f.emitted ++ (bytes_of 8 f.destroyed ++ (f.rule ∷ []))))
    × (returned (single site minute answer) ≡ said.number)

-- R62: the place of the expected minute, where adding it says a number that is not 0; else what is said later
abbrev pub or_later : ℕ → ℕ → Said (ℕ × ℕ) → Said (ℕ × ℕ)
or_later zero expected later = later
or_later (suc k) expected later = record { number = suc k; values = some (expected / 1440, expected % 1440) }

-- R62: "the first record that adding them in turn would refuse, as day, minute of the day (from the expected minute) and number, or none"
abbrev pub first_said : Masses → Account → List (List ℕ) → Said (ℕ × ℕ)
first_said m a [] = record { number = 0; values = none }
first_said m a (b ∷ bs) =
    let added = add_to m a b in
    or_later (said_of_judged added.answer).number a.sums.minutes (first_said m added.account bs)

-- R62: "a lent run of whole records (else 1, without a place)"
abbrev pub CheckingARun : Type 0
CheckingARun =
    (m : Masses) (a : Account) (run : List ℕ) →
    said_of_checked (checked m a run)
    ≡ cond (eqb (length run % minute_form.size) 0) (first_said m a (records_of run)) (record { number = 1; values = none })

-- R49: "fed methane and CO2 equivalent in tonnes", each "the mg sum converted .., then one division by 1e9"
abbrev pub Charting : Type 0
Charting =
    (a : Account) →
    ((chart a).fed ≡ div binary64 (of_int binary64 (pos a.sums.fed)) (of_int binary64 (pos 1000000000)))
    × ((chart a).co2e ≡ div binary64 (of_int binary64 (pos (a.site.gwp * a.sums.emitted))) (of_int binary64 (pos 1000000000)))

-- R63: the 77,760 bytes that stand behind day x 77,760 others; 21, where they are not all there, shows as an empty part
pub record TakingADay : Type 0 where
  pub there :
      (before part behind : List ℕ) (day : ℕ) → length before ≡ day * 77760 → length part ≡ 77760 →
      day_part (before ++ (part ++ behind)) day ≡ part
  pub not_there : (run : List ℕ) (day : ℕ) → length run < day * 77760 + 77760 → day_part run day ≡ []

-- R83: what each call answers, and which number first
pub record NumbersOfCalls : Type 0 where
  pub reading_a_site : ReadingASite
  pub reading_a_minute : ReadingAMinute
  pub writing_a_site : WritingASite
  pub writing_a_minute : WritingAMinute
  pub classing : Classing
  pub opening_an_account : OpeningAnAccount
  pub adding_a_minute : AddingAMinute
  pub closing_a_year : ClosingAYear
  pub charting : Charting
  pub asking_a_month : AskingAMonth
  pub checking_a_run : CheckingARun
  pub taking_a_day : TakingADay
  pub a_single_minute : ASingleMinute

-- R58, R83: "the account and every lent byte stay" where the number that comes back is not 0
pub record RefusedChangesNothing : Type 0 where
  pub adding_a_minute : (m : Masses) (a : Account) (b : List ℕ) → 0 < (said_of_judged (add_to m a b).answer).number → (add_to m a b).account ≡ a
  pub writing_a_site :
      (s : Site) (out : List ℕ) →
      let after = written out (site_bytes s) (write_site s out) in
      0 < (said_of_verdict after (write_site s out)).number → after ≡ out
  pub writing_a_minute :
      (n : Minute) (out : List ℕ) →
      let after = written out (minute_bytes n) (write_minute n out) in
      0 < (said_of_verdict after (write_minute n out)).number → after ≡ out
  pub a_single_minute :
      (m : Masses) (site minute : List ℕ) (days : ℕ) (answer : List ℕ) →
      0 < returned (single site minute answer) → answer_after m site minute days answer ≡ answer
