-- What the calls keep of every account.
use Rattle.std.specs.Prelude.{Result, Ok, Err}
use Rattle.refusals.specs.declared.refusal.Refusal.{Refusal}
use Prim.Native.Nat.{ℕ, ◌+◌, ◌-◌, ◌*◌, ◌/◌, ◌≤◌, ◌<◌}
use mathlib.Core.Path.{◌≡◌, refl, sym, ap, subst, ◌∙◌}
use mathlib.Core.Bool.{Bool, true, false, not}
use mathlib.Core.List.{List}
use native.Mathlib.Omega.{arith}
use lib.Dec.{eqb}
use lib.IntN.{ℤ}
use lib.ListN.{length, length-set}
use Rattle.refusals.specs.Tables.{first_of}
use Rattle.site.specs.Rules.{year_minutes}
use Rattle.site.specs.declared.Site.{Site}
use Rattle.sums.specs.Sums.{no_sums, ◌⊞◌, one_if}
use Rattle.sums.specs.Within.{Within}
use Rattle.sums.specs.scaffold.Fits.{Fits}
use Rattle.sums.specs.declared.Sums.{Sums}
use Rattle.sums.proofs.Laws.{none_within, plus_within}
use Rattle.calendar.proofs.Months.{day_in_year, each_in_one}
use Rattle.rows.specs.Rows.{row_of}
use Rattle.rows.proofs.Laws.{length_with_in, together_with_in, together_none, twelve_rows, no_row, row_at_most, rows-within_with}
use Rattle.counts.proofs.Laws.{one_more_at, sum_more}
use Rattle.tool06.specs.Tool.{Masses, Positive}
use Rattle.tool06.specs.declared.figures.Figures.{Figures}
use Rattle.due.specs.Answer.{answer}
use Rattle.account.specs.Adding.{due, worth, month_due, with_minute, after_answer, add_to}
use Rattle.account.specs.Kept.{Kept}
use Rattle.account.specs.scaffold.Small.{Small}
use Rattle.account.specs.Opening.{open_lines, fresh, opened}
use Rattle.account.specs.Promises.{OnlyOpened, RefusedStays}
use Rattle.account.specs.declared.Account.{Account}
use Rattle.account.proofs.Accepted.{accepted}
use Rattle.account.proofs.Opens.{opens_kept, list_is_kept, as_given, site_examined}
use Rattle.account.proofs.Within.{year-within, one_if_within, gwp_times}

one_or_other : (b : Bool) → one_if (not b) + one_if b ≡ 1
one_or_other true = refl
one_or_other false = refl

module _ (f : Figures) where
  pub minutes_one : (worth f).minutes ≡ 1
  unfolding worth
  minutes_one = refl

  gas_is : (worth f).gas ≡ one_if (not (eqb f.rule 0))
  unfolding worth
  gas_is = refl

  gas_one : (worth f).gas ≤ 1
  unfolding worth
  gas_one = one_if_within (not (eqb f.rule 0))

-- a row is at most the sums
pub row_most : {a : Account} → Kept a → (k : ℕ) → ((row_of a.rows k).minutes ≤ a.sums.minutes) × ((row_of a.rows k).gas ≤ a.sums.gas)
row_most {a} kept k = rw kept.rows_add_up at (row_at_most a.rows k)

pub row-co2e-within : {a : Account} → Kept a → (k : ℕ) → a.site.gwp * (row_of a.rows k).emitted ≤ 3773606400000000
row-co2e-within {a} kept k = gwp_times kept (row_of a.rows k).emitted (omega (arith, (kept.rows_within k).emitted_within, (row_most kept k).1))

pub month-due : (a : Account) → a.sums.minutes < year_minutes a.site.year → (1 ≤ month_due a) × (month_due a ≤ 12)
month-due a room = let m = each_in_one a.site.year (a.sums.minutes / 1440) (day_in_year a.site.year a.sums.minutes room) in (m.0, m.1)

module _ {a : Account} {f : Figures} (kept : Kept a) (small : Small f) (room : a.sums.minutes < year_minutes a.site.year) where
  -- one minute more fits into the sums
  pub sums_fit : Fits (a.sums ⊞ worth f)
  unfolding ◌⊞◌
  sums_fit =
      let y = (year-within a.site.year).1 in
      record {
        minutes_fit = omega (arith, minutes_one f);
        gas_fits = omega (arith, kept.gas_counted, gas_one f);
        within = plus_within kept.sums_within small.worth_within;
      }

  -- and into each row
  pub row_fits : (k : ℕ) → Fits (row_of a.rows k ⊞ worth f)
  unfolding ◌⊞◌
  row_fits k =
      let y = (year-within a.site.year).1 in
      let most = row_most kept k in
      record {
        minutes_fit = omega (arith, most.0, minutes_one f);
        gas_fits = omega (arith, most.1, gas_one f, kept.gas_counted);
        within = plus_within (kept.rows_within k) small.worth_within;
      }

  pub kept_with : Kept (with_minute a f)
  unfolding with_minute ◌⊞◌
  kept_with =
      let there : f.rule < length a.counts = omega (arith, kept.counts_all, small.rule_below) in
      let row : month_due a - 1 < length a.rows = omega (arith, kept.rows_all, (month-due a room).1) in
      record {
        opens = kept.opens;
        minutes_within = omega (arith, minutes_one f);
        list_kept = kept.list_kept;
        counts_all = length-set a.counts f.rule _ ∙ kept.counts_all;
        counts_sum = omega (arith, minutes_one f, kept.counts_sum, sum_more a.counts f.rule there);
        gas_counted = omega (arith, minutes_one f, gas_is f, kept.gas_counted, one_more_at a.counts f.rule 0 there, one_or_other (eqb f.rule 0));
        sums_within = plus_within kept.sums_within small.worth_within;
        rows_all = length_with_in a.rows (month_due a) (worth f) ∙ kept.rows_all;
        rows_add_up = together_with_in a.rows (month_due a) (worth f) row ∙ ap (λ (s : Sums). s ⊞ worth f) kept.rows_add_up;
        rows_within = rows-within_with a.rows (month_due a) (worth f) kept.rows_within small.worth_within;
      }

-- adding keeps what it requires, whatever the bytes
pub kept_add : (m : Masses) → Positive m → {a : Account} → Kept a → (bytes : List ℕ) → Kept (add_to m a bytes).account
unfolding add_to
kept_add m pos {a} kept bytes = by_answer (answer m (due a) bytes) refl
  where
    by_answer : (j : Result Figures Refusal) → answer m (due a) bytes ≡ j → Kept (after_answer a j)
    by_answer (Ok f) e = let told = accepted m pos a (site_examined kept) bytes f e in kept_with kept told.0 told.1
    by_answer (Err r) e = kept

-- an accepted record is one minute more
pub minutes_more : (a : Account) (f : Figures) → (with_minute a f).sums.minutes ≡ a.sums.minutes + 1
unfolding with_minute ◌⊞◌
minutes_more a f = ap (λ (n : ℕ). a.sums.minutes + n) (minutes_one f)

pub minutes_on : (m : Masses) (a : Account) (bytes : List ℕ) (f : Figures) → answer m (due a) bytes ≡ Ok f → (add_to m a bytes).account.sums.minutes ≡ a.sums.minutes + 1
unfolding add_to
minutes_on m a bytes f e = rw e (minutes_more a f)

pub fresh_kept : (s : Site) (days : List ℤ) → first_of (open_lines s days) ≡ Ok tt → Kept (fresh s days)
unfolding fresh no_sums
fresh_kept s days fine = record {
  opens = opens_kept s days fine;
  minutes_within = omega arith;
  list_kept = list_is_kept s days fine;
  counts_all = refl;
  counts_sum = refl;
  gas_counted = refl;
  sums_within = none_within;
  rows_all = twelve_rows;
  rows_add_up = together_none;
  rows_within = λ k. subst Within (sym (no_row k)) none_within;
}

-- opening gives the account of these fields, and nothing was refused
pub opened_is : (s : Site) (days : List ℤ) {a : Account} → opened s days ≡ Ok a → (first_of (open_lines s days) ≡ Ok tt) × (a ≡ fresh s days)
unfolding opened
opened_is s days {a} e = by_verdict (first_of (open_lines s days)) refl
  where
    by_verdict : (v : Result Unit Refusal) → first_of (open_lines s days) ≡ v → (first_of (open_lines s days) ≡ Ok tt) × (a ≡ fresh s days)
    by_verdict (Ok tt) fine = let given = rw fine at e in (fine, cc)
    by_verdict (Err r) refused = let none = rw refused at e in absurd (let y : ◌≡◌ {A = ℕ} 0 1 = cc in omega arith)

-- what opening gave is kept
pub opened_kept : (s : Site) (days : List ℤ) {given : Result Account Refusal} {a : Account} → given ≡ opened s days → given ≡ Ok a → Kept a
opened_kept s days is e = let told = opened_is s days (sym is ∙ e) in rw (told.1) (fresh_kept s days told.0)

pub only-opened : OnlyOpened
unfolding opened fresh
only-opened s days = (λ k. rw (as_given s days k.list_kept k.opens) refl, opened_kept s days refl)

pub refused_stays : RefusedStays
unfolding add_to
refused_stays m a bytes r e = rw e refl
