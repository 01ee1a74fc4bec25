-- Each row is the sum over its month's minutes, and so has their bounds.
use mathlib.Core.Path.{◌≡◌, refl, sym, ap, ◌∙◌}
use mathlib.Core.Bool.{Bool, true, false, cond}
use mathlib.Core.List.{List, [], ◌∷◌, ◌++◌}
use Prim.Native.Nat.{ℕ, ◌/◌}
use native.Mathlib.Omega.{arith}
use Rattle.sums.specs.Sums.{◌⊞◌, total}
use Rattle.sums.specs.declared.Sums.{Sums}
use Rattle.sums.proofs.Laws.{none-⊞, ⊞-none, ⊞-assoc}
use Rattle.calendar.specs.Calendar.{month_of}
use Rattle.rows.specs.Rows.{row_of}
use Rattle.rows.specs.scaffold.Only.{only}
use Rattle.rows.proofs.Laws.{no_row, row_with_in}
use Rattle.site.specs.declared.Site.{Site}
use Rattle.tool06.specs.Bounds.{Entry, figures_of, worth_of, AllAccepted, start, next}
use Rattle.tool06.specs.Tool.{Masses, by_equation_7}
use Rattle.tool06.proofs.Kept.{equation_seven}
use Rattle.tool06.proofs.Sums.{bounds_of_any}
use Rattle.due.specs.Answer.{entry}
use Rattle.due.proofs.Taken.{room}
use Rattle.account.specs.Adding.{due, worth, month_due, with_minute}
use Rattle.account.specs.Opening.{fresh}
use Rattle.account.specs.declared.Account.{Account}
use Rattle.account.proofs.Accepted.{worth_is}
use Rattle.account.proofs.Laws.{month-due}
use Rattle.history.specs.Months.{in_month, of_month, RowsAddUp, OfEachMonth, RowsAre, DemandThreeByMonth, DemandThreeByMonthAndSeven}
use Rattle.history.proofs.Calls.{every}
use Rattle.history.proofs.Holds.{every_kept}
use Rattle.history.proofs.Places.{all_accepted, in_places_lem}
use Rattle.history.proofs.Promises.{by_any_masses}

pub rows_add_up : RowsAddUp
rows_add_up m pos s days a es reached = let k = every_kept m pos s days a es reached in (k.rows_all, k.rows_add_up)

-- one minute more, in its month or not
month-more : (w : Entry → Sums) (k : ℕ) (es : List Entry) (e : Entry) → total w (of_month k (es ++ (e ∷ []))) ≡ total w (of_month k es) ⊞ only (in_month k e) (w e)
month-more w k [] e = by-month (in_month k e)
  where
    by-month : (here : Bool) → total w (cond here (e ∷ []) []) ≡ total w [] ⊞ only here (w e)
    by-month true = ⊞-none (w e) ∙ sym (none-⊞ (w e))
    by-month false = sym (none-⊞ (total w []))
month-more w k (d ∷ es) e = by-month (in_month k d) (month-more w k es e)
  where
    by-month :
        (here : Bool)
        → total w (of_month k (es ++ (e ∷ []))) ≡ total w (of_month k es) ⊞ only (in_month k e) (w e)
        → total w (cond here (d ∷ of_month k (es ++ (e ∷ []))) (of_month k (es ++ (e ∷ [])))) ≡ total w (cond here (d ∷ of_month k es) (of_month k es)) ⊞ only (in_month k e) (w e)
    by-month true rest = ap (λ (t : Sums). w d ⊞ t) rest ∙ sym (⊞-assoc (w d) (total w (of_month k es)) (only (in_month k e) (w e)))
    by-month false rest = rest

module _ (m : Masses) where
  abbrev Rows : Account → List Entry → Type 0
  Rows a es = OfEachMonth (λ k. row_of a.rows k ≡ total (worth_of m) (of_month k es))

  opened_rows : (s : Site) (days : _) → Rows (fresh s days) []
  unfolding fresh
  opened_rows s days k one most = no_row k

pub rows_are : RowsAre
unfolding with_minute
rows_are m pos s days a es =
    every m s days (Rows m) (λ fine. opened_rows m s days)
    (λ a es r rows bytes t k one most.
    let e = entry (due a) bytes in
    let kept = every_kept m pos s days a es r in
    let own : month_due a ≡ month_of e.site.year (e.minute.number / 1440) = rw t.number_is refl in
    row_with_in a.rows (month_due a) (worth (figures_of m e)) k (month-due a (room t)).0 one (omega (arith, kept.rows_all))
    ∙ rw (worth_is m e, rows k one most, own) (sym (month-more (worth_of m) k es e)))

-- some of the minutes are accepted where all are
of_month-accepted : (k : ℕ) (es : List Entry) → AllAccepted es → AllAccepted (of_month k es)
of_month-accepted k [] start = start
of_month-accepted k (e ∷ es) (next fine rest) = by-month (in_month k e) (of_month-accepted k es rest)
  where
    by-month : (here : Bool) → AllAccepted (of_month k es) → AllAccepted (cond here (e ∷ of_month k es) (of_month k es))
    by-month true others = next fine others
    by-month false others = others

pub demand_three_by-month : DemandThreeByMonth
demand_three_by-month m pos s days a es reached k one most =
    rw (rows_are m pos s days a es reached k one most)
    (bounds_of_any m pos (of_month k es) (of_month-accepted k es (all_accepted s days 0 es (in_places_lem m pos s days a es reached))))

pub demand_three_by-month_and_seven : DemandThreeByMonthAndSeven
demand_three_by-month_and_seven m pos s days a es reached MM each =
    let pos7 = equation_seven m pos MM each in
    demand_three_by-month (by_equation_7 m MM) pos7 s days a es (by_any_masses m pos s days a es reached (by_equation_7 m MM) pos7)
