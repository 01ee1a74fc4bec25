-- The promises of Promises.antt.
use Rattle.std.specs.Prelude.{Result, Ok, Err}
use Rattle.refusals.specs.declared.refusal.Refusal.{Refusal}
use mathlib.Core.Path.{◌≡◌, refl, ap}
use mathlib.Core.List.{List}
use Prim.Native.Nat.{ℕ}
use Rattle.refusals.specs.Tables.{first_of}
use Rattle.records.specs.House.{answered}
use Rattle.site.specs.Rules.{Examined}
use Rattle.tool06.specs.Bounds.{figures_of}
use Rattle.tool06.specs.Tool.{Masses, Positive, by_equation_7}
use Rattle.tool06.proofs.Kept.{equation_seven}
use Rattle.tool06.proofs.Sums.{bounds_of_any, masses_cancel}
use Rattle.due.specs.Answer.{entry, add_lines, answer}
use Rattle.account.specs.Adding.{due, add_to}
use Rattle.account.specs.declared.Account.{Account}
use Rattle.due.proofs.Taken.{taken}
use Rattle.history.specs.History.{at_first, then, add, check-run, close, chart, co2e, month}
use Rattle.history.specs.Promises.{Histories, ByAnyMasses, DemandThree, DemandThreeBySeven}
use Rattle.history.proofs.Calls.{reached_examined}
use Rattle.history.proofs.Holds.{holds}
use Rattle.history.proofs.Places.{all_accepted, in_places_lem}

pub histories : Histories
histories m pos s days a es reached = (in_places_lem m pos s days a es reached, holds m pos s days a es reached)

pub demand_three : DemandThree
demand_three m pos s days a es reached =
    rw (holds m pos s days a es reached).sums_are
    (bounds_of_any m pos es (all_accepted s days 0 es (in_places_lem m pos s days a es reached)))

-- adding gives the same by any positive masses
same_answer : (m m' : Masses) → Positive m → Positive m' → (a : Account) → Examined a.site → (bytes : List ℕ) → answer m (due a) bytes ≡ answer m' (due a) bytes
unfolding answer
same_answer m m' pos pos' a examined bytes = by-verdict (first_of (add_lines (due a) bytes)) refl
  where
    by-verdict : (v : Result Unit Refusal) → first_of (add_lines (due a) bytes) ≡ v → answered (figures_of m (entry (due a) bytes)) v ≡ answered (figures_of m' (entry (due a) bytes)) v
    by-verdict (Ok tt) fine =
        ap Ok (masses_cancel m m' pos pos' (entry (due a) bytes) (taken m (due a) examined bytes (figures_of m (entry (due a) bytes)) (rw fine refl)).entry-accepted).2
    by-verdict (Err r) refused = refl

pub by_any_masses : ByAnyMasses
unfolding add_to
by_any_masses m pos s days a es (at_first fine) m' pos' = at_first fine
by_any_masses m pos s days a es (then {a = b} {es = fs} r (add bytes)) m' pos' =
    rw (same_answer m m' pos pos' b (reached_examined r) bytes) (then (by_any_masses m pos s days b fs r m' pos') (add bytes))
by_any_masses m pos s days a es (then {a = b} {es = fs} r (check-run run)) m' pos' = then (by_any_masses m pos s days b fs r m' pos') (check-run run)
by_any_masses m pos s days a es (then {a = b} {es = fs} r close) m' pos' = then (by_any_masses m pos s days b fs r m' pos') close
by_any_masses m pos s days a es (then {a = b} {es = fs} r chart) m' pos' = then (by_any_masses m pos s days b fs r m' pos') chart
by_any_masses m pos s days a es (then {a = b} {es = fs} r co2e) m' pos' = then (by_any_masses m pos s days b fs r m' pos') co2e
by_any_masses m pos s days a es (then {a = b} {es = fs} r (month k)) m' pos' = then (by_any_masses m pos s days b fs r m' pos') (month k)

pub demand_three_by_seven : DemandThreeBySeven
demand_three_by_seven m pos s days a es reached MM each =
    let pos7 = equation_seven m pos MM each in
    demand_three (by_equation_7 m MM) pos7 s days a es (by_any_masses m pos s days a es reached (by_equation_7 m MM) pos7)
