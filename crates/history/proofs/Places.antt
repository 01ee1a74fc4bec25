-- The accepted minutes are the first minutes of the year, each judged at its site and for its own day.
use mathlib.Core.Path.{◌≡◌}
use mathlib.Core.List.{List, [], ◌∷◌, ◌++◌}
use Prim.Native.Nat.{ℕ, suc, ◌+◌}
use native.Mathlib.Nat.{add-zero, add-suc, suc-add}
use native.Mathlib.Omega.{arith}
use lib.IntN.{ℤ}
use lib.ListN.{length}
use Rattle.site.specs.declared.Site.{Site}
use Rattle.minute.specs.Record.{minute_of}
use Rattle.tool06.specs.Bounds.{Entry, AllAccepted, start, next}
use Rattle.tool06.specs.declared.figures.Figures.{Figures}
use Rattle.due.specs.Answer.{in_time_at, entry}
use Rattle.account.specs.Adding.{due}
use Rattle.due.proofs.Taken.{Taken}
use Rattle.history.specs.Promises.{InPlace, FromMinute, OfEvery}
use Rattle.history.proofs.Calls.{every}
use Rattle.history.proofs.Holds.{holds}
use Rattle.history.proofs.Opening.{opened_stays}

module _ (s : Site) (days : List ℤ) where
  from_more : (k : ℕ) (es : List Entry) (e : Entry) → FromMinute s days k es → InPlace s days (k + length es) e → FromMinute s days k (es ++ (e ∷ []))
  from_more k [] e all last = (rw add-zero at last, tt)
  from_more k (d ∷ es) e all last = (all.0, from_more (suc k) es e all.1 (rw (suc-add, ← add-suc) last))

  pub all_accepted : (k : ℕ) (es : List Entry) → FromMinute s days k es → AllAccepted es
  all_accepted k [] all = start
  all_accepted k (e ∷ es) all = next all.0.accepted (all_accepted (suc k) es all.1)

-- the minute that is taken next
next_in_place : OfEvery (λ m s days a es. (bytes : List ℕ) (f : Figures) → Taken m (due a) bytes f → InPlace s days (0 + length es) (entry (due a) bytes))
unfolding in_time_at
next_in_place m pos s days a es r bytes f t =
    let same = opened_stays m pos s days a es r in
    let number : (minute_of bytes).number ≡ 0 + length es = omega (arith, t.number_is, (holds m pos s days a es r).minutes_are) in
    record {
      site_is = same.0;
      number_is = number;
      in_time_is = rw (number, same.0, same.1);
      accepted = t.entry-accepted;
    }

pub in_places_lem : OfEvery (λ m s days a es. FromMinute s days 0 es)
in_places_lem m pos s days a es =
    every m s days (λ a es. FromMinute s days 0 es) (λ fine. tt)
    (λ a es r before bytes t. from_more s days 0 es (entry (due a) bytes) before (next_in_place m pos s days a es r bytes _ t))
