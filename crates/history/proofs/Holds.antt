-- Every account has what the calls require, and holds the sums and the numbers over exactly its accepted minutes.
use mathlib.Core.Path.{◌≡◌, refl, ap}
use mathlib.Core.List.{List, [], ◌∷◌, ◌++◌}
use Prim.Native.Nat.{◌*◌, ◌<◌}
use native.Mathlib.Omega.{arith}
use lib.IntN.{ℤ}
use lib.ListN.{length, length-append, get_or-replicate}
use Rattle.site.specs.declared.Site.{Site}
use Rattle.sums.specs.Sums.{no_sums, ◌⊞◌, total}
use Rattle.sums.specs.declared.Sums.{Sums}
use Rattle.sums.proofs.Laws.{total-more, count-more}
use Rattle.tool06.specs.Bounds.{Entry, figures_of, worth_of}
use Rattle.tool06.specs.Rules.{rule_count}
use Rattle.tool06.specs.Tool.{Masses}
use Rattle.tool06.proofs.Sizes.{rule_below}
use Rattle.counts.proofs.Laws.{one_more_at}
use Rattle.due.specs.Answer.{entry}
use Rattle.account.specs.Adding.{due, worth, with_minute}
use Rattle.account.specs.Closing.{co2e}
use Rattle.account.specs.Kept.{Kept}
use Rattle.account.specs.Opening.{fresh}
use Rattle.account.specs.declared.Account.{Account}
use Rattle.due.proofs.Taken.{room}
use Rattle.account.proofs.Accepted.{worth_is, small}
use Rattle.account.proofs.Laws.{minutes_one, kept_with, fresh_kept}
use Rattle.history.specs.Promises.{Holds, OfEvery, EveryKept}
use Rattle.history.proofs.Calls.{every}

pub every_kept : EveryKept
every_kept m pos s days a es =
    every m s days (λ a es. Kept a) (fresh_kept s days)
    (λ a es r kept bytes t. kept_with kept (small m pos (entry (due a) bytes) t.entry-accepted) (room t))

module _ (m : Masses) where
  opened-holds : (s : Site) (days : List ℤ) → Holds m (fresh s days) []
  unfolding fresh co2e no_sums
  opened-holds s days = record {
    minutes_are = refl;
    sums_are = refl;
    counts_are = λ k below. get_or-replicate rule_count k 0 0 below;
    co2e_is = refl;
  }

  minutes_more : (a : Account) (es : List Entry) → Holds m a es → (e : Entry) → (a.sums ⊞ worth (figures_of m e)).minutes ≡ length (es ++ (e ∷ []))
  unfolding ◌⊞◌
  minutes_more a es h e = rw (length-append, h.minutes_are, minutes_one (figures_of m e))

  -- one minute more in the account, and in the list
  holds_more : {a : Account} {es : List Entry} → Kept a → Holds m a es → (e : Entry) → Holds m (with_minute a (figures_of m e)) (es ++ (e ∷ []))
  unfolding with_minute co2e
  holds_more {a} {es} kept h e =
      let there : (figures_of m e).rule < length a.counts = omega (arith, kept.counts_all, rule_below m e) in
      let sums : a.sums ⊞ worth (figures_of m e) ≡ total (worth_of m) (es ++ (e ∷ [])) = rw (total-more (worth_of m) es e, worth_is m e, h.sums_are) in
      record {
        minutes_are = minutes_more a es h e;
        sums_are = sums;
        counts_are = λ k below. rw (count-more, one_more_at a.counts (figures_of m e).rule k there, h.counts_are k below);
        co2e_is = ap (λ (s : Sums). a.site.gwp * s.emitted) sums;
      }

pub holds : OfEvery (λ m s days a es. Holds m a es)
holds m pos s days a es =
    every m s days (Holds m) (λ fine. opened-holds m s days)
    (λ a es r h bytes t. holds_more m (every_kept m pos s days a es r) h (entry (due a) bytes))
