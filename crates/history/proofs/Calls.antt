-- What holds after opening, and stays with each accepted minute, holds of every account that any calls can give.
use Rattle.std.specs.Prelude.{Result, Ok, Err}
use Rattle.refusals.specs.declared.refusal.Refusal.{Refusal}
use mathlib.Core.Path.{◌≡◌, refl, sym, subst}
use mathlib.Core.List.{List, [], ◌∷◌, ◌++◌}
use Prim.Native.Nat.{ℕ}
use lib.IntN.{ℤ}
use Rattle.site.specs.Rules.{Examined}
use Rattle.site.specs.declared.Site.{Site}
use Rattle.tool06.specs.Bounds.{Entry, figures_of}
use Rattle.tool06.specs.Tool.{Masses}
use Rattle.tool06.specs.declared.figures.Figures.{Figures}
use Rattle.due.specs.Answer.{entry, answer}
use Rattle.account.specs.Adding.{due, with_minute, after_answer, add_to}
use Rattle.account.specs.Opening.{open_lines, fresh}
use Rattle.account.specs.declared.Account.{Account}
use Rattle.due.proofs.Taken.{Taken, taken}
use Rattle.account.proofs.Laws.{opened_is}
use Rattle.account.proofs.Opens.{examined}
use Rattle.refusals.specs.Tables.{first_of}
use Rattle.history.specs.History.{Reached, at_first, then, add, check-run, close, chart, co2e, month, grown}

-- no call changes the site
after_site : (a : Account) (j : Result Figures Refusal) → (after_answer a j).site ≡ a.site
unfolding with_minute
after_site a (Ok f) = refl
after_site a (Err r) = refl

module _ {m : Masses} {s : Site} {days : List ℤ} where
  pub reached_examined : {a : Account} {es : List Entry} → Reached m s days a es → Examined a.site
  unfolding fresh add_to
  reached_examined (at_first given) = examined s days (opened_is s days given).0
  reached_examined (then {a = b} r (add bytes)) = rw (after_site b (answer m (due b) bytes)) (reached_examined r)
  reached_examined (then r (check-run run)) = reached_examined r
  reached_examined (then r close) = reached_examined r
  reached_examined (then r chart) = reached_examined r
  reached_examined (then r co2e) = reached_examined r
  reached_examined (then r (month k)) = reached_examined r

module _ (m : Masses) (s : Site) (days : List ℤ) (P : Account → List Entry → Type 0) where
  abbrev OneMore : Account → List Entry → List ℕ → Figures → Type 0
  OneMore a es bytes f = P (with_minute a f) (es ++ (entry (due a) bytes ∷ []))

  -- it stays with one accepted minute more
  abbrev Stays : Type 0
  Stays =
      (a : Account) (es : List Entry) → Reached m s days a es → P a es →
      (bytes : List ℕ) → let f = figures_of m (entry (due a) bytes) in Taken m (due a) bytes f → OneMore a es bytes f

  added : Stays → {a : Account} {es : List Entry} → Reached m s days a es → P a es → (bytes : List ℕ) → P (add_to m a bytes).account (grown es (entry (due a) bytes) (answer m (due a) bytes))
  unfolding add_to
  added more {a} {es} r p bytes = by_answer (answer m (due a) bytes) refl
    where
      one_more : (f : Figures) → Taken m (due a) bytes f → OneMore a es bytes f
      one_more f t =
          subst (λ (g : Figures). Taken m (due a) bytes g → OneMore a es bytes g) (sym t.figures_are) (more a es r p bytes) t

      by_answer : (j : Result Figures Refusal) → answer m (due a) bytes ≡ j → P (after_answer a j) (grown es (entry (due a) bytes) j)
      by_answer (Ok f) e = one_more f (taken m (due a) (reached_examined r) bytes f e)
      by_answer (Err why) e = p

  pub every : (first_of (open_lines s days) ≡ Ok tt → P (fresh s days) []) → Stays → {a : Account} {es : List Entry} → Reached m s days a es → P a es
  every first more (at_first given) = first (opened_is s days given).0
  every first more (then r (add bytes)) = added more r (every first more r) bytes
  every first more (then r (check-run run)) = every first more r
  every first more (then r close) = every first more r
  every first more (then r chart) = every first more r
  every first more (then r co2e) = every first more r
  every first more (then r (month k)) = every first more r
