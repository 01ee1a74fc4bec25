-- CO2 equivalent and the tonnes beside equation (15).
use Rattle.std.specs.Prelude.{Ok}
use Prim.Native.Nat.{ℕ, zero, suc, ◌*◌, ◌≤◌, ◌<◌}
use mathlib.Core.Path.{◌≡◌, refl, sym, ap, subst, ◌∙◌}
use mathlib.Core.Bool.{Bool, true, false}
use native.Mathlib.Omega.{arith}
use borrow.Author.Tests.{ltb-false}
use lib.Dec.{ltb}
use Rattle.exact.specs.Rounding.{ceil_div}
use Rattle.exact.specs.Fractions.{Frac, ◌⊕◌, ◌⊗◌, ◌⊘◌, inv, whole, ◌≼◌, ◌≺◌, round_up}
use Rattle.exact.proofs.Bools.{or_false}
use Rattle.exact.proofs.Fractions.{⊗-comm, ⊗-zero, ⊕-zero, ⊕-⊗, one-⊗, mul-ac, whole-⊗}
use Rattle.exact.proofs.Order.{≼_trans, ≺-≼, ≺-≼-trans, ⊕-mono_left, ⊗-mono, ⊗-smono, zero-⊕, inv-pos, inv_positive, whole-≼, whole_pos}
use Rattle.exact.proofs.Ratios.{ratio_nonneg}
use Rattle.exact.proofs.RoundedFractions.{up_not_below, up_near, up_ratio}
use Rattle.refusals.proofs.Tables.{none}
use Rattle.site.specs.Rules.{site_lines, Examined}
use Rattle.site.specs.declared.Site.{Site}
use Rattle.sums.specs.Bounds.{Exact, exact_sums, Bounds}
use Rattle.tool06.specs.Bounds.{exact_of}
use Rattle.tool06.specs.Year.{PE_flare}
use Rattle.tool06.proofs.Sums.{no_slack}
use Rattle.tool06.proofs.Year.{PE_mg}
use Rattle.due.specs.Answer.{is_full}
use Rattle.account.specs.Adding.{due}
use Rattle.account.specs.Closing.{co2e, closing}
use Rattle.account.specs.declared.Account.{Account}
use Rattle.history.specs.Year.{Equation15}
use Rattle.history.proofs.Calls.{reached_examined}
use Rattle.history.proofs.Opening.{opened_stays}
use Rattle.history.proofs.Promises.{demand_three}

-- 10^9 mg to a tonne
tera : whole 1000000000 ⊗ inv (whole 1000000000) ≡ whole 1
tera = inv_positive (whole 1000000000) (whole_pos 1000000000 (omega arith))

per_tonne : whole 0 ≺ inv (whole 1000000000)
per_tonne = inv-pos (whole 1000000000) (whole_pos 1000000000 (omega arith))

gwp_least : (s : Site) → Examined s → 1 ≤ s.gwp
unfolding site_lines
gwp_least s fine = ltb-false s.gwp 1 (or_false (ltb s.gwp 1) (ltb 100 s.gwp) (none (site_lines s) fine).1.1.0).0

-- closing gives tonnes only where it gives these
tonnes_are : (a : Account) (t : ℕ) → closing a ≡ Ok t → t ≡ ceil_div (co2e a) 1000000000
unfolding closing
tonnes_are a t e = by_full (is_full (due a)) refl
  where
    by_full : (full : Bool) → is_full (due a) ≡ full → t ≡ ceil_div (co2e a) 1000000000
    by_full true f = let z = rw f at e in cc
    by_full false f = let z = rw f at e in absurd (let y : ◌≡◌ {A = ℕ} 0 1 = cc in omega arith)

module _ (PE : Frac) (x : Exact) (g : ℕ) (a : Account) (gwp-is : a.site.gwp ≡ g) (pos : 0 < g) (same : PE ⊗ whole 1000000000 ≡ x.emitted ⊗ whole g) (flat : x.slack ≡ whole 0) (b : Bounds a.sums x) where
  co2e-whole : whole (co2e a) ≡ whole a.sums.emitted ⊗ whole g
  unfolding co2e
  co2e-whole = rw (gwp-is, ← whole-⊗, ⊗-comm)

  -- in tonnes again
  back_again : (x : Frac) → x ⊗ whole 1000000000 ⊗ inv (whole 1000000000) ≡ x
  back_again x =
      let r : (p t i : Frac) → p ⊗ t ⊗ i ≡ t ⊗ i ⊗ p = λ p t i. simp mul-ac in
      r x (whole 1000000000) (inv (whole 1000000000)) ∙ rw (tera, one-⊗)

  PE_is : PE ≡ x.emitted ⊗ whole g ⊗ inv (whole 1000000000)
  PE_is = sym (back_again PE) ∙ ap (λ (z : Frac). z ⊗ inv (whole 1000000000)) same

  g_pos : whole 0 ≺ whole g
  g_pos = whole_pos g pos

  not_below : PE ⊗ whole 1000000000 ≼ whole (co2e a)
  not_below = rw (same, co2e-whole) (⊗-mono x.emitted (whole a.sums.emitted) (whole g) (≺-≼ _ _ g_pos) b.emitted_not_below)

  gathered : (x.emitted ⊕ whole a.sums.gas) ⊗ whole g ≡ PE ⊗ whole 1000000000 ⊕ whole (g * a.sums.gas)
  gathered = rw (⊕-⊗, same, whole-⊗) (ap (λ (k : ℕ). x.emitted ⊗ whole g ⊕ whole k) (omega arith))

  near : 0 < a.sums.gas → whole (co2e a) ≺ PE ⊗ whole 1000000000 ⊕ whole (g * a.sums.gas)
  near some = rw (← gathered, co2e-whole) (⊗-smono (whole a.sums.emitted) (x.emitted ⊕ whole a.sums.gas) (whole g) g_pos (rw (flat, ⊕-zero) at (b.emitted_near some)))

  none_is : a.sums.gas ≡ 0 → (co2e a ≡ 0) × (PE ≡ whole 0)
  unfolding co2e
  none_is n = let z = b.no_gas n in (
    rw z.1 (omega arith),
    PE_is ∙ rw z.3 (let r : (x y : Frac) → whole 0 ⊗ x ⊗ y ≡ whole 0 = λ x y. rw (⊗-comm (whole 0) x, ⊗-zero, ⊗-comm (whole 0) y, ⊗-zero) in r _ _),
  )

  at_most_lem : whole (co2e a) ≼ PE ⊗ whole 1000000000 ⊕ whole (g * a.sums.gas)
  at_most_lem = by_N a.sums.gas refl
    where
      by_N : (k : ℕ) → a.sums.gas ≡ k → whole (co2e a) ≼ PE ⊗ whole 1000000000 ⊕ whole (g * a.sums.gas)
      by_N zero is = let n = none_is is in rw (n.0, n.1, ⊗-comm (whole 0) (whole 1000000000), ⊗-zero, zero-⊕) ((whole-≼ 0 (g * a.sums.gas)).1 (omega arith))
      by_N (suc k) is = ≺-≼ _ _ (near (omega arith))

  -- CO2 equivalent in tonnes, before it is rounded
  abbrev X : Frac
  X = whole (co2e a) ⊘ whole 1000000000

  X_above : PE ≼ X
  unfolding ◌⊘◌
  X_above = subst (λ (z : Frac). z ≼ X) (back_again PE) (⊗-mono (PE ⊗ whole 1000000000) (whole (co2e a)) (inv (whole 1000000000)) (≺-≼ _ _ per_tonne) not_below)

  X_near : X ≼ PE ⊕ whole (g * a.sums.gas) ⊘ whole 1000000000
  unfolding ◌⊘◌
  X_near =
      let h = ⊗-mono (whole (co2e a)) (PE ⊗ whole 1000000000 ⊕ whole (g * a.sums.gas)) (inv (whole 1000000000)) (≺-≼ _ _ per_tonne) at_most_lem in
      subst (λ (z : Frac). X ≼ z) (⊕-⊗ (PE ⊗ whole 1000000000) (whole (g * a.sums.gas)) (inv (whole 1000000000)) ∙ ap (λ (z : Frac). z ⊕ whole (g * a.sums.gas) ⊗ inv (whole 1000000000)) (back_again PE)) h

  module _ (t : ℕ) (e : closing a ≡ Ok t) where
    t_is : round_up X ≡ t
    t_is = up_ratio (co2e a) 1000000000 (omega arith) ∙ sym (tonnes_are a t e)

    PE_below : PE ≼ whole t
    PE_below = ≼_trans PE X (whole t) X_above (subst (λ (k : ℕ). X ≼ whole k) t_is (up_not_below X))

    tonnes_close : whole t ≺ PE ⊕ whole (g * a.sums.gas) ⊘ whole 1000000000 ⊕ whole 1
    tonnes_close =
        ≺-≼-trans (whole t) (X ⊕ whole 1) (PE ⊕ whole (g * a.sums.gas) ⊘ whole 1000000000 ⊕ whole 1)
        (subst (λ (k : ℕ). whole k ≺ X ⊕ whole 1) t_is (up_near X (ratio_nonneg (co2e a) 1000000000 (omega arith))))
        (⊕-mono_left X (PE ⊕ whole (g * a.sums.gas) ⊘ whole 1000000000) (whole 1) X_near)

pub equation_15 : Equation15
equation_15 m pos s days a es reached =
    let b = demand_three m pos s days a es reached in
    let site_is : a.site ≡ s = (opened_stays m pos s days a es reached).0 in
    let gwp-is : a.site.gwp ≡ s.gwp = ap (λ (x : Site). x.gwp) site_is in
    let pos-gwp : 0 < s.gwp = subst (λ (x : Site). 0 < x.gwp) site_is (gwp_least a.site (reached_examined reached)) in
    let same = PE_mg m s.gwp es in
    let PE = PE_flare m s.gwp es in
    let x = exact_sums (exact_of m) es in
    let flat = no_slack m es in
    record {
      no_gas = none_is PE x s.gwp a gwp-is pos-gwp same flat b;
      co2e_not_below = not_below PE x s.gwp a gwp-is pos-gwp same flat b;
      co2e_near = near PE x s.gwp a gwp-is pos-gwp same flat b;
      tonnes_not_below = PE_below PE x s.gwp a gwp-is pos-gwp same flat b;
      tonnes_near = tonnes_close PE x s.gwp a gwp-is pos-gwp same flat b;
    }
