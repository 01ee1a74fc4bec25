-- The efficiency of each rule is one less a fraction of whole numbers, and never below zero.
use mathlib.Core.Path.{◌≡◌, refl, sym, ap, ◌∙◌}
use mathlib.Core.Quot.{sound}
use mathlib.Core.Bool.{Bool, true}
use Prim.Native.Nat.{ℕ, ◌+◌, ◌-◌, ◌*◌, ◌≤◌, ◌<◌, min}
use native.Mathlib.Nat.{mul-pos}
use native.Mathlib.Decide.{dec_le}
use native.Mathlib.Omega.{arith}
use borrow.Author.Tests.{not-false}
use mathlib.Core.Logic.{◌↔◌}
use Rattle.exact.specs.Fractions.{Frac, le_test, ◌⊕◌, ◌⊖◌, ◌⊗◌, ◌⊘◌, neg, inv, whole, ◌≼◌, at_least_zero}
use Rattle.exact.proofs.Bools.{holds, fails}
use Rattle.exact.proofs.Fractions.{⊖-zero, ⊖-⊖, ⊖-⊗}
use Rattle.exact.proofs.Order.{sign_of, inv-pos, inv_positive, whole_pos}
use Rattle.exact.proofs.Ratios.{⊘-unique, ⊘-one, ratio-≡, ratio-⊗, ratio-⊘, ratio-⊕, one_minus}
use Rattle.site.specs.Rules.{is_measured}
use Rattle.site.specs.declared.Site.{Site}
use Rattle.minute.specs.Rules.{has_gas, exhaust_present}
use Rattle.minute.specs.declared.Minute.{Minute}
use Rattle.tool06.specs.declared.class.Class.{Class}
use Rattle.tool06.specs.declared.class.Class.TheVariants.{Open, Low, Tall}
use Rattle.tool06.specs.declared.loss.Loss.{Loss}
use Rattle.tool06.specs.declared.loss.Loss.TheVariants.{Share, Measured}
use Rattle.tool06.specs.Class.{class_of}
use Rattle.tool06.specs.Figures.{η, applied}
use Rattle.tool06.specs.scaffold.Nanograms.{P, Q, per_of, lost_of}
use Rattle.tool06.specs.Rules.{Rule, lowered, low_tenth, all_lost, half, by_default, measured, rule_lines, last_rule, the_rule}
use Rattle.tool06.specs.Short.{K, D, F_RG_ng, five_LKf}
use Rattle.tool06.specs.Tool.{Masses, Positive, v, V_RG, ρ_CH4, F_CH4_RG, F_CH4_EG, η_calc}
use Rattle.tool06.proofs.Facts.{Facts, has-gas, low_within, measurable}
use Rattle.tool06.proofs.Rules.{◌∣◌, end, by_rows}
use Rattle.tool06.proofs.Short.{short_whole}

-- ten to the twelfth: nanograms to a kg
abbrev tera : ℕ
tera = 1000000000000

pub fed_is : (n : Minute) → F_CH4_RG n ≡ whole (F_RG_ng n) ⊘ whole 1000000000000
unfolding F_CH4_RG V_RG ρ_CH4 v
fed_is n =
    rw (ratio-⊗ 716 1000 n.litres 1000 (omega arith) (omega arith), ratio-⊗ (716 * n.litres) (1000 * 1000) n.gas.ch4 1000000 (omega arith) (omega arith))

-- one less p / q, and never below zero
as_sign : (p q : ℕ) → 0 < q → whole 1 ⊖ whole p ⊘ whole q ≡ (whole q ⊖ whole p) ⊗ inv (whole q)
unfolding ◌⊘◌
as_sign p q h = rw (⊖-⊗, inv_positive (whole q) (whole_pos q h))

one_minus_sign : (p q : ℕ) → 0 < q → (whole 0 ≼ whole 1 ⊖ whole p ⊘ whole q) ↔ (p ≤ q)
one_minus_sign p q h = rw (as_sign p q h) (sign_of q p (inv (whole q)) (inv-pos (whole q) (whole_pos q h))).0

pub zero_ratio : (q : ℕ) → 0 < q → whole 0 ⊘ whole q ≡ whole 0
zero_ratio q h = ratio-≡ 0 q 0 1 h (omega arith) (omega arith) ∙ ⊘-one (whole 0)

pub capped : (p q : ℕ) → 0 < q → at_least_zero (whole 1 ⊖ whole p ⊘ whole q) ≡ whole (q - min p q) ⊘ whole q
unfolding at_least_zero
capped p q h = go (dec_le p q)
  where
    go : Dec (p ≤ q) → at_least_zero (whole 1 ⊖ whole p ⊘ whole q) ≡ whole (q - min p q) ⊘ whole q
    go (yes l) =
        let e : q - min p q ≡ q - p = omega arith in
        rw (holds (le_test (whole 0) (whole 1 ⊖ whole p ⊘ whole q)) ((one_minus_sign p q h).1 l), e) (one_minus p (q - p) q h (omega arith))
    go (no k) =
        let e : q - min p q ≡ 0 = omega arith in
        rw (fails (le_test (whole 0) (whole 1 ⊖ whole p ⊘ whole q)) (λ t. k ((one_minus_sign p q h).0 t)), e) (sym (zero_ratio q h))

-- x P / (2 D Q) of F, and t tenths beside it
lost_sum : (x D F t Q : ℕ) → 0 < D → 0 < F → 0 < Q → whole x ⊘ whole (F * (2 * D * Q)) ⊕ whole t ⊘ whole 10 ≡ whole (5 * x + Q * (D * (t * F))) ⊘ whole (F * (10 * (Q * D)))
lost_sum x D F t Q hD hF hQ =
    let h : 0 < F * (2 * D * Q) = mul-pos hF (mul-pos {m = 2 * D} (omega arith) hQ) in
    rw (ratio-⊕ x (F * (2 * D * Q)) t 10 h (omega arith))
    (ratio-≡ (x * 10 + t * (F * (2 * D * Q))) (F * (2 * D * Q) * 10) (5 * x + Q * (D * (t * F))) (F * (10 * (Q * D))) (omega arith) (omega arith) (omega arith))

-- p / q nanograms lost of F that are fed leave this efficiency
abbrev pub Leaves : ℕ → ℕ → ℕ → Frac → Type 0
Leaves F p q η = (0 < q) × (p ≤ F * q) × (η ≡ whole (F * q - p) ⊘ whole (F * q))

-- a loss leaves this efficiency of a minute
abbrev pub Loses : Minute → Loss → Frac → Type 0
Loses n loss η = Leaves (F_RG_ng n) (lost_of loss n) (per_of loss n) η

-- l millionths lost leave the k others
by_share : (F l k : ℕ) → 0 < F → l + k ≡ 1000000 → (η : Frac) → η ≡ whole k ⊘ whole 1000000 → Leaves F (l * F) 1000000 η
by_share F l k hF e η is =
    let te : (l + k) * F ≡ 1000000 * F = ap (λ (z : ℕ). z * F) e in
    let m : F * 1000000 - l * F ≡ k * F = omega arith in
    (omega arith, omega arith, is ∙ rw m (sym (ratio-≡ (k * F) (F * 1000000) k 1000000 (omega arith) (omega arith) (omega arith))))

none_is : whole 0 ≡ whole 0 ⊘ whole 1000000
none_is = sym (zero_ratio 1000000 (omega arith))

half_is : whole 1 ⊘ whole 2 ≡ whole 500000 ⊘ whole 1000000
half_is = ratio-≡ 1 2 500000 1000000 (omega arith) (omega arith) refl

default_is : (c : Class) → lowered c (whole 9 ⊘ whole 10) ≡ whole (900000 - 100000 * low_tenth c) ⊘ whole 1000000
unfolding ◌⊖◌ ◌⊘◌ ◌⊗◌ ◌⊕◌ neg inv whole
default_is Open = sound refl
default_is Low = sound refl
default_is Tall = sound refl

lowered_is : (c : Class) (η : Frac) → lowered c η ≡ η ⊖ whole (low_tenth c) ⊘ whole 10
lowered_is Open η = rw (zero_ratio 10 (omega arith), ⊖-zero)
lowered_is Low η = refl
lowered_is Tall η = rw (zero_ratio 10 (omega arith), ⊖-zero)

-- x / d nanograms of F, where X kg are x / d nanograms
part : (X : Frac) (x d F : ℕ) → 0 < d → 0 < F → X ⊗ whole 1000000000000 ≡ whole x ⊘ whole d → X ⊘ (whole F ⊘ whole 1000000000000) ≡ whole x ⊘ whole (F * d)
part X x d F hd hF e =
    let X-is : X ≡ whole (x * 1) ⊘ whole (d * tera) =
    sym (⊘-unique (X ⊗ whole tera) (whole tera) X (whole_pos tera (omega arith)) refl) ∙
    (rw (e, ← ⊘-one (whole tera)) (ratio-⊘ x d tera 1 hd (omega arith) (omega arith))) in
    rw (X-is, ratio-⊘ (x * 1) (d * tera) F tera (omega arith) hF (omega arith))
    (ratio-≡ (x * 1 * tera) (d * tera * F) x (F * d) (mul-pos {m = d * tera} (omega arith) hF) (mul-pos hF hd) (omega arith))

-- the factor P / Q changes nothing
by_factor : (x d : ℕ) → 0 < d → whole x ⊘ whole d ≡ whole (x * P) ⊘ whole (d * Q)
by_factor x d h = ratio-≡ x d (x * P) (d * Q) h (omega arith) (omega arith)

module _ (m : Masses) (pos : Positive m) {s : Site} {n : Minute} (f : Facts s n) (gas : has_gas n ≡ true) where
  pub F_pos : 0 < F_RG_ng n
  F_pos = mul-pos (mul-pos {m = 716} (omega arith) (has-gas n gas)) (f.some_methane gas)

  ratio_is : is_measured s ≡ true → exhaust_present n ≡ true → F_CH4_EG m n ⊘ F_CH4_RG n ≡ whole (five_LKf n * P) ⊘ whole (F_RG_ng n * (2 * D n * Q))
  ratio_is measured present =
      let o = f.oxygen in
      let k = (measurable f gas measured present).weight in
      rw (fed_is n) (part (F_CH4_EG m n) (five_LKf n * P) (2 * D n * Q) (F_RG_ng n) (omega arith) F_pos
      (short_whole m n (pos n (f.some_methane gas)) (D n) (omega arith) (omega arith) (K n.gas) (omega arith)
      ∙ by_factor (five_LKf n) (2 * D n) (omega arith)))

  measured_loses : is_measured s ≡ true → exhaust_present n ≡ true → Loses n (Measured (low_tenth (class_of s))) (measured s n m)
  unfolding η_calc
  measured_loses is present =
      let o = f.oxygen in
      let F : ℕ = F_RG_ng n in
      let t : ℕ = low_tenth (class_of s) in
      let p : ℕ = 5 * (five_LKf n * P) + Q * (D n * (t * F)) in
      let q : ℕ = 10 * (Q * D n) in
      let hq : 0 < q = omega arith in
      let hF : 0 < F = F_pos in (
        hq,
        omega arith,
        ap at_least_zero
            (lowered_is (class_of s) (η_calc m n)
            ∙ rw (ratio_is is present, ⊖-⊖, lost_sum (five_LKf n * P) (D n) F t Q (omega arith) hF (omega arith)))
            ∙ capped p (F * q) (mul-pos hF hq),
      )

  -- what the code takes for lost by a rule leaves the efficiency applied
  abbrev LeavesIts : Rule → Type 0
  LeavesIts r = Loses n r.loss (r.efficiency m)

  lost_all : Loses n all_lost (whole 0)
  lost_all = by_share (F_RG_ng n) 1000000 0 F_pos refl (whole 0) none_is

  half_loses : Loses n (Share 500000) (half m)
  half_loses = by_share (F_RG_ng n) 500000 500000 F_pos refl _ half_is

  default_loses : Loses n (Share (100000 + 100000 * low_tenth (class_of s))) (by_default s m)
  default_loses =
      let l = low_within (class_of s) in
      by_share (F_RG_ng n) (100000 + 100000 * low_tenth (class_of s)) (900000 - 100000 * low_tenth (class_of s)) F_pos (omega arith) _ (default_is (class_of s))

  pub rule_fits : (in_time : Bool) → LeavesIts (the_rule s n in_time)
  unfolding the_rule rule_lines
  rule_fits in_time =
      by_rows LeavesIts (rule_lines s n in_time) (last_rule s n) (
      (λ e. lost_all) ∣
      (λ e. lost_all) ∣
      (λ e. half_loses) ∣
      (λ e. lost_all) ∣
      (λ e. lost_all) ∣
      (λ e. lost_all) ∣
      (λ e. default_loses) ∣
      (λ e. lost_all) ∣
      (λ e. lost_all) ∣
      end
      )
      (λ none. measured_loses (f.method none.1.1.1.1.1.1.0) (not-false (exhaust_present n) none.1.1.1.1.1.1.1.1.0))

-- every rule's efficiency is applied as the tool gives it
pub applied-exactly : (m : Masses) (s : Site) (n : Minute) (in_time : Bool) → applied m s n in_time ≡ η m s n in_time
unfolding the_rule rule_lines
applied-exactly m s n in_time =
    by_rows (λ r. r.efficiency m ≡ r.exactly m) (rule_lines s n in_time) (last_rule s n) (
    (λ e. refl) ∣
    (λ e. refl) ∣
    (λ e. refl) ∣
    (λ e. refl) ∣
    (λ e. refl) ∣
    (λ e. refl) ∣
    (λ e. refl) ∣
    (λ e. refl) ∣
    (λ e. refl) ∣
    end
    )
    (λ none. refl)
