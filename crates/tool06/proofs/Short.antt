-- Document 01's short form of the exhaust methane, from the tool's equations.
use mathlib.Core.Path.{◌≡◌, refl, sym, ap, ◌∙◌}
use mathlib.Core.Quot.{sound}
use Prim.Native.Nat.{ℕ, ◌+◌, ◌*◌, ◌≤◌, ◌<◌}
use native.Mathlib.Omega.{arith}
use Rattle.exact.specs.PartsLaws.{times}
use Rattle.exact.specs.Fractions.{Frac, ◌⊕◌, ◌⊖◌, ◌⊗◌, ◌⊘◌, neg, inv, whole, ◌≺◌}
use Rattle.exact.proofs.Fractions.{⊕-comm, ⊗-one, ⊗-⊕, ⊕-⊗, ⊗-⊖, ⊖-⊗, ⊕-⊖, one-⊗, whole-⊕, whole-⊗, mul-ac, add-ac}
use Rattle.exact.proofs.Order.{Sign, sign_of, inv-pos, inv_positive, ⊗-pos, whole_pos}
use Rattle.exact.proofs.Ratios.{⊘-unique, inv-⊗, ratio-≡, ratio-⊗, ratio-⊘, ratio_plus_one, one_minus, minus-≡, minus-whole}
use Rattle.minute.specs.declared.gas.Gas.{Gas}
use Rattle.minute.specs.declared.Minute.{Minute}
use Rattle.tool06.specs.Tool.{Each, Masses, PositiveIn, NA_C, NA_H, NA_O, NA_N, v, Σ_v, AM×NA, v_O2_air, MF, MF_C, MF_H, MF_O, MF_N, F_O2_RG, v_O2_EG, n_O2_EG, Q_CO2_EG, Q_N2_EG, Q_O2_EG, Q_EG, V_RG, ρ_RG, M_RG, V_EG, F_CH4_EG}
use Rattle.tool06.specs.Short.{K_plus, K_minus, S_plus, S_minus}

-- the atoms of an element in a million molecules
abbrev count : Gas → Each ℕ → ℕ
count g n =
    g.ch4 * n.CH4 + g.co * n.CO + g.co2 * n.CO2 + g.o2 * n.O2 + g.h2 * n.H2 + g.h2s * n.H2S + g.nh3 * n.NH3 + g.n2 * n.N2

gather : (a b : ℕ) (t : Frac) → whole a ⊗ t ⊕ whole b ⊗ t ≡ whole (a + b) ⊗ t
gather a b t = rw (← whole-⊕ a b, ⊕-⊗)

term : (p k : ℕ) (AM : Frac) → v p ⊗ (AM ⊗ whole k) ≡ whole (p * k) ⊗ (AM ⊗ inv (whole 1000000))
unfolding v ◌⊘◌
term p k AM = rw (← whole-⊗ p k) (simp mul-ac)

atoms : (g : Gas) (AM : Frac) (NA : Each ℕ) → Σ_v g (AM×NA AM NA) ≡ whole (count g NA) ⊗ (AM ⊗ inv (whole 1000000))
unfolding Σ_v
atoms g AM NA = simp (term, gather)

inv_split : (m k n : ℕ) → 0 < k → 0 < n → n ≡ m * k → inv (whole k) ≡ whole m ⊗ inv (whole n)
unfolding ◌⊘◌
inv_split m k n hk hn e = sym (one-⊗ (inv (whole k))) ∙ ratio-≡ 1 k m n hk hn (omega arith)

-- the common unit of the equations: one atom in a million molecules, per kg, over 84
abbrev unit : Frac → Frac
unit MM = inv (whole 1000000) ⊗ (inv MM ⊗ inv (whole 84))

-- MF / (k AM), where 84 is j k
module _ (m : Masses) (n : Minute) (AM : Frac) (NA : Each ℕ) (pos : whole 0 ≺ AM) where
  MF-over : (k j : ℕ) → 0 < k → 84 ≡ j * k → MF m n AM NA ⊘ (whole k ⊗ AM) ≡ whole (j * count n.gas NA) ⊗ unit (m.MM_RG n)
  unfolding ◌⊘◌ MF
  MF-over k j hk e =
      ⊘-unique (MF m n AM NA) (whole k ⊗ AM) (whole (j * count n.gas NA) ⊗ unit (m.MM_RG n)) (⊗-pos (whole k) AM (whole_pos k hk) pos)
      (rw (atoms n.gas AM NA, ← whole-⊗ j (count n.gas NA))
      (let a : whole j ⊗ whole (count n.gas NA) ⊗ unit (m.MM_RG n) ⊗ (whole k ⊗ AM) ≡ whole k ⊗ (whole j ⊗ inv (whole 84)) ⊗ (whole (count n.gas NA) ⊗ (AM ⊗ inv (whole 1000000)) ⊗ inv (m.MM_RG n)) = simp mul-ac in
      a ∙ rw (← inv_split j k 84 hk (omega arith) e, inv_positive (whole k) (whole_pos k hk), one-⊗)))

  MF-over_one : MF m n AM NA ⊘ AM ≡ whole (84 * count n.gas NA) ⊗ unit (m.MM_RG n)
  MF-over_one = ap (λ (z : Frac). MF m n AM NA ⊘ z) (sym (one-⊗ AM)) ∙ MF-over 1 84 (omega arith) refl

-- equations (8) to (12), as algebra
combine : (c N F R W t : Frac) → c ⊗ W ⊕ t ⊗ (c ⊕ N ⊕ R ⊗ F) ⊗ W ⊕ W ⊗ (N ⊕ R ⊗ (F ⊕ t ⊗ (c ⊕ N ⊕ R ⊗ F))) ≡ W ⊗ (c ⊕ N ⊕ R ⊗ F) ⊗ (whole 1 ⊕ (whole 1 ⊕ R) ⊗ t)
combine c N F R W t = simp (mul-ac, add-ac, ⊕-⊗, ⊗-⊕, ⊗-one, one-⊗)

-- air's other gas per oxygen
rest_is : (whole 1 ⊖ v_O2_air) ⊘ v_O2_air ≡ whole 79 ⊘ whole 21
unfolding v_O2_air ◌⊖◌ ◌⊘◌ ◌⊗◌ ◌⊕◌ neg inv whole
rest_is = sound refl

excess_is : (a D : ℕ) → 0 < D → D + a ≡ 210000 → v a ⊘ (whole 1 ⊖ v a ⊘ v_O2_air) ≡ whole (21 * a) ⊘ whole (100 * D)
unfolding v v_O2_air
excess_is a D h e =
    rw (ratio-⊘ a 1000000 21 100 (omega arith) (omega arith) (omega arith), ratio-≡ (a * 100) (1000000 * 21) a 210000 (omega arith) (omega arith) (omega arith), one_minus a D 210000 (omega arith) e, ratio-⊘ a 1000000 D 210000 (omega arith) h (omega arith))
    (ratio-≡ (a * 210000) (1000000 * D) (21 * a) (100 * D) (omega arith) (omega arith) (omega arith))

one_plus_rest : whole 1 ⊕ whole 79 ⊘ whole 21 ≡ whole 100 ⊘ whole 21
unfolding ◌⊘◌ ◌⊗◌ ◌⊕◌ inv whole
one_plus_rest = sound refl

air_is : (a D : ℕ) → 0 < D → D + a ≡ 210000 → whole 1 ⊕ (whole 1 ⊕ whole 79 ⊘ whole 21) ⊗ (whole (21 * a) ⊘ whole (100 * D)) ≡ whole 210000 ⊘ whole D
air_is a D h e =
    rw (one_plus_rest, ratio-⊗ 100 21 (21 * a) (100 * D) (omega arith) (omega arith), ⊕-comm (whole 1) (whole (100 * (21 * a)) ⊘ whole (21 * (100 * D))), ratio_plus_one (100 * (21 * a)) (21 * (100 * D)) (omega arith))
    (ratio-≡ (100 * (21 * a) + 21 * (100 * D)) (21 * (100 * D)) 210000 D (omega arith) h (omega (arith, times D e)))

seventy_nine : (n : ℕ) (t : Frac) → whole 79 ⊘ whole 21 ⊗ (whole (21 * n) ⊗ t) ≡ whole (79 * n) ⊗ t
unfolding ◌⊘◌
seventy_nine n t =
    rw (← whole-⊗ 21 n, ← whole-⊗ 79 n)
    (let a : whole 79 ⊗ inv (whole 21) ⊗ (whole 21 ⊗ whole n ⊗ t) ≡ whole 21 ⊗ inv (whole 21) ⊗ (whole 79 ⊗ whole n ⊗ t) = simp mul-ac in
    a ∙ rw (inv_positive (whole 21) (whole_pos 21 (omega arith)), one-⊗))

-- 10^12 nanograms to a kg, and every other constant of the equations
constants : whole 210000 ⊗ (inv (whole 1000) ⊗ (inv (whole 1000000) ⊗ (inv (whole 84) ⊗ (inv (whole 1000000) ⊗ whole 1000000000000)))) ≡ whole 5 ⊗ inv (whole 2)
unfolding ◌⊗◌ inv whole
constants = sound refl

regroup : (X iX M iM k i6 i84 w iD L i3 f one j6 big : Frac) → X ⊗ (k ⊗ (i6 ⊗ (iM ⊗ i84))) ⊗ (w ⊗ iD) ⊗ (M ⊗ iX ⊗ (L ⊗ i3)) ⊗ f ⊗ (one ⊗ j6) ⊗ big ≡ (X ⊗ iX) ⊗ ((M ⊗ iM) ⊗ (one ⊗ (w ⊗ (i3 ⊗ (i6 ⊗ (i84 ⊗ (j6 ⊗ big)))) ⊗ (L ⊗ k ⊗ f ⊗ iD))))
regroup X iX M iM k i6 i84 w iD L i3 f one j6 big = simp mul-ac

-- F over the unit, 21 times: 4 C + H - 2 O
abbrev F_plus : Gas → ℕ
F_plus g = 4 * count g NA_C + count g NA_H

abbrev F_minus : Gas → ℕ
F_minus g = 2 * count g NA_O

module _ (m : Masses) (n : Minute) (pos : PositiveIn m n) where
  C_is : MF_C m n ⊘ m.AM_C ≡ whole (84 * count n.gas NA_C) ⊗ unit (m.MM_RG n)
  unfolding MF_C
  C_is = MF-over_one m n m.AM_C NA_C pos.C_positive

  N_is : MF_N m n ⊘ (whole 2 ⊗ m.AM_N) ≡ whole (42 * count n.gas NA_N) ⊗ unit (m.MM_RG n)
  unfolding MF_N
  N_is = MF-over m n m.AM_N NA_N pos.N_positive 2 42 (omega arith) refl

  H_is : MF_H m n ⊘ (whole 4 ⊗ m.AM_H) ≡ whole (21 * count n.gas NA_H) ⊗ unit (m.MM_RG n)
  unfolding MF_H
  H_is = MF-over m n m.AM_H NA_H pos.H_positive 4 21 (omega arith) refl

  O_is : MF_O m n ⊘ (whole 2 ⊗ m.AM_O) ≡ whole (42 * count n.gas NA_O) ⊗ unit (m.MM_RG n)
  unfolding MF_O
  O_is = MF-over m n m.AM_O NA_O pos.O_positive 2 42 (omega arith) refl

  F_is : F_O2_RG m n ≡ whole (21 * F_plus n.gas) ⊗ unit (m.MM_RG n) ⊖ whole (21 * F_minus n.gas) ⊗ unit (m.MM_RG n)
  unfolding F_O2_RG
  F_is =
      let e1 : 84 * count n.gas NA_C + 21 * count n.gas NA_H ≡ 21 * F_plus n.gas = omega arith in
      let e2 : 42 * count n.gas NA_O ≡ 21 * F_minus n.gas = omega arith in
      rw (C_is, H_is, O_is, gather, e1, e2)

  -- the bracket of equation (12)
  bracket : Frac
  bracket = MF_C m n ⊘ m.AM_C ⊕ MF_N m n ⊘ (whole 2 ⊗ m.AM_N) ⊕ whole 79 ⊘ whole 21 ⊗ F_O2_RG m n

  bracket_is : bracket ≡ (whole (K_plus n.gas) ⊖ whole (K_minus n.gas)) ⊗ unit (m.MM_RG n)
  unfolding bracket
  bracket_is = rw (C_is, N_is, F_is, ⊗-⊖, seventy_nine, seventy_nine (F_minus n.gas), gather, ⊕-⊖, gather, ← ⊖-⊗)
      (ap (λ (z : Frac). z ⊗ unit (m.MM_RG n)) (minus-≡ _ _ (K_plus n.gas) (K_minus n.gas) (omega arith)))

  module _ (D : ℕ) (hD : 0 < D) (e : D + n.exhaust.oxygen ≡ 210000) where
    Q_is : Q_EG m n ≡ m.VM_ref ⊗ bracket ⊗ (whole 210000 ⊘ whole D)
    unfolding Q_EG Q_CO2_EG Q_O2_EG Q_N2_EG n_O2_EG v_O2_EG bracket
    Q_is = rw (rest_is, excess_is n.exhaust.oxygen D hD e) (combine _ _ _ _ _ _ ∙ rw (air_is n.exhaust.oxygen D hD e))

    -- in nanograms, whatever the sign of K
    pub short_signed : F_CH4_EG m n ⊗ whole 1000000000000 ≡ whole 5 ⊗ whole n.litres ⊗ (whole (K_plus n.gas) ⊖ whole (K_minus n.gas)) ⊗ whole n.exhaust.methane ⊘ whole (2 * D)
    unfolding F_CH4_EG V_EG M_RG ρ_RG V_RG ◌⊘◌
    short_signed =
        rw (Q_is, bracket_is)
        (regroup m.VM_ref _ (m.MM_RG n) _ _ _ _ _ _ _ _ _ _ _ _
        ∙ rw (inv_positive m.VM_ref pos.VM_positive, inv_positive (m.MM_RG n) pos.MM_positive, one-⊗, one-⊗, one-⊗, constants, ← whole-⊗ 2 D, inv-⊗ (whole 2) (whole D) (whole_pos 2 (omega arith)) (whole_pos D hD))
        (simp mul-ac))

    pub short_whole : (K : ℕ) → K_plus n.gas ≡ K + K_minus n.gas → F_CH4_EG m n ⊗ whole 1000000000000 ≡ whole (5 * n.litres * K * n.exhaust.methane) ⊘ whole (2 * D)
    short_whole K k = short_signed ∙ rw (minus-whole _ _ K k, whole-⊗, whole-⊗, whole-⊗)

  unit_pos : whole 0 ≺ unit (m.MM_RG n)
  unit_pos =
      ⊗-pos _ _ (inv-pos (whole 1000000) (whole_pos 1000000 (omega arith)))
      (⊗-pos _ _ (inv-pos (m.MM_RG n) pos.MM_positive) (inv-pos (whole 84) (whole_pos 84 (omega arith))))

  -- the sign of F is that of S
  pub F_sign : Sign (S_plus n.gas) (S_minus n.gas) (F_O2_RG m n)
  F_sign =
      let g = n.gas in
      let s : Sign (21 * F_plus g) (21 * F_minus g) ((whole (21 * F_plus g) ⊖ whole (21 * F_minus g)) ⊗ unit (m.MM_RG n)) = sign_of (21 * F_plus g) (21 * F_minus g) (unit (m.MM_RG n)) unit_pos in
      rw (F_is, ← ⊖-⊗) (
        (λ h. let l = s.0.0 h in omega arith, λ h. s.0.1 (omega arith)),
        (λ h. let l = s.1.0 h in omega arith, λ h. s.1.1 (omega arith)),
      )

pub K_positive : (g : Gas) → 0 < g.ch4 → S_minus g ≤ S_plus g → K_minus g < K_plus g
K_positive g h k = omega arith
