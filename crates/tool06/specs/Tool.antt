-- R3, R29 to R39: the tool's Step 1 and Step 2, Option B.2: equations (2) to (14), one definition each, under the tool's names.
-- R2, R29: masses are in kg, volumes in m3 on a dry basis at reference conditions, and all numbers are exact fractions.
-- The tool's equations in the page's order. A definition stands after those that it uses, so that (7) and (14) come first and (2) last.
--   (1)  outside: Option B.1              (9)  Q_O2_EG
--   (2)  η_calc                           (10) Q_N2_EG
--   (3)  F_CH4_EG                         (11) Q_CO2_EG
--   (4)  V_EG                             (12) n_O2_EG
--   (5)  M_RG                             (13) F_O2_RG
--   (6)  ρ_RG                             (14) MF, and MF_C, MF_H, MF_O, MF_N
--   (7)  MM_RG_of, by_equation_7          (15) PE_flare, in Year
--   (8)  Q_EG                             (16) to (18) outside: fossil gas, auxiliary fuel
--   Step 1: F_CH4_RG
use Rattle.std.specs.Prelude.{ℕ, ◌<◌}
use Rattle.exact.specs.Fractions.{Frac, ◌⊕◌, ◌⊖◌, ◌⊗◌, ◌⊘◌, whole, ◌≺◌}
use Rattle.minute.specs.declared.gas.Gas.{Gas}
use Rattle.minute.specs.declared.Minute.{Minute}

-- R3, R33: something for each of the eight components i of the residual gas
pub record Each (A : Type 0) : Type 0 where
  pub CH4 : A
  pub CO : A
  pub CO2 : A
  pub O2 : A
  pub H2 : A
  pub H2S : A
  pub NH3 : A
  pub N2 : A

-- R30: of the tool's Table 1 the atomic masses, kg/kmol, and the molar volume, m3/kmol; and MM_RG,m, the molecular mass of the residual gas in each minute m, kg/kmol
pub record Masses : Type 0 where
  pub AM_C : Frac
  pub AM_H : Frac
  pub AM_O : Frac
  pub AM_N : Frac
  pub MM_RG : Minute → Frac
  pub VM_ref : Frac

-- R30: "MM any positive molecular mass" in the minute n, and the others too
pub record PositiveIn (m : Masses) (n : Minute) : Type 0 where
  pub C_positive : whole 0 ≺ m.AM_C
  pub H_positive : whole 0 ≺ m.AM_H
  pub O_positive : whole 0 ≺ m.AM_O
  pub N_positive : whole 0 ≺ m.AM_N
  pub MM_positive : whole 0 ≺ m.MM_RG n
  pub VM_positive : whole 0 ≺ m.VM_ref

-- R30: in every minute whose gas has methane: a minute with gas and no methane is refused, and one without gas needs no mass
abbrev pub Positive : Masses → Type 0
Positive m = (n : Minute) → 0 < n.gas.ch4 → PositiveIn m n

-- R31: something positive for each component
pub record AllPositive (x : Each Frac) : Type 0 where
  pub CH4_positive : whole 0 ≺ x.CH4
  pub CO_positive : whole 0 ≺ x.CO
  pub CO2_positive : whole 0 ≺ x.CO2
  pub O2_positive : whole 0 ≺ x.O2
  pub H2_positive : whole 0 ≺ x.H2
  pub H2S_positive : whole 0 ≺ x.H2S
  pub NH3_positive : whole 0 ≺ x.NH3
  pub N2_positive : whole 0 ≺ x.N2

-- R33: NA, the tool's "Number of atoms of element j in component i", of carbon
abbrev pub NA_C : Each ℕ
NA_C = record { CH4 = 1; CO = 1; CO2 = 1; O2 = 0; H2 = 0; H2S = 0; NH3 = 0; N2 = 0 }

-- R33: of hydrogen
abbrev pub NA_H : Each ℕ
NA_H = record { CH4 = 4; CO = 0; CO2 = 0; O2 = 0; H2 = 2; H2S = 2; NH3 = 3; N2 = 0 }

-- R33: of oxygen
abbrev pub NA_O : Each ℕ
NA_O = record { CH4 = 0; CO = 1; CO2 = 2; O2 = 2; H2 = 0; H2S = 0; NH3 = 0; N2 = 0 }

-- R33: of nitrogen
abbrev pub NA_N : Each ℕ
NA_N = record { CH4 = 0; CO = 0; CO2 = 0; O2 = 0; H2 = 0; H2S = 0; NH3 = 1; N2 = 2 }

-- R2: a volumetric fraction, from ppm
unfoldable pub v : ℕ → Frac
v ppm = whole ppm ⊘ whole 1000000

-- R31, R34: the sum over the components i of v_i times something for each i
unfoldable pub Σ_v : Gas → Each Frac → Frac
Σ_v g x =
    v g.ch4 ⊗ x.CH4
    ⊕ v g.co ⊗ x.CO
    ⊕ v g.co2 ⊗ x.CO2
    ⊕ v g.o2 ⊗ x.O2
    ⊕ v g.h2 ⊗ x.H2
    ⊕ v g.h2s ⊗ x.H2S
    ⊕ v g.nh3 ⊗ x.NH3
    ⊕ v g.n2 ⊗ x.N2

-- R34: the mass of an element's atoms in a molecule of each component
abbrev pub AM×NA : Frac → Each ℕ → Each Frac
AM×NA AM NA = record {
  CH4 = AM ⊗ whole NA.CH4;
  CO = AM ⊗ whole NA.CO;
  CO2 = AM ⊗ whole NA.CO2;
  O2 = AM ⊗ whole NA.O2;
  H2 = AM ⊗ whole NA.H2;
  H2S = AM ⊗ whole NA.H2S;
  NH3 = AM ⊗ whole NA.NH3;
  N2 = AM ⊗ whole NA.N2;
}

-- R2: V_RG, from litres
unfoldable pub V_RG : Minute → Frac
V_RG n = whole n.litres ⊘ whole 1000

-- R3, R32: of the tool's Table 1 the density of methane, 0.716 kg/m3
unfoldable pub ρ_CH4 : Frac
ρ_CH4 = whole 716 ⊘ whole 1000

-- R32: the tool's Step 1, the mass of methane fed
unfoldable pub F_CH4_RG : Minute → Frac
F_CH4_RG n = ρ_CH4 ⊗ V_RG n ⊗ v n.gas.ch4

-- R36: of the tool's Table 1 the oxygen in air, 0.21
unfoldable pub v_O2_air : Frac
v_O2_air = whole 21 ⊘ whole 100

-- R31: (7) the molecular mass, from the molecular mass MM_i of each component
unfoldable pub MM_RG_of : Each Frac → Gas → Frac
MM_RG_of MM g = Σ_v g MM

-- R31: the molecular mass in each minute by equation (7) of its own gas, with the atomic masses and the molar volume of m
abbrev pub by_equation_7 : Masses → Each Frac → Masses
by_equation_7 m MM = record {
  AM_C = m.AM_C;
  AM_H = m.AM_H;
  AM_O = m.AM_O;
  AM_N = m.AM_N;
  MM_RG = λ n. MM_RG_of MM n.gas;
  VM_ref = m.VM_ref;
}

module _ (m : Masses) (n : Minute) where
  -- R34: (14) the mass fraction of an element
  unfoldable pub MF : Frac → Each ℕ → Frac
  MF AM NA = Σ_v n.gas (AM×NA AM NA) ⊘ m.MM_RG n

  -- R34: of carbon
  unfoldable pub MF_C : Frac
  MF_C = MF m.AM_C NA_C

  -- R34: of hydrogen
  unfoldable pub MF_H : Frac
  MF_H = MF m.AM_H NA_H

  -- R34: of oxygen
  unfoldable pub MF_O : Frac
  MF_O = MF m.AM_O NA_O

  -- R34: of nitrogen
  unfoldable pub MF_N : Frac
  MF_N = MF m.AM_N NA_N

  -- R35: (13) the oxygen that burning a kg of gas takes
  unfoldable pub F_O2_RG : Frac
  F_O2_RG = MF_C ⊘ m.AM_C ⊕ MF_H ⊘ (whole 4 ⊗ m.AM_H) ⊖ MF_O ⊘ (whole 2 ⊗ m.AM_O)

  -- R11, R36: the oxygen in the exhaust; a measured zero enters like any other reading
  unfoldable pub v_O2_EG : Frac
  v_O2_EG = v n.exhaust.oxygen

  -- R36: (12) the oxygen that is left in the exhaust of a kg of gas
  unfoldable pub n_O2_EG : Frac
  n_O2_EG =
      v_O2_EG ⊘ (whole 1 ⊖ v_O2_EG ⊘ v_O2_air)
      ⊗ (MF_C ⊘ m.AM_C ⊕ MF_N ⊘ (whole 2 ⊗ m.AM_N) ⊕ (whole 1 ⊖ v_O2_air) ⊘ v_O2_air ⊗ F_O2_RG)

  -- R37: (11)
  unfoldable pub Q_CO2_EG : Frac
  Q_CO2_EG = MF_C ⊘ m.AM_C ⊗ m.VM_ref

  -- R37: (10)
  unfoldable pub Q_N2_EG : Frac
  Q_N2_EG = m.VM_ref ⊗ (MF_N ⊘ (whole 2 ⊗ m.AM_N) ⊕ (whole 1 ⊖ v_O2_air) ⊘ v_O2_air ⊗ (F_O2_RG ⊕ n_O2_EG))

  -- R37: (9)
  unfoldable pub Q_O2_EG : Frac
  Q_O2_EG = n_O2_EG ⊗ m.VM_ref

  -- R37: (8) the volume of the exhaust of a kg of gas
  unfoldable pub Q_EG : Frac
  Q_EG = Q_CO2_EG ⊕ Q_O2_EG ⊕ Q_N2_EG

  -- R38: (6) with MM / VMref in the place of the tool's P_ref / (R_u / MM × T_ref)
  unfoldable pub ρ_RG : Frac
  ρ_RG = m.MM_RG n ⊘ m.VM_ref

  -- R38: (5)
  unfoldable pub M_RG : Frac
  M_RG = ρ_RG ⊗ V_RG n

  -- R39: (4)
  unfoldable pub V_EG : Frac
  V_EG = Q_EG ⊗ M_RG

  -- R11, R39: (3) with fc_CH4 in mg/m3
  unfoldable pub F_CH4_EG : Frac
  F_CH4_EG = V_EG ⊗ whole n.exhaust.methane ⊗ (whole 1 ⊘ whole 1000000)

  -- R39: (2)
  unfoldable pub η_calc : Frac
  η_calc = whole 1 ⊖ F_CH4_EG ⊘ F_CH4_RG n
