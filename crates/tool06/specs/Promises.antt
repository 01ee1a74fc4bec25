-- R31, R40 to R42: what the tool's equations come to, "to be proved, not assumed".
use Rattle.std.specs.Prelude.{◌≡◌, ◌↔◌, ◌≤◌, ◌<◌}
use Rattle.exact.specs.Fractions.{Frac, ◌⊖◌, ◌⊗◌, ◌⊘◌, whole, ◌≼◌}
use Rattle.minute.specs.declared.gas.Gas.{Gas}
use Rattle.minute.specs.declared.Minute.{Minute}
use Rattle.tool06.specs.Short.{K_plus, K_minus, S_plus, S_minus, F_RG_ng}
use Rattle.tool06.specs.Tool.{Each, Masses, PositiveIn, Positive, AllPositive, by_equation_7, F_CH4_RG, F_O2_RG, F_CH4_EG}

-- R40, R41: nanograms, from kg
abbrev pub ng : Frac → Frac
ng x = x ⊗ whole 1000000000000

-- R41: "F_RG = 716 x L x CH4 nanograms"
abbrev pub FedForm : Type 0
FedForm = (n : Minute) → ng (F_CH4_RG n) ≡ whole (F_RG_ng n)

-- R40: "F_EG = 5 x L x K x f / (2 x D) nanograms", whatever the sign of K
abbrev pub ShortForm : Type 0
ShortForm =
    (m : Masses) (n : Minute) → PositiveIn m n → n.exhaust.oxygen < 210000 →
    ng (F_CH4_EG m n)
    ≡ whole 5 ⊗ whole n.litres ⊗ (whole (K_plus n.gas) ⊖ whole (K_minus n.gas)) ⊗ whole n.exhaust.methane
    ⊘ (whole 2 ⊗ (whole 210000 ⊖ whole n.exhaust.oxygen))

-- R42: "F can be negative ..: its sign is that of S"
abbrev pub SignOfF : Type 0
SignOfF =
    (m : Masses) (n : Minute) → PositiveIn m n →
    ((whole 0 ≼ F_O2_RG m n) ↔ (S_minus n.gas ≤ S_plus n.gas))
    × ((F_O2_RG m n ≼ whole 0) ↔ (S_plus n.gas ≤ S_minus n.gas))

-- R42: S not negative and some methane give K positive
abbrev pub KPositive : Type 0
KPositive = (g : Gas) → 0 < g.ch4 → S_minus g ≤ S_plus g → K_minus g < K_plus g

-- R31: equation (7) is one of the choices: what is said for any positive masses is said with the molecular mass of each minute's own gas
abbrev pub EquationSeven : Type 0
EquationSeven = (m : Masses) → Positive m → (MM : Each Frac) → AllPositive MM → Positive (by_equation_7 m MM)
