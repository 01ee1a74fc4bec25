-- R40 to R42: the short form, in whole numbers.
-- Of whole numbers, x - y is 0 where y is larger; K and D are used only where they are positive.
use Rattle.std.specs.Prelude.{ℕ, ◌+◌, ◌-◌, ◌*◌, Bool, ltb}
use Rattle.minute.specs.declared.gas.Gas.{Gas}
use Rattle.minute.specs.declared.Minute.{Minute}

-- R40: what is added in "K = 716 CH4 + 242 CO + 84 CO2 - 316 O2 + 158 H2 + 158 H2S + 279 NH3 + 84 N2"
abbrev pub K_plus : Gas → ℕ
K_plus g =
    716 * g.ch4 + 242 * g.co + 84 * g.co2 + 158 * g.h2 + 158 * g.h2s + 279 * g.nh3 + 84 * g.n2

-- R40: what is taken away in K
abbrev pub K_minus : Gas → ℕ
K_minus g = 316 * g.o2

-- R40: the difference
abbrev pub K : Gas → ℕ
K g = K_plus g - K_minus g

-- R42: what is added in "S = 8 CH4 + 2 CO + 2 H2 + 2 H2S + 3 NH3 - 4 O2"
abbrev pub S_plus : Gas → ℕ
S_plus g = 8 * g.ch4 + 2 * g.co + 2 * g.h2 + 2 * g.h2s + 3 * g.nh3

-- R42: what is taken away in S
abbrev pub S_minus : Gas → ℕ
S_minus g = 4 * g.o2

-- R42: more is taken away than added
abbrev pub S_negative : Gas → Bool
S_negative g = ltb (S_plus g) (S_minus g)

-- R40: "D = 210,000 - a"
abbrev pub D : Minute → ℕ
D n = 210000 - n.exhaust.oxygen

-- R41: "F_RG = 716 x L x CH4 nanograms"
abbrev pub F_RG_ng : Minute → ℕ
F_RG_ng n = 716 * n.litres * n.gas.ch4

-- R40: "5 x L x K x f", over "2 x D" to be nanograms
abbrev pub five_LKf : Minute → ℕ
five_LKf n = 5 * n.litres * K n.gas * n.exhaust.methane
