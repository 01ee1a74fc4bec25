-- R87: the tool's equation (15), the year's emissions.
use Rattle.std.specs.Prelude.{ℕ, List}
use Rattle.exact.specs.Fractions.{Frac, ◌⊖◌, ◌⊗◌, ◌⊘◌, whole}
use Rattle.sums.specs.Bounds.{exact_total}
use Rattle.tool06.specs.Bounds.{Entry}
use Rattle.tool06.specs.Figures.{η}
use Rattle.tool06.specs.Tool.{Masses, F_CH4_RG}

-- R87: F_CH4,RG,m × (1 - η_flare,m), in kg, of one minute m
abbrev pub emitted_kg : Masses → Entry → Frac
emitted_kg m e = F_CH4_RG e.minute ⊗ (whole 1 ⊖ η m e.site e.minute e.in_time)

-- R87: (15) PE_flare,y, in tonnes of CO2 equivalent: GWP_CH4 × Σ_m F_CH4,RG,m × (1 - η_flare,m) × 10^-3
unfoldable pub PE_flare : Masses → ℕ → List Entry → Frac
PE_flare m GWP es = whole GWP ⊗ exact_total (emitted_kg m) es ⊗ (whole 1 ⊘ whole 1000)
