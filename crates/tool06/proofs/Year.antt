-- Equation (15) in mg: GWP times the exact emitted sum.
use Prim.Native.Nat.{ℕ}
use mathlib.Core.Path.{◌≡◌, refl, ◌∙◌}
use mathlib.Core.Quot.{sound}
use mathlib.Core.List.{List, [], ◌∷◌}
use Rattle.exact.specs.Fractions.{Frac, ◌⊗◌, ◌⊘◌, inv, whole}
use Rattle.exact.proofs.Fractions.{⊗-comm, ⊗-zero, ⊕-⊗, mul-ac}
use Rattle.sums.specs.Bounds.{exact_total}
use Rattle.tool06.specs.Bounds.{Entry, emitted_of}
use Rattle.tool06.specs.Figures.{mg, exact_emitted}
use Rattle.tool06.specs.Tool.{Masses, F_CH4_RG}
use Rattle.tool06.specs.Year.{emitted_kg, PE_flare}

-- 10^-3 tonnes to a kg, 10^9 mg to a tonne
scales : whole 1 ⊘ whole 1000 ⊗ whole 1000000000 ≡ whole 1000000
unfolding ◌⊘◌ ◌⊗◌ inv whole
scales = sound refl

in_mg : (m : Masses) (es : List Entry) → exact_total (emitted_kg m) es ⊗ whole 1000000 ≡ exact_total (emitted_of m) es
unfolding exact_emitted mg
in_mg m [] = ⊗-comm (whole 0) (whole 1000000) ∙ ⊗-zero (whole 1000000)
in_mg m (e ∷ es) = rw (⊕-⊗, in_mg m es, ⊗-comm (F_CH4_RG e.minute))

pub PE_mg : (m : Masses) (GWP : ℕ) (es : List Entry) → PE_flare m GWP es ⊗ whole 1000000000 ≡ exact_total (emitted_of m) es ⊗ whole GWP
unfolding PE_flare
PE_mg m GWP es =
    let a : (g s k b : Frac) → g ⊗ s ⊗ k ⊗ b ≡ s ⊗ (k ⊗ b) ⊗ g = λ g s k b. simp mul-ac in
    a (whole GWP) (exact_total (emitted_kg m) es) (whole 1 ⊘ whole 1000) (whole 1000000000) ∙ rw (scales, in_mg m es)
