use mathlib.Core.Path.{◌≡◌, refl, sym}
use mathlib.Core.Bool.{Bool, true, false, ◌||◌, not}
use native.Mathlib.Omega.{arith}
use lib.Dec.{eqb}
use borrow.Author.Tests.{le-ltb, eqb-true}
use Rattle.minute.specs.Rules.{fraction_sum, fraction_over, composition_wrong}
use Rattle.minute.specs.declared.gas.Gas.{Gas}
use Rattle.minute.proofs.gas.Gas.composition_wrong.Goals as goal

-- of fractions that add up to the whole none is over it
none_over : (g : Gas) → fraction_sum g ≡ 1000000 → fraction_over g ≡ false
none_over g whole =
    rw (
      le-ltb 1000000 g.ch4 (omega (arith, whole)),
      le-ltb 1000000 g.co (omega (arith, whole)),
      le-ltb 1000000 g.co2 (omega (arith, whole)),
      le-ltb 1000000 g.o2 (omega (arith, whole)),
      le-ltb 1000000 g.h2 (omega (arith, whole)),
      le-ltb 1000000 g.h2s (omega (arith, whole)),
      le-ltb 1000000 g.nh3 (omega (arith, whole)),
      le-ltb 1000000 g.n2 (omega (arith, whole)),
    )

-- a test that is met only where another is adds nothing to it
beside : (over whole : Bool) → (whole ≡ true → over ≡ false) → not whole ≡ (over || not whole)
beside false whole e = refl
beside true false e = refl
beside true true e = sym (e refl)

pub returns : goal.returns
unfolding composition_wrong
returns c =
    let g = c.args.self in
    rw c.total.ensures
    (beside (fraction_over g) (eqb (fraction_sum g) 1000000) (λ e. none_over g (eqb-true (fraction_sum g) 1000000 e)))
