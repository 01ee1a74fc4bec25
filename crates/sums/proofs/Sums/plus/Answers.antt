use mathlib.Core.Path.{refl}
use native.Mathlib.Omega.{arith}
use Rattle.sums.specs.Sums.{◌⊞◌}
use Rattle.sums.proofs.Sums.plus.Goals as goal

pub overflow_add-result : goal.overflow_add-result
unfolding ◌⊞◌
overflow_add-result c = let h = c.requires.minutes_fit in record { fits = omega arith }

pub overflow_add-result-2 : goal.overflow_add-result-2
unfolding ◌⊞◌
overflow_add-result-2 c = let h = c.requires.gas_fits in record { fits = omega arith }

pub overflow_add-result-3 : goal.overflow_add-result-3
unfolding ◌⊞◌
overflow_add-result-3 c =
    let h = c.requires.within.fed_within in
    let g = c.requires.gas_fits in
    record { fits = omega arith }

pub overflow_add-result-4 : goal.overflow_add-result-4
unfolding ◌⊞◌
overflow_add-result-4 c =
    let h = c.requires.within.emitted_within in
    let g = c.requires.gas_fits in
    record { fits = omega arith }

pub overflow_add-result-5 : goal.overflow_add-result-5
unfolding ◌⊞◌
overflow_add-result-5 c =
    let h = c.requires.within.destroyed_within in
    let g = c.requires.gas_fits in
    record { fits = omega arith }

pub returns : goal.returns
unfolding ◌⊞◌
returns c = refl
