-- Masses that are positive: what is said for any positive masses is said for these.
use native.Mathlib.Omega.{arith}
use Rattle.exact.specs.Fractions.{whole}
use Rattle.exact.proofs.Order.{whole_pos}
use Rattle.tool06.specs.Tool.{Masses, Positive}

pub ones : Masses
ones = record { AM_C = whole 1; AM_H = whole 1; AM_O = whole 1; AM_N = whole 1; MM_RG = λ n. whole 1; VM_ref = whole 1 }

pub ones_positive : Positive ones
unfolding ones
ones_positive n methane =
    let one = whole_pos 1 (omega arith) in
    record { C_positive = one; H_positive = one; O_positive = one; N_positive = one; MM_positive = one; VM_positive = one }
