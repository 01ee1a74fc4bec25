-- How large the numbers of the code become, and that none overflows.
use Prim.Native.Nat.{ℕ, ◌+◌, ◌*◌, ◌/◌, ◌%◌, ◌≤◌}
use native.Mathlib.Omega.{arith}
use Rattle.exact.specs.Rounding.{ceil_div}
use Rattle.exact.specs.RoundingLaws.{ceil_le}
use Rattle.exact.proofs.Rounding.{mul-within}
use Rattle.minute.specs.declared.Minute.{Minute}
use Rattle.tool06.specs.scaffold.Nanograms.{P, Q, Measurable}
use Rattle.tool06.specs.Short.{K, five_LKf}

pub LK_within : (n : Minute) → Measurable n → 5 * n.litres * K n.gas ≤ 358000000000000
LK_within n a =
    let f = a.flow in
    let h : 5 * n.litres * K n.gas ≤ 500000 * 716000000 = mul-within (5 * n.litres) (K n.gas) 500000 716000000 (omega arith) a.weight_within in
    omega arith

pub LKf_within : (n : Minute) → Measurable n → five_LKf n ≤ 17900000000000000000
LKf_within n a =
    let h : five_LKf n ≤ 358000000000000 * 50000 = mul-within (5 * n.litres * K n.gas) n.exhaust.methane 358000000000000 50000 (LK_within n a) a.methane in
    omega arith

-- what the last digit of F adds
pub digit : (t F : ℕ) → t ≤ 1 → t * (F % 10) ≤ 9
digit t F h =
    let k : t * (F % 10) ≤ 1 * 9 = mul-within t (F % 10) 1 9 h (omega arith) in
    omega arith

pub digit-over : (air t F : ℕ) → air ≤ 210000 → t ≤ 1 → air * (t * (F % 10)) ≤ 1890000
digit-over air t F ha ht =
    let k : air * (t * (F % 10)) ≤ 210000 * 9 = mul-within air (t * (F % 10)) 210000 9 ha (digit t F ht) in
    omega arith

pub tens_within : (t F : ℕ) → t ≤ 1 → F ≤ 71600000000000 → t * (F / 10) ≤ 71600000000000
tens_within t F ht hF =
    let k : t * (F / 10) ≤ 1 * 7160000000000 = mul-within t (F / 10) 1 7160000000000 ht (omega arith) in
    omega arith

-- what is left of x, by the factor and with the digit: not more than x % Q and the digit
pub rest-within : (x e : ℕ) → ceil_div (5 * (x % Q) * P + Q * e) (5 * Q) ≤ x % Q + e
rest-within x e = (ceil_le (5 * (x % Q) * P + Q * e) (5 * Q) (x % Q + e) (omega arith)).1 (omega arith)

pub share_within : (F l : ℕ) → F ≤ 71600000000000 → l ≤ 1000000 → (F / 1000000 * l ≤ 71600000000000) × (F % 1000000 * l ≤ 1000000000000)
share_within F l hF hl =
    let a : F / 1000000 * l ≤ 71600000 * 1000000 = mul-within (F / 1000000) l 71600000 1000000 (omega arith) hl in
    let b : F % 1000000 * l ≤ 1000000 * 1000000 = mul-within (F % 1000000) l 1000000 1000000 (omega arith) hl in
    (omega arith, omega arith)
