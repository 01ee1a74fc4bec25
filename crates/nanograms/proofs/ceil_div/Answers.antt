use native.Mathlib.Decide.{dec_le}
use Rattle.std.proofs.Common.{◌≡◌, ◌∙◌, ℕ, ◌+◌, ◌*◌, ◌/◌, ◌%◌, ◌<◌, ◌≤◌, min, arith}
use Rattle.std.proofs.Math.Nat.{mul-le-mul_right}
use Rattle.std.proofs.lemmas.Grind.{div_ceil_times}
use Rattle.exact.specs.Rounding.{ceil_div}
use Rattle.exact.specs.RoundingLaws.{ceil_unique}
use Rattle.nanograms.proofs.ceil_div.Goals as goal

-- the library's rounding up has the law of the rules'
up : (x a : ℕ) → 0 < a → x / a + min 1 (x % a) ≡ ceil_div x a
up x a h = ceil_unique x a n h (λ c. (there c, back c))
  where
    n : ℕ
    n = x / a + min 1 (x % a)

    bounds : (x ≤ n * a) × (n * a < x + a)
    bounds = div_ceil_times x a h

    there : (c : ℕ) → n ≤ c → x ≤ c * a
    there c l = let q : n * a ≤ c * a = mul-le-mul_right a l in omega (arith, bounds)

    back : (c : ℕ) → x ≤ c * a → n ≤ c
    back c l = below (dec_le n c)
      where
        below : Dec (n ≤ c) → n ≤ c
        below (yes k) = k
        below (no k) = let q : (c + 1) * a ≤ n * a = mul-le-mul_right a (omega arith) in absurd (omega (arith, bounds))

pub returns : goal.returns
returns c = c.div_ceil.ensures ∙ up c.args.x c.args.a c.requires.0
