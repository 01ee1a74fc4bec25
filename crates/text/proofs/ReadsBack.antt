-- A number reads back from its digits.
use Prim.Native.Nat.{ℕ, zero, suc, ◌+◌, ◌-◌, ◌*◌, ◌/◌, ◌%◌, ◌^◌, ◌<◌}
use mathlib.Core.Path.{◌≡◌, refl, ◌∙◌}
use mathlib.Core.List.{List, [], ◌∷◌, ◌++◌}
use native.Mathlib.Nat.{pow-suc}
use native.Mathlib.Omega.{arith}
use Rattle.text.specs.Promises.{value_after, value, DecimalsReadBack}
use Rattle.text.specs.Text.{digit, digits, decimal}
use Rattle.text.proofs.Decimals.{by_digits}

after_last : (a : ℕ) (ds : List ℕ) (d : ℕ) → value_after a (ds ++ (d ∷ [])) ≡ value_after a ds * 10 + (d - 48)
after_last a [] d = refl
after_last a (x ∷ ds) d = after_last (a * 10 + (x - 48)) ds d

value-digits : (k n : ℕ) → n < 10 ^ k → value (digits k n) ≡ n
unfolding digits
value-digits zero n h = omega arith
value-digits (suc k) n h =
    by_digits
    (λ l. value l ≡ n)
    k
    n
    (λ g. omega arith)
    (λ g.
    let less = value-digits k (n / 10) (omega (arith, pow-suc 10 k)) in
    after_last 0 (digits k (n / 10)) (digit (n % 10)) ∙ omega (arith, less))

pub reads_back : DecimalsReadBack
unfolding decimal
reads_back n h = value-digits 20 n (omega arith)
