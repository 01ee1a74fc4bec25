-- R74: what decimals promise: a number reads back from its digits, so that no two numbers print alike.
use Rattle.std.specs.Prelude.{ℕ, ◌+◌, ◌-◌, ◌*◌, ◌^◌, ◌<◌, ◌≡◌, List, [], ◌∷◌}
use Rattle.text.specs.Text.{decimal}

-- R74: the number that digits spell after those that spell a
abbrev pub value_after : ℕ → List ℕ → ℕ
value_after a [] = a
value_after a (d ∷ ds) = value_after (a * 10 + (d - 48)) ds

-- R74: the number that digits spell
abbrev pub value : List ℕ → ℕ
value ds = value_after 0 ds

-- R74: the digits of every number below 2^64 spell that number
abbrev pub DecimalsReadBack : Type 0
DecimalsReadBack = (n : ℕ) → n < 2 ^ 64 → value (decimal n) ≡ n
