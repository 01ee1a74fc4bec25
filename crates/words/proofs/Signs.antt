-- A number with its sign.
use Rattle.std.specs.Prelude.{Some, None}
use Prim.Native.Nat.{ℕ, ◌-◌, ◌%◌, ◌≤◌}
use mathlib.Core.Path.{◌≡◌, refl}
use mathlib.Core.List.{List, [], ◌∷◌}
use native.Mathlib.Omega.{arith}
use lib.ListN.{length}
use borrow.Author.Tests.{le-leb, lt-leb, eq-eqb, ne_eqb}
use Rattle.words.specs.Numbers.{number_in, negative, signed_of}

pub no_number : (t : List ℕ) → length t ≡ 0 → None ≡ signed_of t
unfolding signed_of
no_number [] h = refl
no_number (c ∷ t) h = absurd (omega arith)

module _ (t : List ℕ) (sign : ℕ) (digits : List ℕ) (whole : t ≡ sign ∷ digits) where
  pub without_sign : (sign ≡ 45 → ⊥) → number_in 32767 t ≡ signed_of t
  unfolding signed_of
  without_sign h = rw (whole, ne_eqb sign 45 h)

  with_sign : sign ≡ 45 → negative (number_in 32768 digits) ≡ signed_of t
  unfolding signed_of
  with_sign h = rw (whole, eq-eqb sign 45 h)

  pub none_below : sign ≡ 45 → number_in 32768 digits ≡ None → None ≡ signed_of t
  unfolding negative
  none_below h e = rw (← with_sign h, e)

  pub below : sign ≡ 45 → {n : ℕ} → number_in 32768 digits ≡ Some n → n ≤ 65536 → Some ((65536 - n) % 65536) ≡ signed_of t
  unfolding negative
  below h {n} e few = rw (← with_sign h, e, le-leb n 65536 few)

  pub too_low : sign ≡ 45 → {n : ℕ} → number_in 32768 digits ≡ Some n → (n ≤ 65536 → ⊥) → None ≡ signed_of t
  unfolding negative
  too_low h {n} e many = rw (← with_sign h, e, lt-leb n 65536 (omega arith))
