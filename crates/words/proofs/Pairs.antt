-- Digits two and two, and their bytes, one pair at a time.
use Prim.Native.Nat.{ℕ, ◌+◌, ◌*◌, ◌%◌, ◌≤◌, ◌<◌}
use mathlib.Core.Path.{◌≡◌, refl, sym, ◌∙◌}
use mathlib.Core.Bool.{Bool, true, false, ◌&&◌}
use mathlib.Core.List.{List, [], ◌∷◌}
use native.Mathlib.Omega.{arith}
use lib.Dec.{ltb}
use lib.ListN.{length, get_or, drop}
use Rattle.std.specs.List.{list_all}
use borrow.Author.Tests.{ltb-true, ltb-false}
use Rattle.exact.proofs.Bools.{and_true}
use Rattle.words.specs.Hex.{digit_of, is_hex, in_pairs, bytes_in}
use Rattle.words.proofs.Walking.{here, two, over}

-- a pair of digits at place i, and pairs after it
pub record Pair (t : List ℕ) (i : ℕ) : Type 0 where
  pub both : i + 1 < length t
  pub high : is_hex (get_or t i 0) ≡ true
  pub low : is_hex (get_or t (i + 1) 0) ≡ true
  pub rest : in_pairs (drop (i + 2) t) ≡ true

-- an even number of digits are digits two and two, and no odd number is
pub even : (t : List ℕ) → length t % 2 ≡ 0 → in_pairs t ≡ list_all is_hex t
unfolding in_pairs
even [] h = refl
even (a ∷ []) h = absurd (omega arith)
even (a ∷ b ∷ cs) h = rw (even cs (omega arith)) (either (is_hex a) (is_hex b))
  where
    either : (x y : Bool) → (x && y && list_all is_hex cs) ≡ (x && (y && list_all is_hex cs))
    either true y = refl
    either false y = refl

pub odd : (t : List ℕ) → (length t % 2 ≡ 0 → ⊥) → false ≡ in_pairs t
unfolding in_pairs
odd [] h = absurd (h refl)
odd (a ∷ []) h = refl
odd (a ∷ b ∷ cs) h = rw (← odd cs (λ e. h (omega arith))) (neither (is_hex a && is_hex b))
  where
    neither : (x : Bool) → false ≡ (x && false)
    neither true = refl
    neither false = refl

module _ (t : List ℕ) (i : ℕ) where
  pub pairs_one : i + 1 ≡ length t → in_pairs (drop i t) ≡ false
  unfolding in_pairs
  pairs_one e = rw (here t i (omega arith), over t (i + 1) (omega arith))

  pub pairs_more : i + 1 < length t → {x y z : Bool} → x ≡ is_hex (get_or t i 0) → y ≡ is_hex (get_or t (i + 1) 0) → (x && y) ≡ z
      → in_pairs (drop i t) ≡ (z && in_pairs (drop (i + 2) t))
  unfolding in_pairs
  pairs_more h e f g = rw (two t i h, ← e, ← f, g)

  pub pairs_end : length t ≤ i → in_pairs (drop i t) ≡ true
  unfolding in_pairs
  pairs_end h = rw (over t i h)

  pub pair : i < length t → in_pairs (drop i t) ≡ true → Pair t i
  pair h e = cases (ltb (i + 1) (length t)) refl
    where
      cases : (b : Bool) → ltb (i + 1) (length t) ≡ b → Pair t i
      cases true f =
          let g = ltb-true _ _ f in
          let a = is_hex (get_or t i 0) in
          let b = is_hex (get_or t (i + 1) 0) in
          let all = and_true (a && b) (in_pairs (drop (i + 2) t)) (sym (pairs_more g refl refl refl) ∙ e) in
          let digits = and_true a b all.0 in
          record { both = g; high = digits.0; low = digits.1; rest = all.1 }
      cases false f =
          let g : in_pairs (drop i t) ≡ false = pairs_one (omega (arith, ltb-false (i + 1) (length t) f)) in
          let z : ◌≡◌ {A = ℕ} 0 1 = cc in
          absurd (omega arith)

  pub bytes-more : i + 1 < length t → bytes_in (drop i t) ≡ (digit_of (get_or t i 0) * 16 + digit_of (get_or t (i + 1) 0)) ∷ bytes_in (drop (i + 2) t)
  unfolding bytes_in
  bytes-more h = rw (two t i h)

  pub bytes_end : length t ≤ i → bytes_in (drop i t) ≡ []
  unfolding bytes_in
  bytes_end h = rw (over t i h)
