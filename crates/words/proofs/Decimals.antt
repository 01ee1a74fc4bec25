-- The number that a word spells, one byte at a time.
use Rattle.std.specs.Prelude.{Option, Some, None}
use Prim.Native.Nat.{ℕ, ◌+◌, ◌-◌, ◌*◌, ◌≤◌, ◌<◌}
use mathlib.Core.Path.{◌≡◌, refl}
use mathlib.Core.Bool.{Bool, true, false, cond}
use mathlib.Core.List.{List, [], ◌∷◌}
use native.Mathlib.Omega.{arith}
use lib.ListN.{length, get_or, drop}
use lib.Dec.{eqb}
use borrow.Author.Tests.{le-leb, lt-leb, eqb-true}
use Rattle.words.specs.Numbers.{is_digit, spelled_on, number_in}
use Rattle.words.proofs.Walking.{here, over}

either_way : {A : Type 0} (b : Bool) {x y w : A} → x ≡ w → y ≡ w → cond b x y ≡ w
either_way true e f = e
either_way false e f = f

-- what is too much stays too much
pub spelled_much : (most a : ℕ) (cs : List ℕ) → most < a → spelled_on most a cs ≡ None
unfolding spelled_on
spelled_much most a [] h = rw (lt-leb a most h)
spelled_much most a (c ∷ cs) h = either_way (is_digit c) (spelled_much most (a * 10 + (c - 48)) cs (omega arith)) refl

-- the number that a byte spells, if it is a digit
abbrev units : ℕ → Option ℕ
units c = cond (is_digit c) (Some (c - 48)) None

module _ (t : List ℕ) (i most a : ℕ) where
  pub spelled_more : i < length t → {u : ℕ} → units (get_or t i 0) ≡ Some u
      → spelled_on most (a * 10 + u) (drop (i + 1) t) ≡ spelled_on most a (drop i t)
  unfolding spelled_on
  spelled_more h {u} e = rw (here t i h) (either (is_digit (get_or t i 0)) e)
    where
      either : (b : Bool) → cond b (Some (get_or t i 0 - 48)) None ≡ Some u
          → spelled_on most (a * 10 + u) (drop (i + 1) t) ≡ cond b (spelled_on most (a * 10 + (get_or t i 0 - 48)) (drop (i + 1) t)) None
      either true f = let same : get_or t i 0 - 48 ≡ u = cc in rw same
      either false f = cc

  pub spelled_not : i < length t → units (get_or t i 0) ≡ None → spelled_on most a (drop i t) ≡ None
  unfolding spelled_on
  spelled_not h e = rw (here t i h) (either _ (is_digit (get_or t i 0)) e)
    where
      either : (s : Option ℕ) (b : Bool) → cond b (Some (get_or t i 0 - 48)) None ≡ None → cond b s None ≡ None
      either s true f = cc
      either s false f = refl

  pub spelled_end : length t ≤ i → a ≤ most → spelled_on most a (drop i t) ≡ Some a
  unfolding spelled_on
  spelled_end h g = rw (over t i h, le-leb a most g)

module _ (most : ℕ) where
  pub of_none : (t : List ℕ) → eqb (length t) 0 ≡ true → None ≡ number_in most t
  unfolding number_in
  of_none [] e = refl
  of_none (c ∷ t) e = absurd (omega (arith, eqb-true (length (c ∷ t)) 0 e))

  pub of_some : (t : List ℕ) → eqb (length t) 0 ≡ false → spelled_on most 0 t ≡ number_in most t
  unfolding number_in
  of_some [] e = cc
  of_some (c ∷ t) e = refl
