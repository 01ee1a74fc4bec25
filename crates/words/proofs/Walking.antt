-- What is left of a word from a place on: a byte and what is left after it, or two, or nothing.
use Prim.Native.Nat.{ℕ, ◌+◌, ◌≤◌, ◌<◌}
use mathlib.Core.Path.{◌≡◌, ap, ◌∙◌}
use mathlib.Core.List.{List, [], ◌∷◌}
use native.Mathlib.Numerals.{add-one}
use native.Mathlib.Omega.{arith}
use lib.ListN.{length, get_or, drop, drop_of_length-le}
use lib.Seq.{drop-cons}

pub here : (t : List ℕ) (i : ℕ) → i < length t → drop i t ≡ get_or t i 0 ∷ drop (i + 1) t
here t i h = rw (add-one, drop-cons t i 0)

pub two : (t : List ℕ) (i : ℕ) → i + 1 < length t → drop i t ≡ get_or t i 0 ∷ get_or t (i + 1) 0 ∷ drop (i + 2) t
two t i h =
    let e : i + 1 + 1 ≡ i + 2 = omega arith in
    here t i (omega arith) ∙ ap (λ (l : List ℕ). get_or t i 0 ∷ l) (here t (i + 1) h ∙ ap (λ (k : ℕ). get_or t (i + 1) 0 ∷ drop k t) e)

pub over : (t : List ℕ) (i : ℕ) → length t ≤ i → drop i t ≡ []
over t i h = drop_of_length-le t h
