-- Numbers at a place of a list: what stands there is what stands first in its tail, and so for what is put there.
use Prim.Native.Nat.{ℕ, zero, suc, ◌+◌, ◌-◌, ◌≤◌, min}
use mathlib.Core.Path.{◌≡◌, refl, sym, ap, ap₂, ◌∙◌}
use mathlib.Core.List.{List, [], ◌∷◌, ◌++◌}
use native.Mathlib.Omega.{arith}
use native.Mathlib.Nat.{add-zero}
use lib.ListN.{length, take, drop, replicate, set}
use lib.Seq.{set_out}
use Rattle.std.proofs.lemmas.List.{get_or-drop, set-append_right, take_min, take_all, drop_all, append-nil, drop_min, length-drop}
use borrow.Rule.Slice.PartMut.{put_mid}
use Rattle.exact.specs.Bytes.{cells, spelled, number_at, put}

-- the cells of a tail
cells_of_tail : (n : ℕ) (b : List ℕ) (k j : ℕ) → cells n b (k + j) ≡ cells n (drop k b) j
cells_of_tail zero b k j = refl
cells_of_tail (suc n) b k j =
    let next : k + j + 1 ≡ k + (j + 1) = omega arith in
    ap₂ ◌∷◌ (sym (get_or-drop k b j 0)) (ap (cells n b) next ∙ cells_of_tail n b k (j + 1))

pub number_of_tail : (n : ℕ) (b : List ℕ) (k : ℕ) → number_at n b k ≡ number_at n (drop k b) 0
number_of_tail n b k = ap spelled (rw add-zero at (cells_of_tail n b k 0))

-- what is put into a tail is put behind the front
pub put_behind : (front tail : List ℕ) (j : ℕ) (xs : List ℕ) → put (front ++ tail) (length front + j) xs ≡ front ++ put tail j xs
unfolding put
put_behind front tail j [] = refl
put_behind front tail j (x ∷ xs) =
    let next : length front + j + 1 ≡ length front + (j + 1) = omega arith in
    let here : length front + j - length front ≡ j = omega arith in
    ap (λ (b : List ℕ). put b (length front + j + 1) xs) (set-append_right front tail (length front) (length front + j) x refl (omega arith))
    ∙ (λ i. put (front ++ set tail (here i) x) (next i) xs)
    ∙ put_behind front (set tail j x) (j + 1) xs

-- nothing is put past the end
pub put_out : (b : List ℕ) (k : ℕ) (xs : List ℕ) → length b ≤ k → put b k xs ≡ b
unfolding put
put_out b k [] h = refl
put_out b k (x ∷ xs) h = rw (set_out b k x h) (put_out b (k + 1) xs (omega arith))

-- what is put first
pub put_at_first : (x y : ℕ) (b xs : List ℕ) → put (y ∷ b) 0 (x ∷ xs) ≡ x ∷ put b 0 xs
unfolding put
put_at_first x y b xs = put_behind (x ∷ []) b 0 xs

-- the first cells are b put into as many that hold 0
pub put_into_zeros : (n : ℕ) (b : List ℕ) → put (replicate n 0) 0 b ≡ cells n b 0
unfolding put
put_into_zeros zero b = put_out [] 0 b (omega arith)
put_into_zeros (suc n) [] = ap (λ (l : List ℕ). 0 ∷ l) (put_into_zeros n [] ∙ sym (cells_of_tail n [] 1 0))
put_into_zeros (suc n) (x ∷ b) =
    put_at_first x 0 (replicate n 0) b ∙ ap (λ (l : List ℕ). x ∷ l) (put_into_zeros n b ∙ sym (cells_of_tail n (x ∷ b) 1 0))

-- what is put into a tail is put into the whole
put_in_tail : (k : ℕ) (b xs : List ℕ) → take k b ++ put (drop k b) 0 xs ≡ put b k xs
put_in_tail zero b xs = refl
put_in_tail (suc k) [] xs = put_out [] 0 xs (omega arith) ∙ sym (put_out [] (suc k) xs (omega arith))
put_in_tail (suc k) (y ∷ b) xs =
    let next : length (y ∷ []) + k ≡ suc k = omega arith in
    ap (λ (l : List ℕ). y ∷ l) (put_in_tail k b xs) ∙ sym (put_behind (y ∷ []) b k xs) ∙ ap (λ (j : ℕ). put (y ∷ b) j xs) next

-- the code goes from place k on, or from the end if that is before
module _ (b : List ℕ) (k m : ℕ) (e : m ≡ min k (length b)) where
  pub rest : take (length b - m) (drop m b) ≡ drop k b
  rest = take_all (length b - m) (drop m b) (omega (arith, length-drop m b)) ∙ ap (λ (j : ℕ). drop j b) e ∙ drop_min k b

  pub put_in_rest : (xs : List ℕ) → put_mid m (length b - m) b (put (take (length b - m) (drop m b)) 0 xs) ≡ put b k xs
  put_in_rest xs =
      let none : drop (length b - m) (drop m b) ≡ [] = drop_all (length b - m) (drop m b) (omega (arith, length-drop m b)) in
      let front : take m b ≡ take k b = ap (λ (j : ℕ). take j b) e ∙ take_min k b in
      rw (none, rest, front) (ap (λ (l : List ℕ). take k b ++ l) (append-nil _) ∙ put_in_tail k b xs)

-- as much of xs as there is room for, and what it leaves of b
front_put : (b xs : List ℕ) → take (length b) xs ++ drop (length xs) b ≡ put b 0 xs
unfolding put
front_put [] xs = drop_all (length xs) [] (omega arith) ∙ sym (put_out [] 0 xs (omega arith))
front_put (y ∷ b) [] = refl
front_put (y ∷ b) (x ∷ xs) = ap (λ (l : List ℕ). x ∷ l) (front_put b xs) ∙ sym (put_at_first x y b xs)

pub front_copied : (b xs : List ℕ) (n : ℕ) → n ≡ min (length b) (length xs) → take n xs ++ drop n b ≡ put b 0 xs
front_copied b xs n e =
    let f : n ≡ min (length xs) (length b) = omega arith in
    ap₂ ◌++◌ (ap (λ (j : ℕ). take j xs) e ∙ take_min (length b) xs) (ap (λ (j : ℕ). drop j b) f ∙ drop_min (length xs) b)
    ∙ front_put b xs

-- all of xs, where there is room, and what it leaves of b
pub whole_put : (b xs : List ℕ) (n : ℕ) → length xs ≡ n → n ≤ length b → xs ++ drop n b ≡ put b 0 xs
whole_put b xs n e h =
    let whole : take (length b) xs ≡ xs = take_all (length b) xs (omega arith) in
    rw (← e) (rw whole at (front_put b xs))

-- the first cells of b where it has as many
pub first_cells : (n : ℕ) (b : List ℕ) → n ≤ length b → take n b ≡ cells n b 0
first_cells zero b h = refl
first_cells (suc n) [] h = absurd (omega arith)
first_cells (suc n) (x ∷ b) h = ap (λ (l : List ℕ). x ∷ l) (first_cells n b (omega arith) ∙ sym (cells_of_tail n (x ∷ b) 1 0))
