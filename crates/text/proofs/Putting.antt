-- Text put into a buffer, piece after piece.
use Prim.Native.Nat.{ℕ, ◌+◌, ◌≤◌}
use mathlib.Core.Path.{◌≡◌, refl, sym, ap, ◌∙◌}
use mathlib.Core.List.{List, [], ◌∷◌, ◌++◌}
use native.Mathlib.Nat.{add-zero}
use native.Mathlib.Omega.{arith}
use borrow.Rule.Slice.PartMut.{put_mid}
use lib.ListN.{length, set, take, drop, length-append, length-drop, take-append-drop}
use lib.Seq.{length-take-le}
use Rattle.exact.specs.Bytes.{put}
use Rattle.exact.proofs.Spelling.{put-behind}
use Rattle.text.specs.Places.{PutFrom, Puts}
use Rattle.text.specs.declared.Page.{Page}

put-put : (b : List ℕ) (k : ℕ) (xs ys : List ℕ) → put (put b k xs) (k + length xs) ys ≡ put b k (xs ++ ys)
unfolding put
put-put b k [] ys = rw add-zero
put-put b k (x ∷ xs) ys =
    let e : k + length (x ∷ xs) ≡ k + 1 + length xs = omega arith in
    ap (λ (j : ℕ). put (put (set b k x) (k + 1) xs) j ys) e ∙ put-put (set b k x) (k + 1) xs ys

-- a part of the buffer, written over as a whole
pub put_part : (b xs : List ℕ) (at k : ℕ) → at + k ≤ length b → length xs ≡ k → put_mid at k b xs ≡ put b at xs
put_part b xs at k h e =
    let rest = drop at b in
    let room : k ≤ length rest = simp length-drop (omega arith) in
    let same : length (take k rest) ≡ length xs = length-take-le k rest room ∙ sym e in
    let split : take at b ++ (take k rest ++ drop k rest) ≡ b = ap (λ (l : List ℕ). take at b ++ l) (take-append-drop k rest) ∙ take-append-drop at b in
    let front : length (take at b) ≡ at = length-take-le at b (omega arith) in
    sym (put-behind xs (take at b) (take k rest) (drop k rest) same) ∙ (λ i. put (split i) (front i) xs)

-- a piece on a page, and one more behind it
pub onwards : {a b c : Page} {xs ys : List ℕ} → Puts a xs b → Puts b ys c → Puts a (xs ++ ys) c
onwards {a = a} {xs = xs} {ys = ys} p q =
    record {
      holds = q.holds ∙ rw (p.holds, p.place) (put-put a.buffer.now a.at xs ys);
      place = rw (length-append xs ys) (omega (arith, p.place, q.place));
      long = q.long ∙ p.long;
      same_reference = q.same_reference ∙ p.same_reference;
    }

-- what is put on a page stands in its buffer
pub from_page : {a b : Page} {xs : List ℕ} → Puts a xs b → PutFrom a.buffer.now a.at xs b.buffer.now b.at
from_page p = record { holds = p.holds; place = p.place }

pub nothing : (a : Page) → Puts a [] a
unfolding put
nothing a = record { holds = refl; place = omega arith; long = refl; same_reference = refl }
