-- How long a text is up to its first space, by the space's place in it.
use Rattle.std.specs.Prelude.{Some, None, ℕ, ◌+◌, ◌≡◌, Bool, true, false, cond, not, eqb, List, [], ◌∷◌, length, position}
use Rattle.std.proofs.Common.{arith, ltb}
use Rattle.std.specs.List.{position_or_len}
use mathlib.Core.Path.{refl, ◌∙◌}
use Rattle.std.proofs.lemmas.List.Recursion.{is_position_or_len}
use Rattle.std.proofs.lemmas.List.Sums.{prefix_len-le-length}
use borrow.Author.Tests.{ltb-false}
use Rattle.words.specs.Words.{until_space}

one_more : (c : ℕ) (cs : List ℕ) → length (until_space (c ∷ cs)) ≡ cond (eqb c 32) 0 (1 + length (until_space cs))
unfolding until_space
one_more c cs = either (eqb c 32)
  where
    either : (b : Bool) → length (cond b [] (c ∷ until_space cs)) ≡ cond b 0 (1 + length (until_space cs))
    either true = refl
    either false = omega arith

length-word : (t : List ℕ) → length (until_space t) ≡ position_or_len (λ c. eqb c 32) t
unfolding until_space
length-word t = is_position_or_len (λ (l : List ℕ). length (until_space l)) (λ c. eqb c 32) refl one_more t

pub found : (t : List ℕ) (place : ℕ) → position (λ c. eqb c 32) t ≡ Some place → length (until_space t) ≡ place
found t place e = length-word t ∙ either (ltb (position_or_len (λ c. eqb c 32) t) (length t)) e
  where
    either : (b : Bool) → cond b (Some (position_or_len (λ c. eqb c 32) t)) None ≡ Some place → position_or_len (λ c. eqb c 32) t ≡ place
    either true h = cc
    either false h = cc

pub not_found : (t : List ℕ) → position (λ c. eqb c 32) t ≡ None → length (until_space t) ≡ length t
not_found t e = length-word t ∙ either (ltb first (length t)) refl e
  where
    first : ℕ
    first = position_or_len (λ c. eqb c 32) t

    either : (b : Bool) → ltb first (length t) ≡ b → cond b (Some first) None ≡ None → first ≡ length t
    either true h e = cc
    either false h e = omega (arith, ltb-false first (length t) h, prefix_len-le-length (λ c. not (eqb c 32)) t)
