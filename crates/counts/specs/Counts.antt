-- R46: "ten counts, one per rule".
use Rattle.std.specs.Prelude.{ℕ, ◌+◌, List, [], ◌∷◌, get_or, set}

-- R46: one more at place k
abbrev pub one_more : List ℕ → ℕ → List ℕ
one_more counts k = set counts k (get_or counts k 0 + 1)

-- R89: what the counts add up to
abbrev pub sum : List ℕ → ℕ
sum [] = 0
sum (x ∷ xs) = x + sum xs
