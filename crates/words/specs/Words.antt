-- R78: words stand one space apart.
use Rattle.std.specs.Prelude.{ℕ, cond, List, [], ◌∷◌, eqb}

-- R78: the word that a text begins with: up to its first space, or all of it
unfoldable pub until_space : List ℕ → List ℕ
until_space [] = []
until_space (c ∷ cs) = cond (eqb c 32) [] (c ∷ until_space cs)
