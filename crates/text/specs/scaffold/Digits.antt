-- The digits of a number as the code puts them, from the last.
use Rattle.std.specs.Prelude.{ℕ, zero, suc, ◌/◌, ◌%◌, List, [], ◌∷◌, ◌++◌}
use Rattle.text.specs.Text.{digit}

-- the last k digits of n
unfoldable pub last : ℕ → ℕ → List ℕ
last zero n = []
last (suc k) n = last k (n / 10) ++ (digit (n % 10) ∷ [])
