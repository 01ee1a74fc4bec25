-- R79, R80: the number that a word spells in decimal.
use Rattle.std.specs.Prelude.{Option, Some, None, ℕ, ◌+◌, ◌-◌, ◌*◌, ◌%◌, Bool, cond, ◌&&◌, List, [], ◌∷◌, leb, eqb}

-- R79: "0" to "9"
abbrev pub is_digit : ℕ → Bool
is_digit c = leb 48 c && leb c 57

-- R79: digits after those that spell a; a number above the most that may stand there is none
unfoldable pub spelled_on : ℕ → ℕ → List ℕ → Option ℕ
spelled_on most a [] = cond (leb a most) (Some a) None
spelled_on most a (c ∷ cs) = cond (is_digit c) (spelled_on most (a * 10 + (c - 48)) cs) None

-- R79: at least one digit
unfoldable pub number_in : ℕ → List ℕ → Option ℕ
number_in most [] = None
number_in most (c ∷ cs) = spelled_on most 0 (c ∷ cs)

-- R80: a number below zero as two bytes hold it
unfoldable pub negative : Option ℕ → Option ℕ
negative (Some n) = cond (leb n 65536) (Some ((65536 - n) % 65536)) None
negative None = None

-- R80: -32768 to 32767, with "-" before a number below zero
unfoldable pub signed_of : List ℕ → Option ℕ
signed_of [] = None
signed_of (c ∷ cs) = cond (eqb c 45) (negative (number_in 32768 cs)) (number_in 32767 (c ∷ cs))
