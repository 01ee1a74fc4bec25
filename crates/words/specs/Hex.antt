-- R81: the bytes that a word spells in hexadecimal.
use Rattle.std.specs.Prelude.{ℕ, ◌+◌, ◌-◌, ◌*◌, Bool, true, false, cond, ◌&&◌, List, [], ◌∷◌, leb, ltb}

-- R81: a character is one of first to last
abbrev pub between : ℕ → ℕ → ℕ → Bool
between first last c = leb first c && leb c last

-- R81: "0" to "9", "a" to "f", "A" to "F"; 16 stands for none
unfoldable pub digit_of : ℕ → ℕ
digit_of c =
    cond (between 48 57 c) (c - 48)
    (cond (between 97 102 c) (c - 87)
    (cond (between 65 70 c) (c - 55) 16))

-- R81: a character is a hexadecimal digit
abbrev pub is_hex : ℕ → Bool
is_hex c = ltb (digit_of c) 16

-- R81: digits, two and two
unfoldable pub in_pairs : List ℕ → Bool
in_pairs [] = true
in_pairs (a ∷ []) = false
in_pairs (a ∷ b ∷ cs) = is_hex a && is_hex b && in_pairs cs

-- R81: the byte of each two digits
unfoldable pub bytes_in : List ℕ → List ℕ
bytes_in [] = []
bytes_in (a ∷ []) = []
bytes_in (a ∷ b ∷ cs) = (digit_of a * 16 + digit_of b) ∷ bytes_in cs
