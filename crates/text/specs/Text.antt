-- R74: text, as the list of its ASCII codes, and numbers in decimal.
use Rattle.std.specs.Prelude.{ℕ, zero, suc, ◌+◌, ◌/◌, ◌%◌, cond, List, [], ◌∷◌, ◌++◌, ltb}
use Prim.Native.Char.{code}
use Prim.Native.String.{String, [] as end, ◌∷◌ as ◌then◌}

-- R74: the characters' codes
abbrev pub text : String → List ℕ
text end = []
text (c then s) = code c ∷ text s

-- R74: "0" to "9"
abbrev pub digit : ℕ → ℕ
digit d = 48 + d

-- R74: n in decimal, in at most k digits: the digits of n / 10, if that is not 0, and then the last
unfoldable pub digits : ℕ → ℕ → List ℕ
digits zero n = []
digits (suc k) n = cond (ltb n 10) (digit n ∷ []) (digits k (n / 10) ++ (digit (n % 10) ∷ []))

-- R74: n in decimal: no number of 64 bits has more than 20 digits
unfoldable pub decimal : ℕ → List ℕ
decimal n = digits 20 n
