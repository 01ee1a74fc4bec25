-- R81: digits in hexadecimal, as answers have them.
use Rattle.std.specs.Prelude.{ℕ, ◌+◌, cond, ltb}

-- R81: "0" to "9", then "a" to "f"
abbrev pub hex_digit : ℕ → ℕ
hex_digit d = cond (ltb d 10) (48 + d) (87 + d)
