-- R77: the line of a rule in a summary.
use Rattle.std.specs.Prelude.{ℕ, cond, List, [], ◌++◌, leb, length}
use Rattle.text.specs.Text.{text, decimal}

-- R77: the minutes under one rule, in words: "ten counts, one per rule"; words have at most 80 bytes, and with longer ones there is no line
unfoldable pub rule_line : ℕ → ℕ → List ℕ → List ℕ
rule_line rule minutes words =
    cond (leb (length words) 80)
    (text "rule " ++ decimal rule
    ++ text " minutes " ++ decimal minutes
    ++ text " " ++ words
    ++ text "\n")
    []
