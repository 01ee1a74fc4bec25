-- R69, R70, R73: the lines of a minute and of a refused site.
use Rattle.std.specs.Prelude.{Result, Ok, Err, ℕ, List, [], ◌++◌}
use Rattle.refusals.specs.Refusals.{number_of}
use Rattle.refusals.specs.declared.refusal.Refusal.{Refusal}
use Rattle.tool06.specs.declared.figures.Figures.{Figures}
use Rattle.text.specs.Text.{text, decimal}

-- R69, R71: methane in mg, of a minute or of sums
unfoldable pub methane : ℕ → ℕ → ℕ → List ℕ
methane fed emitted destroyed =
    text " fed " ++ decimal fed
    ++ text " emitted " ++ decimal emitted
    ++ text " destroyed " ++ decimal destroyed

-- R69: "Minute, rule, three mg figures"
unfoldable pub accepted_line : ℕ → Figures → List ℕ
accepted_line minute f =
    text "minute " ++ decimal minute
    ++ text " rule " ++ decimal f.rule
    ++ methane f.fed f.emitted f.destroyed
    ++ text "\n"

-- R70: "`minute E refused R`, E the expected minute"
unfoldable pub refused_line : ℕ → Refusal → List ℕ
refused_line minute r =
    text "minute " ++ decimal minute
    ++ text " refused " ++ decimal (number_of r)
    ++ text "\n"

-- R69, R70: the line of a minute's answer
abbrev pub minute_line : ℕ → Result Figures Refusal → List ℕ
minute_line minute (Ok f) = accepted_line minute f
minute_line minute (Err r) = refused_line minute r

-- R70: the line of the refusal that ended the reading, with "E the expected minute"; none where none did
abbrev pub last_line : ℕ → Result Unit Refusal → List ℕ
last_line expected (Ok tt) = []
last_line expected (Err r) = refused_line expected r

-- R73: "A refused site prints only `site refused R`"
unfoldable pub site_line : Refusal → List ℕ
site_line r = text "site refused " ++ decimal (number_of r) ++ text "\n"
