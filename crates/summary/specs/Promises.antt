-- R75: what the line of a rule promises: it is not cut.
use Rattle.std.specs.Prelude.{ℕ, ◌≤◌, List, length}
use Rattle.summary.specs.Summary.{rule_line}

-- R75: it is no longer than 163 bytes, and is put only where there is room for that many
abbrev pub RuleUncut : Type 0
RuleUncut = (rule minutes : ℕ) (words : List ℕ) → length (rule_line rule minutes words) ≤ 163
