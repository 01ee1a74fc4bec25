-- R75: what the lines promise: none is cut.
use Rattle.tool06.specs.declared.figures.Figures.{Figures}
use Rattle.std.specs.Prelude.{Result, ℕ, ◌≤◌, length}
use Rattle.refusals.specs.declared.refusal.Refusal.{Refusal}
use Rattle.lines.specs.Lines.{minute_line, site_line}

-- R75: no line is longer than 163 bytes, and each is put only where there is room for that many
pub record NoneCut : Type 0 where
  pub minute : (expected : ℕ) (answer : Result Figures Refusal) → length (minute_line expected answer) ≤ 163
  pub site : (r : Refusal) → length (site_line r) ≤ 163
