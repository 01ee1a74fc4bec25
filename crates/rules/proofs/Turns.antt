-- The tests one after the other find the first rule.
use Rattle.std.specs.Prelude.{◌≡◌, true, false, List, [], ◌∷◌, Option, Some, None}
use Rattle.std.specs.Bool.{then_some}
use Rattle.std.specs.Option.{option_or, unwrap_or}
use mathlib.Core.Path.{refl}
use Rattle.tool06.specs.Rules.{Rule, ruling, RuleLine, when, first}
use Rattle.tool06.specs.declared.loss.Ruling.{Ruling}

-- the tests one after the other, as the code makes them
abbrev pub found : Option Ruling → List RuleLine → Option Ruling
found f [] = f
found f (when test r ∷ rest) = found (option_or f (then_some test (ruling r))) rest

kept : (k : Ruling) (rest : List RuleLine) → found (Some k) rest ≡ Some k
kept k [] = refl
kept k (when test r ∷ rest) = kept k rest

pub found_first : (lines : List RuleLine) (last : Rule) → unwrap_or (found None lines) (ruling last) ≡ ruling (first lines last)
found_first [] last = refl
found_first (when true r ∷ rest) last = rw (kept (ruling r) rest)
found_first (when false r ∷ rest) last = found_first rest last
