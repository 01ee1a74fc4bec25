-- R50: a table of refusals: "First match decides, in the order listed for each call".
use Rattle.std.specs.Prelude.{Bool, true, false, Result, Ok, Err, List, [], ◌∷◌}
use Rattle.refusals.specs.declared.refusal.Refusal.{Refusal}

-- R50: a line of the table: a refusal, and when it is given
pub data Line : Type 0 where
  when : Bool → Refusal → Line

-- R50: the first line that matches decides
abbrev pub first_of : List Line → Result Unit Refusal
first_of [] = Ok tt
first_of (when true r ∷ rest) = Err r
first_of (when false r ∷ rest) = first_of rest

-- R50: one line more, after a verdict
abbrev pub also : Result Unit Refusal → Bool → Refusal → Result Unit Refusal
also (Err first) bad why = Err first
also (Ok tt) true why = Err why
also (Ok tt) false why = Ok tt

-- R50: one verdict after another
abbrev pub followed_by : Result Unit Refusal → Result Unit Refusal → Result Unit Refusal
followed_by (Err first) next = Err first
followed_by (Ok tt) next = next
