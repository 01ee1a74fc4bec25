use Prim.Native.Nat.{◌≤◌}
use mathlib.Core.Path.{◌≡◌}
use lib.ListN.{drop}
use Rattle.words.specs.Numbers.{spelled_on}
use Rattle.words.proofs.number.number_in.Given as goal

-- what is left of the word, after the digits that spell the sum, spells what the word spells
abbrev pub invariant-loop-c : goal.invariant-loop-c
invariant-loop-c l =
    (l.sum ≤ l.most) × (spelled_on l.most l.sum (drop l.c-index l.word) ≡ spelled_on l.most 0 l.word)
