use mathlib.Core.Path.{sym, ◌∙◌}
use borrow.Author.Tests.{ne_eqb}
use Rattle.words.proofs.Pairs.{even, odd}
use Rattle.words.proofs.hex.in_pairs.Goals as goal

pub returns-then-word-eq0 : goal.returns-then-word-eq0
returns-then-word-eq0 c = c.are_hex.ensures ∙ sym (even _ c.if-word-eq0.true)

pub returns-else-word-eq0 : goal.returns-else-word-eq0
returns-else-word-eq0 c = ne_eqb _ _ c.if-word-eq0.false ∙ odd _ c.if-word-eq0.false
