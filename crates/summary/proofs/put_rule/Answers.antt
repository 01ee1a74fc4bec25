use native.Mathlib.Omega.{arith}
use borrow.Author.Tests.{le-leb, lt-leb}
use lib.ListN.{length}
use Rattle.text.proofs.Putting.{onwards}
use Rattle.summary.specs.Summary.{rule_line}
use Rattle.room.proofs.Placing.{there, nowhere, no_line}
use Rattle.summary.proofs.put_rule.Goals as goal

pub returns-then-words-gt-WORDS : goal.returns-then-words-gt-WORDS
unfolding rule_line
returns-then-words-gt-WORDS c = no_line _ (rw (lt-leb (length c.args.words.now) 80 c.if-words-gt-WORDS.true))

pub returns-then-room-ge-LONGEST : goal.returns-then-room-ge-LONGEST
unfolding rule_line
returns-then-room-ge-LONGEST c =
    rw (le-leb (length c.args.words.now) 80 c.if-words-gt-WORDS.false)
    (there
    (omega arith)
    (onwards (onwards (onwards (onwards (onwards (onwards c.text.ensures c.decimal.ensures.put_from) c.text-then-room-ge-LONGEST.ensures) c.decimal-then-room-ge-LONGEST.ensures.put_from) c.text-then-room-ge-LONGEST-2.ensures) c.text-then-room-ge-LONGEST-3.ensures) c.text-then-room-ge-LONGEST-4.ensures))

pub returns-else-room-ge-LONGEST : goal.returns-else-room-ge-LONGEST
returns-else-room-ge-LONGEST c = nowhere _ _ (omega arith)
