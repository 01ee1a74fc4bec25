use native.Mathlib.Omega.{arith}
use Rattle.words.proofs.Filling.{next, one_less, none_left}
use Rattle.words.proofs.hex.fill.Goals as goal

pub digit_of-high-requires : goal.digit_of-high-requires
digit_of-high-requires c = (next c.loop-k.invariant (omega arith)).high

pub digit_of-low-requires : goal.digit_of-low-requires
digit_of-low-requires c = (next c.loop-k.invariant (omega arith)).low

pub loop-k-preserved : goal.loop-k-preserved
loop-k-preserved c =
    one_less c.loop-k.invariant (omega arith) c.digit_of-high.ensures.value c.digit_of-low.ensures.value c.put.ensures (omega arith)

pub returns : goal.returns
returns c = none_left c.loop-k.invariant (omega arith)
