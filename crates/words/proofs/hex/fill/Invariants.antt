use Prim.Native.Nat.{◌*◌}
use Rattle.words.proofs.Filling.{Left}
use Rattle.words.proofs.hex.fill.Given as goal

abbrev pub invariant-loop-k : goal.invariant-loop-k
invariant-loop-k l = Left l.word l.initial.out l.out (2 * l.k) l.k
