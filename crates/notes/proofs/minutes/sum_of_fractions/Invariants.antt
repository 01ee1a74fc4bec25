use Rattle.std.proofs.Common.{◌*◌, ◌≤◌}
use Rattle.notes.proofs.minutes.sum_of_fractions.Given as goal

abbrev pub invariant-loop-at : goal.invariant-loop-at
invariant-loop-at l = l.sum ≤ 4294967295 * l.at-index
