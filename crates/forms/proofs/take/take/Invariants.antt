use Rattle.std.proofs.Common.{◌≤◌, length}
use Rattle.forms.proofs.take.take.Given as goal

abbrev pub invariant-loop-place : goal.invariant-loop-place
invariant-loop-place l = length l.rest ≤ length l.line
