-- The line of a rule is not cut: it is its pieces, and each piece has so many bytes at most.
use Prim.Native.Nat.{◌≤◌}
use native.Mathlib.Decide.{dec_le}
use native.Mathlib.Omega.{arith}
use borrow.Author.Tests.{le-leb, lt-leb}
use lib.ListN.{length, length-append}
use Rattle.text.proofs.Decimals.{decimal-within}
use Rattle.summary.specs.Promises.{RuleUncut}
use Rattle.summary.specs.Summary.{rule_line}

pub rule_uncut : RuleUncut
unfolding rule_line
rule_uncut rule minutes words = by_length (dec_le (length words) 80)
  where
    by_length : Dec (length words ≤ 80) → length (rule_line rule minutes words) ≤ 163
    by_length (yes short) = rw (le-leb (length words) 80 short) (simp length-append (omega (arith, decimal-within rule, decimal-within minutes)))
    by_length (no long) = rw (lt-leb (length words) 80 (omega arith)) (omega arith)
