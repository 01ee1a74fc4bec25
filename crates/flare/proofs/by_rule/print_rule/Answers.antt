use Prim.Native.Nat.{ℕ, ◌+◌, ◌≤◌}
use mathlib.Core.List.{List}
use native.Mathlib.Omega.{arith}
use lib.ListN.{length}
use Rattle.summary.specs.Summary.{rule_line}
use Rattle.summary.proofs.Uncut.{rule_uncut}
use Rattle.room.specs.Places.{PutsLine}
use Rattle.room.proofs.Placing.{whole}
use Rattle.text.specs.declared.Page.{Page}
use Rattle.flare.proofs.by_rule.print_rule.Goals as goal

-- the place after a rule's line
ruled :
    {a b : Page} (rule minutes : ℕ) (words : List ℕ)
    → a.at + 163 ≤ length a.buffer.now
    → PutsLine a (rule_line rule minutes words) b
    → b.at ≤ a.at + 163
ruled rule minutes words h put = omega (arith, (whole h put).place, rule_uncut rule minutes words)

pub print-requires : goal.print-requires
print-requires g c =
    let put = c.put_rule.ensures in
    omega (arith, put.long, ruled _ _ _ (omega arith) put)
