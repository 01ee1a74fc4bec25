use Prim.Native.Nat.{ℕ}
use mathlib.Core.Path.{ap, sym, ◌∙◌}
use lib.ListN.{get_or, get_or-eq_default}
use Rattle.calendar.specs.Calendar.{month_table, month_in, month_of}
use Rattle.calendar.proofs.month_of.Goals as goal

pub returns-then-entry-lt366 : goal.returns-then-entry-lt366
unfolding month_of month_in month_table
returns-then-entry-lt366 c = ap (λ (k : ℕ). get_or month_table k 0) c.entry_of-entry.ensures

pub returns-else-entry-lt366 : goal.returns-else-entry-lt366
unfolding month_of month_in month_table
returns-else-entry-lt366 c = sym (ap (λ (k : ℕ). get_or month_table k 0) (sym c.entry_of-entry.ensures) ∙ get_or-eq_default month_table 0 c.if-entry-lt366.false)
