use mathlib.Core.Path.{refl, sym, ◌∙◌}
use native.Mathlib.Omega.{arith}
use Rattle.by_month.proofs.Laws.{given-row}
use Rattle.room.proofs.Placing.{there, nowhere, no_line}
use Rattle.month_line.specs.Line.{month_line}
use Rattle.month_line.proofs.put_month.Goals as goal

pub put_row-requires : goal.put_row-requires
put_row-requires c =
    let row = given-row c.requires c.args.month _ (sym c.month.ensures ∙ c.in-Ok.is) in
    record { at_in_bounds = omega arith; month_le_minutes_most = (row.month_most, row.minutes_most_lem, row.gas_most) }

pub returns-then-room-ge-LONGEST : goal.returns-then-room-ge-LONGEST
unfolding month_line
returns-then-room-ge-LONGEST c =
    rw (sym c.month.ensures ∙ c.in-Ok.is) (there (omega arith) c.put_row.ensures)

pub returns-else-room-ge-LONGEST : goal.returns-else-room-ge-LONGEST
returns-else-room-ge-LONGEST c = nowhere _ _ (omega arith)

pub returns-in_default : goal.returns-in_default
unfolding month_line
returns-in_default c = no_line _ (rw (sym c.month.ensures ∙ c.in_default.is) refl)
