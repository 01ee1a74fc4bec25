use mathlib.Core.Path.{refl}
use Rattle.calendar.specs.Calendar.{entry_in}
use Rattle.calendar.proofs.entry_of.Goals as goal

pub returns-then-year-day : goal.returns-then-year-day
unfolding entry_in
returns-then-year-day c = rw c.if-year-day.true refl

pub returns-else-year-day : goal.returns-else-year-day
unfolding entry_in
returns-else-year-day c = rw c.if-year-day.false refl
