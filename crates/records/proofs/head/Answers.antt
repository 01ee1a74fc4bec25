use Rattle.records.specs.House.{head_lines}
use Rattle.refusals.proofs.Tables.{chained}
use Rattle.records.proofs.head.Goals as goal

pub returns : goal.returns
unfolding head_lines
returns c = rw (← chained, c.also-2.ensures, c.also.ensures, c.at-first.ensures, c.at.ensures)
