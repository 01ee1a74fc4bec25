use Rattle.text.proofs.Putting.{onwards}
use Rattle.month_line.specs.Line.{row_line}
use Rattle.month_line.proofs.put_row.Goals as goal

pub returns : goal.returns
unfolding row_line
returns c =
    onwards (onwards (onwards (onwards c.text.ensures c.put_count.ensures.put_from) c.text-2.ensures) c.put_sums.ensures.put_from) c.text-3.ensures
