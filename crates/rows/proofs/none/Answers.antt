use Rattle.rows.specs.Rows.{no_rows}
use Rattle.rows.proofs.none.Goals as goal

pub returns : goal.returns
unfolding no_rows
returns c = rw c.none.ensures
