use Rattle.text.proofs.Putting.{onwards}
use Rattle.sheet.specs.Sheet.{standing}
use Rattle.sheet.proofs.put_standing.Goals as goal

pub returns-in-Ok-clause-put_from : goal.returns-in-Ok-clause-put_from
unfolding standing
returns-in-Ok-clause-put_from c = rw c.in-Ok.is (onwards c.text.ensures c.decimal.ensures.put_from)

pub returns-in-Err-clause-put_from : goal.returns-in-Err-clause-put_from
unfolding standing
returns-in-Err-clause-put_from c = rw c.in-Err.is c.text-in-Err.ensures
