use Rattle.text.proofs.Putting.{onwards}
use Rattle.lines.specs.Lines.{methane}
use Rattle.lines.proofs.put_methane.Goals as goal

pub returns-clause-put_from : goal.returns-clause-put_from
unfolding methane
returns-clause-put_from c =
    onwards (onwards (onwards (onwards (onwards c.text.ensures c.decimal.ensures.put_from) c.text-2.ensures) c.decimal-2.ensures.put_from) c.text-3.ensures) c.decimal-3.ensures.put_from
