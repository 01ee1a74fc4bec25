use Rattle.text.proofs.Putting.{onwards}
use Rattle.lines.specs.Lines.{accepted_line}
use Rattle.lines.proofs.put_accepted.Goals as goal

pub returns : goal.returns
unfolding accepted_line
returns c =
    onwards (onwards (onwards (onwards (onwards c.text.ensures c.decimal.ensures.put_from) c.text-2.ensures) c.decimal-2.ensures.put_from) c.put_methane.ensures.put_from) c.text-3.ensures
