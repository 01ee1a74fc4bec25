use Rattle.text.proofs.Putting.{onwards}
use Rattle.lines.specs.Lines.{refused_line}
use Rattle.lines.proofs.put_refused.Goals as goal

pub returns : goal.returns
unfolding refused_line
returns c =
    let number = rw c.number.ensures at c.decimal-2.ensures.put_from in
    onwards (onwards (onwards (onwards c.text.ensures c.decimal.ensures.put_from) c.text-2.ensures) number) c.text-3.ensures
