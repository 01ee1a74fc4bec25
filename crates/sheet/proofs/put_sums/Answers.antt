use Rattle.text.proofs.Putting.{onwards}
use Rattle.sheet.specs.Sheet.{sums_text}
use Rattle.sheet.proofs.put_sums.Goals as goal

pub returns-clause-put_from : goal.returns-clause-put_from
unfolding sums_text
returns-clause-put_from c =
    onwards (onwards (onwards (onwards (onwards c.put_count.ensures.put_from c.text.ensures) c.put_count-2.ensures.put_from) c.put_methane.ensures.put_from) c.text-2.ensures) c.decimal.ensures.put_from
