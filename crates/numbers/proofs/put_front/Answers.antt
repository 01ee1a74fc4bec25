use Rattle.numbers.proofs.Places.{front_copied}
use Rattle.numbers.proofs.put_front.Goals as goal

pub returns : goal.returns
returns c =
    let a = c.args in
    rw c.copy_from_slice.ensures.after (front_copied a.b.now a.bytes.now c.min-n.result c.min-n.ensures)
