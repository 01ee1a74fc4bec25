use Rattle.exact.specs.Bytes.{bytes_of}
use Rattle.numbers.proofs.Places.{put_in_rest}
use Rattle.numbers.proofs.put.Goals as goal

pub returns : goal.returns
returns g c =
    let n = g.N.Number in
    let a = c.args in
    rw c.put_first.ensures (put_in_rest a.b.now a.k c.min-start.result c.min-start.ensures (bytes_of n.size (n.number a.x)))
