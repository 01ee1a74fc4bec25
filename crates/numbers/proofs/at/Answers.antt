use Rattle.std.proofs.Common.{ap, sym}
use Rattle.numbers.proofs.Places.{number_of_tail, rest}
use Rattle.numbers.proofs.at.Goals as goal

pub returns : goal.returns
returns g c =
    let n = g.N.Number in
    let a = c.args in
    rw (c.first.ensures, rest a.b.now a.k c.min.result c.min.ensures) (ap n.of (sym (number_of_tail n.size a.b.now a.k)))
