use Rattle.numbers.proofs.Places.{whole_put}
use Rattle.numbers.proofs.put_whole.Goals as goal

pub returns-in-Some : goal.returns-in-Some
returns-in-Some g c = whole_put c.args.b.now c.args.bytes _ c.well_formed.1.0.1.0.1 c.in-Some.ensures.cases.enough
