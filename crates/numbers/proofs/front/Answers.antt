use mathlib.Core.Path.{◌∙◌}
use Rattle.numbers.proofs.Places.{put_into_zeros, first_cells}
use Rattle.numbers.proofs.front.Goals as goal

pub returns-in-Some : goal.returns-in-Some
returns-in-Some g c =
    let e = c.in-Some.ensures.cases in
    e.same ∙ first_cells _ c.args.b.now e.enough

pub returns : goal.returns
returns g c = c.put_front.ensures ∙ put_into_zeros _ c.args.b.now
