use mathlib.Core.List.{[]}
use mathlib.Core.Path.{refl}
use native.Mathlib.Omega.{arith}
use Rattle.exact.proofs.Layouts.{filled-laid}
use Rattle.host.specs.Single.{answer_layout, answer_bytes}
use Rattle.host.proofs.fill.Goals as goal

pub returns : goal.returns
unfolding answer_bytes
returns c =
    rw (c.put-4.ensures, c.put-3.ensures, c.put-2.ensures, c.put.ensures)
    (filled-laid answer_layout c.args.figures [] c.args.answer.now 25 refl (omega (arith, c.requires)))
