use native.Mathlib.Omega.{arith}
use Rattle.lines.proofs.NoneCut.{none_cut}
use Rattle.room.proofs.Placing.{whole}
use Rattle.ending.proofs.put_refused_site.Goals as goal

pub returns : goal.returns
returns c =
    let line = whole (omega arith) c.put_site.ensures in
    record { put_from = line; within = omega (arith, line.place, none_cut.site c.args.refusal) }
