use Rattle.maintenance.proofs.Counted.{back, in_days, later}
use Rattle.maintenance.proofs.time.serves.Goals as goal

pub returns-then-from-to : goal.returns-then-from-to
returns-then-from-to c =
    let s = c.before in
    rw (back s.args.e s.ranges.e) (in_days s.args.e s.ranges.e s.args.day s.args.allowed (rw (back s.args.e s.ranges.e) at c.if-from-to.true))

pub returns-else-from-to : goal.returns-else-from-to
returns-else-from-to c =
    let s = c.before in
    later s.args.e s.ranges.e s.args.day s.args.allowed (rw (back s.args.e s.ranges.e) at c.if-from-to.false)
