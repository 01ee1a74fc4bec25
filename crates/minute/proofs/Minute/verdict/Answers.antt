use Rattle.refusals.proofs.Tables.{chained}
use Rattle.minute.specs.Rules.{minute_lines}
use Rattle.minute.proofs.Minute.verdict.Goals as goal

pub returns : goal.returns
unfolding minute_lines
returns c =
    let c6 = c.before.before in
    let c5 = c6.before.before in
    let c4 = c5.before.before in
    let c3 = c4.before.before in
    rw (
      ← chained,
      c.also-7.ensures,
      c.exhaust_wrong.ensures,
      c6.also-6.ensures,
      c6.temperature_wrong.ensures,
      c5.also-5.ensures,
      c5.methane_wrong.ensures,
      c4.also-4.ensures,
      c4.composition_wrong.ensures,
      c3.also-3.ensures,
      c3.also-2.ensures,
      c3.also.ensures,
    )
