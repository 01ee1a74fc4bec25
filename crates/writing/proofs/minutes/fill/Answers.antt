use mathlib.Core.Path.{refl}
use mir.ValLaws.{to_z-of_z}
use mir.Syntax.{w16}
use Rattle.records.proofs.Writing.{filled_record}
use Rattle.minute.specs.Record.{minute_form, minute_bytes}
use Rattle.std.proofs.Common.{rules}
use Rattle.writing.proofs.minutes.fill.Goals as goal

pub returns : goal.returns
unfolding minute_bytes
returns c =
    let s = c.args.minute in
    rw (
      c.fill_exhaust.ensures,
      c.fill_gas.ensures,
      c.put-4.ensures,
      c.put-3.ensures,
      to_z-of_z w16 s.temperature (search rules),
      c.put-2.ensures,
      c.put.ensures,
      c.put_head.ensures,
    )
    (filled_record minute_form s c.args.out.now refl c.requires)
