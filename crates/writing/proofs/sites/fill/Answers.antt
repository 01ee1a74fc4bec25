use mathlib.Core.Path.{refl}
use Rattle.records.proofs.Writing.{filled_record}
use Rattle.site.specs.Record.{site_form, site_bytes}
use Rattle.writing.proofs.sites.fill.Goals as goal

pub returns : goal.returns
unfolding site_bytes
returns c =
    let s = c.args.site in
    rw (
      c.put-6.ensures,
      c.fill_limits.ensures,
      c.put-5.ensures,
      c.put-4.ensures,
      c.put-3.ensures,
      c.put-2.ensures,
      c.put.ensures,
      c.put_head.ensures,
    )
    (filled_record site_form s c.args.out.now refl c.requires)
