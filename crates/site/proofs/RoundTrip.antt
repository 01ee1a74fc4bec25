-- A site written and read, and read and written.
use Rattle.std.specs.Prelude.{Ok}
use Rattle.std.specs.Prelude.{ℤ}
use Prim.Native.Nat.{ℕ}
use mathlib.Core.Path.{◌≡◌, refl}
use mathlib.Core.Bool.{false, ◌||◌}
use mathlib.Core.List.{List}
use native.Mathlib.Omega.{arith}
use lib.Signed.{lt_z}
use mir.Val.{SFits}
use mir.ValLaws.{to_z-of_z}
use mir.Syntax.{w16}
use Rattle.exact.specs.Bytes.{AreBytes}
use Rattle.exact.proofs.Bools.{or_false}
use Rattle.exact.proofs.Layouts.{made, Holds}
use Rattle.exact.proofs.Ranges.{inside_fits}
use Rattle.exact.proofs.Spelling.{unsigned_signed}
use Rattle.records.specs.Ranges.{temperature_outside}
use Rattle.refusals.specs.Tables.{first_of}
use Rattle.records.specs.RoundTrip.{ReadsBack, WritesBack}
use Rattle.refusals.proofs.Tables.{none}
use Rattle.records.proofs.RoundTrip.{Sound, reads_back, writes_back}
use Rattle.site.specs.Rules.{site_lines, temperatures_wrong, flows_wrong}
use Rattle.site.specs.Record.{site_layout, site, site_form, site_of, site_bytes, read_site, write_site}
use Rattle.site.specs.Promises.{site_kind}
use Rattle.site.specs.declared.Site.{Site}
use Rattle.site.specs.declared.limits.Limits.{Limits}

-- temperatures that are not refused fit their bytes
fit : (t : Limits ℤ) → temperatures_wrong t ≡ false → SFits w16 t.lowest × SFits w16 t.highest
fit t e =
    let low = temperature_outside t.lowest in
    let high = temperature_outside t.highest in
    let both = or_false low high (or_false (low || high) (lt_z t.highest t.lowest) e).0 in (
      inside_fits 499 15000 t.lowest (omega arith) (omega arith) both.0,
      inside_fits 499 15000 t.highest (omega arith) (omega arith) both.1,
    )

same : (s : Site) → first_of (site_lines s) ≡ Ok tt → made site_layout site s ≡ s
unfolding site_lines
same s ok =
    let spec = (none (site_lines s) ok).1.1.1.1.0 in
    let fits = fit s.temperature (or_false (temperatures_wrong s.temperature) (flows_wrong s.flow) spec).0 in
    λ i. record {
      method = s.method;
      year = s.year;
      gwp = s.gwp;
      height = s.height;
      diameter = s.diameter;
      temperature = record {
        lowest = to_z-of_z w16 s.temperature.lowest fits.0 i;
        highest = to_z-of_z w16 s.temperature.highest fits.1 i;
      };
      flow = s.flow;
      days = s.days;
    }

held : (b : List ℕ) → AreBytes b → Holds site_layout (site_of b) b
held b h = (refl, (refl, (refl, (refl, (refl, (unsigned_signed b h 16, (unsigned_signed b h 18, (refl, (refl, (refl, tt))))))))))

sound : Sound site_form site_lines
sound = record {
  gap = refl;
  same = same;
  held = held;
}

pub site-reads_back : ReadsBack site_kind
unfolding site_bytes read_site write_site
site-reads_back = reads_back site_form site_lines sound

pub site_writes_back : WritesBack site_kind
unfolding site_bytes read_site write_site
site_writes_back = writes_back site_form site_lines sound
