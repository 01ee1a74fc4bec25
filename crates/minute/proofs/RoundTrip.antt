-- A minute written and read, and read and written.
use Rattle.std.specs.Prelude.{Ok}
use Prim.Native.Nat.{ℕ}
use mathlib.Core.Path.{◌≡◌, refl}
use mathlib.Core.List.{List}
use mathlib.Core.Logic.{⊎_elim}
use native.Mathlib.Omega.{arith}
use lib.IntN.{pos}
use mir.Val.{SFits}
use mir.ValLaws.{to_z-of_z}
use mir.Syntax.{w16}
use Rattle.exact.specs.Bytes.{AreBytes}
use Rattle.exact.specs.Ranges.{outside_z}
use Rattle.exact.proofs.Bools.{either}
use Rattle.exact.proofs.Layouts.{made, Holds}
use Rattle.exact.proofs.Ranges.{inside_fits, zero_fits}
use Rattle.exact.proofs.Spelling.{unsigned_signed}
use Rattle.records.specs.Ranges.{temperature_outside}
use Rattle.refusals.specs.Tables.{first_of}
use Rattle.records.specs.RoundTrip.{ReadsBack, WritesBack}
use Rattle.refusals.proofs.Tables.{none}
use Rattle.records.proofs.RoundTrip.{Sound, reads_back, writes_back}
use Rattle.minute.specs.Rules.{temperature_present, minute_lines, alone_lines}
use Rattle.minute.specs.Record.{minute_layout, minute, minute_form, minute_of, minute_bytes, read_minute, write_minute}
use Rattle.minute.specs.Promises.{minute_kind}
use Rattle.minute.specs.declared.Minute.{Minute}

-- a temperature that is not refused fits its bytes
fit : (m : Minute) → first_of (alone_lines m) ≡ Ok tt → SFits w16 m.temperature
unfolding minute_lines
fit m ok =
    let z = m.temperature in
    ⊎_elim
    (inside_fits 499 15000 z (omega arith) (omega arith))
    (zero_fits z)
    (either (temperature_present m) (temperature_outside z) (outside_z (pos 0) (pos 0) z) (none (alone_lines m) ok).1.1.1.1.1.0)

same : (m : Minute) → first_of (alone_lines m) ≡ Ok tt → made minute_layout minute m ≡ m
same m ok =
    λ i. record {
      number = m.number;
      flags = m.flags;
      temperature = to_z-of_z w16 m.temperature (fit m ok) i;
      litres = m.litres;
      gas = m.gas;
      exhaust = m.exhaust;
    }

held : (b : List ℕ) → AreBytes b → Holds minute_layout (minute_of b) b
held b h =
    (refl, (refl, (unsigned_signed b h 8, (refl, (refl, (refl, (refl, (refl, (refl, (refl, (refl, (refl, (refl, (refl, tt))))))))))))))

sound : Sound minute_form alone_lines
sound = record {
  gap = refl;
  same = same;
  held = held;
}

pub minute-reads_back : ReadsBack minute_kind
unfolding minute_bytes read_minute write_minute
minute-reads_back = reads_back minute_form alone_lines sound

pub minute_writes_back : WritesBack minute_kind
unfolding minute_bytes read_minute write_minute
minute_writes_back = writes_back minute_form alone_lines sound
