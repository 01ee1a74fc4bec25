-- R9: the minute record, 54 bytes.
use Rattle.refusals.specs.declared.refusal.Refusal.{Refusal}
use Rattle.std.specs.Prelude.{Result, ℕ, List, [], ◌∷◌, ◌++◌, take, drop}
use Rattle.exact.specs.Bytes.{signed, unsigned}
use Rattle.exact.specs.Layout.{Layout, bytes, Maker}
use Rattle.refusals.specs.Tables.{Line, first_of}
use Rattle.records.specs.House.{Form, bytes_by, fields_by, head_lines, buffer_lines, answered}
use Rattle.minute.specs.Rules.{alone_lines}
use Rattle.minute.specs.declared.Minute.{Minute}

-- R9: the table's bytes and fields, the gases "in the order CH4, CO, CO2, O2, H2, H2S, NH3, N2"
abbrev pub minute_layout : Layout Minute
minute_layout =
    bytes 3 6 (λ n. n.number)
    ∷ bytes 7 7 (λ n. n.flags)
    ∷ bytes 8 9 (λ n. unsigned n.temperature)
    ∷ bytes 10 13 (λ n. n.litres)
    ∷ bytes 14 17 (λ n. n.gas.ch4)
    ∷ bytes 18 21 (λ n. n.gas.co)
    ∷ bytes 22 25 (λ n. n.gas.co2)
    ∷ bytes 26 29 (λ n. n.gas.o2)
    ∷ bytes 30 33 (λ n. n.gas.h2)
    ∷ bytes 34 37 (λ n. n.gas.h2s)
    ∷ bytes 38 41 (λ n. n.gas.nh3)
    ∷ bytes 42 45 (λ n. n.gas.n2)
    ∷ bytes 46 49 (λ n. n.exhaust.oxygen)
    ∷ bytes 50 53 (λ n. n.exhaust.methane)
    ∷ []

-- R9: the minute whose numbers these are, in the layout's order
abbrev pub minute : Maker minute_layout Minute
minute number flags temperature litres ch4 co co2 o2 h2 h2s nh3 n2 oxygen methane = record {
  number = number;
  flags = flags;
  temperature = signed temperature;
  litres = litres;
  gas = record { ch4 = ch4; co = co; co2 = co2; o2 = o2; h2 = h2; h2s = h2s; nh3 = nh3; n2 = n2 };
  exhaust = record { oxygen = oxygen; methane = methane };
}

-- R9: the minute record, version 1
abbrev pub minute_form : Form Minute
minute_form = record { size = 54; version = 1; layout = minute_layout; make = minute }

-- R9: the fields of a record's bytes
abbrev pub minute_of : List ℕ → Minute
minute_of b = fields_by minute_form b

-- R7, R9: the bytes of a record's fields
unfoldable pub minute_bytes : Minute → List ℕ
minute_bytes n = bytes_by minute_form n

-- R51: 1 and 2, of a record's bytes
abbrev pub minute_head_lines : List ℕ → List Line
minute_head_lines b = head_lines minute_form.size minute_form.version b

-- R61: "Reading a minute alone, without a site, gives 1, 2, 12, 13 in that sense, 14 to 18"
unfoldable pub read_minute : List ℕ → Result Minute Refusal
read_minute b = answered (minute_of b) (first_of (minute_head_lines b ++ alone_lines (minute_of b)))

-- R60: "Writing takes fields and a .. 54-byte buffer: 22, then the same field refusals"
unfoldable pub write_minute : Minute → List ℕ → Result Unit Refusal
write_minute n out = first_of (buffer_lines minute_form.size out ++ alone_lines n)

-- R62, R68: of records one after the other, the first, which the end may cut short
abbrev pub first_record : List ℕ → List ℕ
first_record run = take minute_form.size run

-- R62, R68: of records one after the other, those after the first
abbrev pub later_records : List ℕ → List ℕ
later_records run = drop minute_form.size run
