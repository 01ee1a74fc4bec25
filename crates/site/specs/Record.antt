-- R8: the site record, 30 bytes.
use Rattle.refusals.specs.declared.refusal.Refusal.{Refusal}
use Rattle.std.specs.Prelude.{Result, ℕ, List, [], ◌∷◌, ◌++◌}
use Rattle.exact.specs.Bytes.{signed, unsigned}
use Rattle.exact.specs.Layout.{Layout, bytes, Maker}
use Rattle.refusals.specs.Tables.{Line, first_of}
use Rattle.records.specs.House.{Form, bytes_by, fields_by, head_lines, buffer_lines, answered}
use Rattle.site.specs.Rules.{site_lines}
use Rattle.site.specs.declared.Site.{Site}

-- R8: the table's bytes and fields
abbrev pub site_layout : Layout Site
site_layout =
    bytes 3 3 (λ s. s.method)
    ∷ bytes 4 5 (λ s. s.year)
    ∷ bytes 6 7 (λ s. s.gwp)
    ∷ bytes 8 11 (λ s. s.height)
    ∷ bytes 12 15 (λ s. s.diameter)
    ∷ bytes 16 17 (λ s. unsigned s.temperature.lowest)
    ∷ bytes 18 19 (λ s. unsigned s.temperature.highest)
    ∷ bytes 20 23 (λ s. s.flow.lowest)
    ∷ bytes 24 27 (λ s. s.flow.highest)
    ∷ bytes 28 29 (λ s. s.days)
    ∷ []

-- R8: the site whose numbers these are, in the table's order
abbrev pub site : Maker site_layout Site
site method year gwp height diameter coldest hottest least most days = record {
  method = method;
  year = year;
  gwp = gwp;
  height = height;
  diameter = diameter;
  temperature = record { lowest = signed coldest; highest = signed hottest };
  flow = record { lowest = least; highest = most };
  days = days;
}

-- R8: the site record, version 1
abbrev pub site_form : Form Site
site_form = record { size = 30; version = 1; layout = site_layout; make = site }

-- R8: the fields of a record's bytes
abbrev pub site_of : List ℕ → Site
site_of b = fields_by site_form b

-- R7, R8: the bytes of a record's fields
unfoldable pub site_bytes : Site → List ℕ
site_bytes s = bytes_by site_form s

-- R51: 1 and 2, of a record's bytes
abbrev pub site_head_lines : List ℕ → List Line
site_head_lines b = head_lines site_form.size site_form.version b

-- R52: "Site: 1 to 9"
unfoldable pub read_site : List ℕ → Result Site Refusal
read_site b = answered (site_of b) (first_of (site_head_lines b ++ site_lines (site_of b)))

-- R60: "Writing takes fields and a 30- .. byte buffer: 22, then the same field refusals (for a site 3 to 9 ..)"
unfoldable pub write_site : Site → List ℕ → Result Unit Refusal
write_site s out = first_of (buffer_lines site_form.size out ++ site_lines s)
