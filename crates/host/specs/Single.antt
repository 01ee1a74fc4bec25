-- R64 to R66: "Single minute, for host programs in C or Rust": what the call returns, and what the answer buffer then holds.
use Rattle.refusals.specs.declared.refusal.Refusal.{Refusal}
use Rattle.std.specs.Prelude.{Result, Ok, Err, ℕ, Bool, ◌&&◌, not, List, [], ◌∷◌, ◌++◌, eqb, leb}
use Rattle.exact.specs.Layout.{Layout, bytes, laid}
use Rattle.refusals.specs.Refusals.{number_of}
use Rattle.refusals.specs.Tables.{Line, first_of}
use Rattle.records.specs.House.{buffer_lines, written}
use Rattle.site.specs.Record.{site_of, site_head_lines}
use Rattle.site.specs.Rules.{site_lines}
use Rattle.site.specs.declared.Site.{Site}
use Rattle.minute.specs.Record.{minute_of, minute_head_lines}
use Rattle.minute.specs.Rules.{minute_lines}
use Rattle.tool06.specs.Figures.{figures}
use Rattle.tool06.specs.Judged.{beyond_year, oxygen_lines}
use Rattle.tool06.specs.Tool.{Masses}
use Rattle.tool06.specs.declared.figures.Figures.{Figures}

-- R66: "a 25-byte answer: fed, emitted, destroyed, eight bytes each, then the rule"; "the answer is big-endian"
abbrev pub answer_layout : Layout Figures
answer_layout =
    bytes 0 7 (λ f. f.fed)
    ∷ bytes 8 15 (λ f. f.emitted)
    ∷ bytes 16 23 (λ f. f.destroyed)
    ∷ bytes 24 24 (λ f. f.rule)
    ∷ []

-- R66: the 25 bytes
unfoldable pub answer_bytes : Figures → List ℕ
answer_bytes f = laid answer_layout f

-- R65: "days since maintenance .. (65,535: none)": in time where they are "not above the site's days"
unfoldable pub since_in_time : Site → ℕ → Bool
since_in_time s days = not (eqb days 65535) && leb days s.days

-- R64: "Order: 22, 1 to 9, minute 1, 2, 12, 13 (minute beyond the year), 14 to 19"
unfoldable pub single_lines : List ℕ → List ℕ → List ℕ → List Line
single_lines site minute answer =
    buffer_lines 25 answer
    ++ site_head_lines site
    ++ site_lines (site_of site)
    ++ minute_head_lines minute
    ++ minute_lines (beyond_year (site_of site) (minute_of minute)) (minute_of minute)
    ++ oxygen_lines (site_of site) (minute_of minute)

-- R64: the first of these refusals, or none
unfoldable pub single : List ℕ → List ℕ → List ℕ → Result Unit Refusal
single site minute answer = first_of (single_lines site minute answer)

-- R66: "It returns 0 or the refusal's number"
unfoldable pub returned : Result Unit Refusal → ℕ
returned (Ok tt) = 0
returned (Err r) = number_of r

-- R65, R66: the minute's figures at its site
unfoldable pub single_figures : Masses → List ℕ → List ℕ → ℕ → Figures
single_figures m site minute days = figures m (site_of site) (minute_of minute) (since_in_time (site_of site) days)

-- R58, R66: what the answer buffer holds afterwards: the answer, or where the call refuses what it held before
unfoldable pub answer_after : Masses → List ℕ → List ℕ → ℕ → List ℕ → List ℕ
answer_after m site minute days answer =
    written answer (answer_bytes (single_figures m site minute days)) (single site minute answer)
