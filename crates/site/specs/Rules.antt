-- R8, R51, R52: the ranges of a site's fields, and its refusals 3 to 9 in their order.
use Rattle.std.specs.Prelude.{ℤ, Ok, ℕ, ◌*◌, ◌%◌, ◌≡◌, Bool, true, false, ◌||◌, ◌&&◌, not, List, [], ◌∷◌, ltb, leb, eqb}
use Rattle.std.specs.Int.Signed.{lt_z}
use Rattle.exact.specs.Ranges.{above, outside}
use Rattle.records.specs.Ranges.{temperature_outside, flow_outside}
use Rattle.refusals.specs.Tables.{Line, when, first_of}
use Rattle.refusals.specs.declared.refusal.Refusal.TheVariants.{Method, Year, Gwp, Size, Spec, Open, Schedule}
use Rattle.site.specs.declared.limits.Limits.{Limits}
use Rattle.site.specs.declared.Site.{Site}

-- R1, R8: method "0 default", the tool's Option A
abbrev pub is_default : Site → Bool
is_default s = eqb s.method 0

-- R1, R8: method "1 measured each minute", the tool's Option B.2
abbrev pub is_measured : Site → Bool
is_measured s = eqb s.method 1

-- R8, R51: 3, neither of the two
abbrev pub method_wrong : Site → Bool
method_wrong s = not (is_default s || is_measured s)

-- R8, R51: 4, outside 2000..2099
abbrev pub year_wrong : Site → Bool
year_wrong s = outside 2000 2099 s.year

-- R8, R51: 5, outside 1..100
abbrev pub gwp_wrong : Site → Bool
gwp_wrong s = outside 1 100 s.gwp

-- R8, R51: 6, "height or diameter"
abbrev pub size_wrong : Site → Bool
size_wrong s = above 100000 s.height || outside 1 100000 s.diameter

-- R8, R51: 7, "a temperature .. limit outside its range or reversed"
abbrev pub temperatures_wrong : Limits ℤ → Bool
temperatures_wrong t = temperature_outside t.lowest || temperature_outside t.highest || lt_z t.highest t.lowest

-- R8, R51: 7, ".. or flow limit outside its range or reversed"
abbrev pub flows_wrong : Limits ℕ → Bool
flows_wrong f = flow_outside f.lowest || flow_outside f.highest || ltb f.highest f.lowest

-- R17: "Height at most twice the diameter: open"
abbrev pub is_open : Site → Bool
is_open s = leb s.height (2 * s.diameter)

abbrev leap_or : Bool → ℕ
leap_or true = 527040
leap_or false = 525600

-- R13: "divisible by four"
abbrev pub is_leap : ℕ → Bool
is_leap year = eqb (year % 4) 0

-- R13: "A year has 525,600 minutes, or 527,040 when divisible by four"
abbrev pub year_minutes : ℕ → ℕ
year_minutes year = leap_or (is_leap year)

-- R8, R51: 9, outside "1..3,660 measured, 0..3,660 default"
abbrev pub schedule_wrong : Site → Bool
schedule_wrong s = above 3660 s.days || (is_measured s && ltb s.days 1)

-- R51, R52: 3 to 9, of a site's fields
unfoldable pub site_lines : Site → List Line
site_lines s =
    when (method_wrong s) Method
    ∷ when (year_wrong s) Year
    ∷ when (gwp_wrong s) Gwp
    ∷ when (size_wrong s) Size
    ∷ when (temperatures_wrong s.temperature || flows_wrong s.flow) Spec
    ∷ when (is_measured s && is_open s) Open
    ∷ when (schedule_wrong s) Schedule
    ∷ []

-- R52, R57: none of 3 to 9
abbrev pub Examined : Site → Type 0
Examined s = first_of (site_lines s) ≡ Ok tt
