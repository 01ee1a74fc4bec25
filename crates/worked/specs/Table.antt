-- R67: the worked minutes, which are the examples marked P.
use Rattle.tool06.specs.declared.figures.Figures.{Figures}
use Rattle.refusals.specs.declared.refusal.Refusal.{Refusal}
use Rattle.std.specs.Prelude.{Result, Ok, Err, ℕ, ◌+◌, ◌≡◌, true, false, List, [], ◌∷◌, map, pos}
use Rattle.site.specs.Rules.{site_lines}
use Rattle.site.specs.declared.Site.{Site}
use Rattle.minute.specs.declared.gas.Gas.{Gas}
use Rattle.minute.specs.declared.Minute.{Minute}
use Rattle.refusals.specs.Tables.{first_of}
use Rattle.refusals.specs.declared.refusal.Refusal.TheVariants.{Oxygen}
use Rattle.tool06.specs.Judged.{judged}
use Rattle.tool06.specs.Tool.{Masses, Positive}
use Rattle.worked.specs.declared.Example.{Example}

-- R67: a flare 1,000 mm wide of this method (0 default, 1 measured) and height in mm
abbrev pub flare : ℕ → ℕ → Site
flare method height = record {
  method = method;
  year = 2027;
  gwp = 28;
  height = height;
  diameter = 1000;
  temperature = record { lowest = pos 5000; highest = pos 12000 };
  flow = record { lowest = 1; highest = 100000 };
  days = 365;
}

abbrev open_flare : Site
open_flare = flare 0 2000

abbrev low_default : Site
low_default = flare 0 10000

abbrev tall_default : Site
tall_default = flare 0 10001

abbrev low_measured : Site
low_measured = flare 1 10000

abbrev tall_measured : Site
tall_measured = flare 1 10001

-- R10: what each flag is worth
abbrev flame : ℕ
flame = 1

abbrev temperature : ℕ
temperature = 2

abbrev exhaust : ℕ
exhaust = 4

-- R67: a minute at 800 degrees, "inside the specification", with exhaust readings: "a 90,000", and f
abbrev pub reading : ℕ → ℕ → Gas → ℕ → Minute
reading flags litres g f = record {
  number = 0;
  flags = flags;
  temperature = pos 8000;
  litres = litres;
  gas = g;
  exhaust = record { oxygen = 90000; methane = f };
}

-- R67: "Enclosed lines: lit, inside the specification, readings present"; the open ones have the same readings
abbrev lit : ℕ → Gas → ℕ → Minute
lit litres g f = reading (flame + temperature + exhaust) litres g f

abbrev unlit : ℕ → Gas → ℕ → Minute
unlit litres g f = reading (temperature + exhaust) litres g f

-- R67: ppm of CH4, CO2, O2 and N2
abbrev pub gas : ℕ → ℕ → ℕ → ℕ → Gas
gas ch4 co2 o2 n2 = record { ch4 = ch4; co = 0; co2 = co2; o2 = o2; h2 = 0; h2s = 0; nh3 = 0; n2 = n2 }

-- R67: "Gas G: 1,000 litres, CH4 600,000, CO2 400,000"
abbrev G : Gas
G = gas 600000 400000 0 0

-- R67: the rule, and fed, emitted and destroyed in mg
abbrev pub answers : ℕ → ℕ → ℕ → ℕ → Result Figures Refusal
answers rule fed emitted destroyed = Ok (record { rule = rule; fed = fed; emitted = emitted; destroyed = destroyed })

-- R67: a line of the table: a site, a minute, and what it answers
abbrev pub line : Site → Minute → Result Figures Refusal → Example
line site minute answer = record { site = site; minute = minute; answer = answer }

-- R67: G with f 100 where a line says no other gas or f; "fed 429,600 mg; answers are emitted, destroyed"
unfoldable pub table : List Example
table =
    -- "open, flame: 214,800, 214,800."
    line open_flare (lit 1000 G 100) (answers 2 429600 214800 214800)
    -- "no flame: 429,600, 0."
    ∷ line open_flare (unlit 1000 G 100) (answers 1 429600 429600 0)
    -- "tall default: 42,960, 386,640."
    ∷ line tall_default (lit 1000 G 100) (answers 3 429600 42960 386640)
    -- "low default: 85,920, 343,680."
    ∷ line low_default (lit 1000 G 100) (answers 3 429600 85920 343680)
    -- "1 litre, CH4 500,001, N2 499,999, open, flame: fed 359; 180, 179."
    ∷ line open_flare (lit 1 (gas 500001 0 0 499999) 100) (answers 2 359 180 179)
    -- "tall default: 36, 322, one short of fed."
    ∷ line tall_default (lit 1 (gas 500001 0 0 499999) 100) (answers 3 359 36 322)
    -- "measured tall, a 90,000, f 100: 965, 428,635."
    ∷ line tall_measured (lit 1000 G 100) (answers 9 429600 965 428635)
    -- "low: 43,925, 385,675."
    ∷ line low_measured (lit 1000 G 100) (answers 9 429600 43925 385675)
    -- "f 50,000: 429,600, 0."
    ∷ line tall_measured (lit 1000 G 50000) (answers 9 429600 429600 0)
    -- "low, f 40,000: 428,960, 640."
    ∷ line low_measured (lit 1000 G 40000) (answers 9 429600 428960 640)
    -- "CH4 100,000, O2 200,000, N2 700,000, measured: S is 0, accepted."
    ∷ line tall_measured (lit 1000 (gas 100000 0 200000 700000) 100) (answers 9 71600 140 71460)
    -- "O2 200,001, N2 699,999: OXYGEN."
    ∷ line tall_measured (lit 1000 (gas 100000 0 200001 699999) 100) (Err Oxygen)
    ∷ []

-- R67: each line's site is not refused, and its minute, in order and with maintenance in time, answers what the line says, for any positive masses
abbrev pub TableHolds : Type 0
TableHolds =
    (map (λ x. first_of (site_lines x.site)) table ≡ map (λ x. (Ok tt)) table)
    × ((m : Masses) → Positive m → map (λ x. judged m false x.site x.minute true) table ≡ map (λ x. x.answer) table)
