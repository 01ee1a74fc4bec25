-- R9 to R12, R51: the ranges of a minute's fields, and its refusals 12 to 18 in their order.
use Rattle.std.specs.Prelude.{ℕ, ◌+◌, ◌/◌, ◌%◌, ◌^◌, Bool, ◌||◌, ◌&&◌, not, List, [], ◌∷◌, ltb, leb, eqb, pos}
use Rattle.exact.specs.Ranges.{above, outside_z}
use Rattle.records.specs.Ranges.{temperature_outside, flow_outside}
use Rattle.refusals.specs.Tables.{Line, when}
use Rattle.refusals.specs.declared.refusal.Refusal.TheVariants.{Flags, Order, Flow, Composition, Methane, Temperature, Exhaust}
use Rattle.minute.specs.declared.gas.Gas.{Gas}
use Rattle.minute.specs.declared.Minute.{Minute}

-- R10: the flag that is worth so much in the flags' byte is on
abbrev pub is_on : ℕ → Minute → Bool
is_on worth n = eqb (n.flags / worth % 2) 1

-- R10: "bit 0 flame seen, bit 1 temperature present, bit 2 exhaust readings present": bit k is worth 2 ^ k
abbrev pub flag : ℕ → Minute → Bool
flag k n = is_on (2 ^ k) n

-- R10: bit 0
abbrev pub flame_seen : Minute → Bool
flame_seen n = flag 0 n

-- R10: bit 1
abbrev pub temperature_present : Minute → Bool
temperature_present n = flag 1 n

-- R10: bit 2, of both readings together
abbrev pub exhaust_present : Minute → Bool
exhaust_present n = flag 2 n

-- R12: gas, which is more than 0 litres
abbrev pub has_gas : Minute → Bool
has_gas n = ltb 0 n.litres

-- R10, R51: 12, "bits 3 to 7 not zero"
abbrev pub flags_wrong : Minute → Bool
flags_wrong n = above 7 n.flags

-- R9, R51: 14, "over 100,000"
abbrev pub flow_wrong : Minute → Bool
flow_wrong n = flow_outside n.litres

-- R9: the sum of the fractions
abbrev pub fraction_sum : Gas → ℕ
fraction_sum g = g.ch4 + g.co + g.co2 + g.o2 + g.h2 + g.h2s + g.nh3 + g.n2

-- R9, R51: 15, "a fraction over 1,000,000 .."
abbrev pub fraction_over : Gas → Bool
fraction_over g =
    above 1000000 g.ch4
    || above 1000000 g.co
    || above 1000000 g.co2
    || above 1000000 g.o2
    || above 1000000 g.h2
    || above 1000000 g.h2s
    || above 1000000 g.nh3
    || above 1000000 g.n2

-- R9, R51: 15, ".. or a sum not 1,000,000"
unfoldable pub composition_wrong : Gas → Bool
composition_wrong g = fraction_over g || not (eqb (fraction_sum g) 1000000)

-- R51: 16, "CH4 is 0 or below any of CO, H2, H2S, NH3"
abbrev pub methane_wrong : Gas → Bool
methane_wrong g =
    eqb g.ch4 0 || ltb g.ch4 g.co || ltb g.ch4 g.h2 || ltb g.ch4 g.h2s || ltb g.ch4 g.nh3

-- R11, R51: 17, "present outside -500..15,000, or absent and not 0"
abbrev pub temperature_wrong : Minute → Bool
temperature_wrong n =
    (temperature_present n && temperature_outside n.temperature)
    || (not (temperature_present n) && outside_z (pos 0) (pos 0) n.temperature)

-- R11, R51: 18, "present outside range, or absent and not both 0"
abbrev pub exhaust_wrong : Minute → Bool
exhaust_wrong n =
    (exhaust_present n && (above 209999 n.exhaust.oxygen || above 50000 n.exhaust.methane))
    || (not (exhaust_present n) && (above 0 n.exhaust.oxygen || above 0 n.exhaust.methane))

-- R12, R51: 12 to 18, with 13 where the minute is out of order in the caller's sense, and 15 and 16 only with gas
unfoldable pub minute_lines : Bool → Minute → List Line
minute_lines disordered n =
    when (flags_wrong n) Flags
    ∷ when disordered Order
    ∷ when (flow_wrong n) Flow
    ∷ when (has_gas n && composition_wrong n.gas) Composition
    ∷ when (has_gas n && methane_wrong n.gas) Methane
    ∷ when (temperature_wrong n) Temperature
    ∷ when (exhaust_wrong n) Exhaust
    ∷ []

-- R60, R61: a minute alone: "12, 13 when it is not below 527,040, 14 to 18"
abbrev pub alone_lines : Minute → List Line
alone_lines n = minute_lines (leb 527040 n.number) n
