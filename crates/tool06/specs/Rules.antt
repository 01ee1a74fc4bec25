-- R19 to R28: "Efficiency, by the first rule that applies".
use Rattle.std.specs.Prelude.{ℕ, ◌+◌, ◌*◌, Bool, true, false, not, List, [], ◌∷◌}
use Rattle.exact.specs.Fractions.{Frac, ◌⊖◌, ◌⊘◌, whole, at_least_zero}
use Rattle.exact.specs.Ranges.{outside, outside_z}
use Rattle.site.specs.Rules.{is_default, is_open}
use Rattle.site.specs.declared.Site.{Site}
use Rattle.minute.specs.Rules.{has_gas, flame_seen, temperature_present, exhaust_present}
use Rattle.minute.specs.declared.Minute.{Minute}
use Rattle.tool06.specs.declared.class.Class.{Class}
use Rattle.tool06.specs.declared.class.Class.TheVariants.{Open, Low, Tall}
use Rattle.tool06.specs.declared.loss.Loss.{Loss}
use Rattle.tool06.specs.declared.loss.Loss.TheVariants.{Share, Measured}
use Rattle.tool06.specs.declared.loss.Ruling.{Ruling}
use Rattle.tool06.specs.Class.{class_of}
use Rattle.tool06.specs.Tool.{Masses, η_calc}

-- R19: rule 0 to rule 9
abbrev pub rule_count : ℕ
rule_count = 10

-- R19: a rule: its number, and for any masses the efficiency that the tool gives exactly and the one that is applied
pub record Rule : Type 0 where
  pub number : ℕ
  pub exactly : Masses → Frac
  pub efficiency : Masses → Frac
  -- R44: what the code takes for lost: no figure here goes by it, and it is proved to leave the efficiency applied
  pub loss : Loss

-- R19: the rule of this number, whose efficiency is applied as the tool gives it, never rounded
abbrev pub rule : ℕ → (Masses → Frac) → Loss → Rule
rule k η loss = record { number = k; exactly = η; efficiency = η; loss = loss }

-- R19: what the code keeps of a rule
abbrev pub ruling : Rule → Ruling
ruling r = record { number = r.number; loss = r.loss }

-- R19: a line of the list: a rule, and when it applies
pub data RuleLine : Type 0 where
  when : Bool → Rule → RuleLine

-- R19: the first rule that applies, or else the last
abbrev pub first : List RuleLine → Rule → Rule
first [] last = last
first (when true r ∷ rest) last = r
first (when false r ∷ rest) last = first rest last

-- R3, R26: the tool's paragraphs 24 and 38: for low height flares "subtracting 10 percentile points"
abbrev pub lowered : Class → Frac → Frac
lowered Open η = η
lowered Low η = η ⊖ whole 1 ⊘ whole 10
lowered Tall η = η

-- R26: the same as tenths lost
abbrev pub low_tenth : Class → ℕ
low_tenth Open = 0
low_tenth Low = 1
low_tenth Tall = 0

-- R20, R21, R23, R24, R27: efficiency 0
abbrev pub nothing : Masses → Frac
nothing m = whole 0

-- R20, R21, R23, R24, R27: all is lost
abbrev pub all_lost : Loss
all_lost = Share 1000000

-- R22: 1/2, the tool's paragraph 19
abbrev pub half : Masses → Frac
half m = whole 1 ⊘ whole 2

-- R25: 9/10, low 8/10, the tool's paragraphs 22 and 24
abbrev pub by_default : Site → Masses → Frac
by_default s m = lowered (class_of s) (whole 9 ⊘ whole 10)

-- R28: the tool's paragraphs 29 and 38, and "never below 0"
abbrev pub measured : Site → Minute → Masses → Frac
measured s n m = at_least_zero (lowered (class_of s) (η_calc m n))

-- R24: "Ends of each specification range are inside"
abbrev pub temperature_unfit : Site → Minute → Bool
temperature_unfit s n = outside_z s.temperature.lowest s.temperature.highest n.temperature

-- R24: the same of the flow
abbrev pub flow_unfit : Site → Minute → Bool
flow_unfit s n = outside s.flow.lowest s.flow.highest n.litres

-- R19: the rules in their order, in which 3 stands after 6; the last column is the code's, and proved to leave the efficiency: nobody needs to believe it
unfoldable pub rule_lines : Site → Minute → Bool → List RuleLine
rule_lines s n in_time =
    -- R20: "no gas (0 litres)": no methane, so that any efficiency gives the same
    when (not (has_gas n)) (rule 0 nothing all_lost)
    -- R21: "no flame: 0"
    ∷ when (not (flame_seen n)) (rule 1 nothing all_lost)
    -- R22: "open: 1/2"
    ∷ when (is_open s) (rule 2 half (Share 500000))
    -- R23: "temperature missing: 0"
    ∷ when (not (temperature_present n)) (rule 4 nothing all_lost)
    -- R24: "temperature outside the specification: 0"
    ∷ when (temperature_unfit s n) (rule 5 nothing all_lost)
    -- R24: "flow outside it: 0"
    ∷ when (flow_unfit s n) (rule 6 nothing all_lost)
    -- R25: "default method: 9/10, low 8/10"
    ∷ when (is_default s) (rule 3 (by_default s) (Share (100000 + 100000 * low_tenth (class_of s))))
    -- R27: "maintenance overdue: 0"
    ∷ when (not in_time) (rule 7 nothing all_lost)
    -- R27: "exhaust readings missing: 0"
    ∷ when (not (exhaust_present n)) (rule 8 nothing all_lost)
    ∷ []

-- R28: "measured: one less F_EG/F_RG, low 1/10 less again, never below 0"
abbrev pub last_rule : Site → Minute → Rule
last_rule s n = rule 9 (measured s n) (Measured (low_tenth (class_of s)))

-- R19, R28: the first of these, or else the last
unfoldable pub the_rule : Site → Minute → Bool → Rule
the_rule s n in_time = first (rule_lines s n in_time) (last_rule s n)
