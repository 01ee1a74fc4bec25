-- The whole nanograms that the code carries, rounded up once.
-- Nothing here needs to be believed: the code's figures are proved to be those of Figures.antt.
use Rattle.refusals.specs.declared.refusal.Refusal.{Refusal}
use Rattle.std.specs.Prelude.{Result, ℕ, ◌+◌, ◌-◌, ◌*◌, ◌/◌, ◌≤◌, min, Bool}
use Rattle.exact.specs.Rounding.{ceil_div}
use Rattle.refusals.specs.Tables.{first_of}
use Rattle.records.specs.House.{answered}
use Rattle.site.specs.declared.Site.{Site}
use Rattle.minute.specs.declared.Minute.{Minute}
use Rattle.tool06.specs.declared.figures.Figures.{Figures}
use Rattle.tool06.specs.declared.loss.Loss.{Loss}
use Rattle.tool06.specs.declared.loss.Loss.TheVariants.{Share, Measured}
use Rattle.tool06.specs.Judged.{judged_lines}
use Rattle.tool06.specs.Rules.{the_rule}
use Rattle.tool06.specs.Short.{K, K_plus, K_minus, D, F_RG_ng, five_LKf}

-- what the exhaust carries by the short form is multiplied by P / Q
abbrev pub P : ℕ
P = 1

abbrev pub Q : ℕ
Q = 1

-- nanograms lost are lost_of / per_of: so many millionths of what is fed, or 5 L K f P / (2 D Q) and so many tenths of it, at most what is fed
abbrev pub per_of : Loss → Minute → ℕ
per_of (Share l) n = 1000000
per_of (Measured t) n = 10 * (Q * D n)

abbrev pub lost_of : Loss → Minute → ℕ
lost_of (Share l) n = l * F_RG_ng n
lost_of (Measured t) n = min (5 * (five_LKf n * P) + Q * (D n * (t * F_RG_ng n))) (F_RG_ng n * (10 * (Q * D n)))

-- rounded up once
unfoldable pub emitted_ng : Loss → Minute → ℕ
emitted_ng loss n = ceil_div (lost_of loss n) (per_of loss n)

-- what was examined before a minute's exhaust is measured
pub record Measurable (n : Minute) : Type 0 where
  pub flow : n.litres ≤ 100000
  pub weight : K_minus n.gas ≤ K_plus n.gas
  pub weight_within : K n.gas ≤ 716000000
  pub oxygen : n.exhaust.oxygen ≤ 209999
  pub methane : n.exhaust.methane ≤ 50000

-- a loss that the code can take of a minute
abbrev pub Takes : Loss → Minute → Type 0
Takes (Share l) n = l ≤ 1000000
Takes (Measured t) n = (t ≤ 1) × Measurable n

-- the figures in mg from whole nanograms
unfoldable pub figures_ng : Site → Minute → Bool → Figures
figures_ng s n in_time =
    let E = emitted_ng (the_rule s n in_time).loss n in
    record {
      rule = (the_rule s n in_time).number;
      fed = ceil_div (F_RG_ng n) 1000000;
      emitted = ceil_div E 1000000;
      destroyed = (F_RG_ng n - E) / 1000000;
    }

unfoldable pub judged_ng : Bool → Site → Minute → Bool → Result Figures Refusal
judged_ng disordered s n in_time = answered (figures_ng s n in_time) (first_of (judged_lines disordered s n))
