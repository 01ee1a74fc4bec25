-- R47 to R49: CO2 equivalent, closing, and a chart point.
use Rattle.refusals.specs.declared.refusal.Refusal.{Refusal}
use Rattle.std.specs.Prelude.{Result, ℕ, ◌*◌, not, [], ◌∷◌}
use Rattle.exact.specs.Rounding.{ceil_div}
use Rattle.refusals.specs.Tables.{when, first_of}
use Rattle.refusals.specs.declared.refusal.Refusal.TheVariants.{Incomplete}
use Rattle.records.specs.House.{answered}
use Rattle.tonnes.specs.Tonnes.{in_tonnes}
use Rattle.due.specs.Answer.{is_full}
use Rattle.account.specs.Adding.{due}
use Rattle.account.specs.declared.Account.{Account}
use Rattle.account.specs.declared.close.Point.{Point}

-- R47: "CO2 equivalent, in mg, is GWP times the emitted sum"
unfoldable pub co2e : Account → ℕ
co2e a = a.site.gwp * a.sums.emitted

-- R48: "Closing gives tonnes CO2 equivalent, rounded up, once every minute is in", else 20
unfoldable pub closing : Account → Result ℕ Refusal
closing a = answered (ceil_div (co2e a) 1000000000) (first_of (when (not (is_full (due a))) Incomplete ∷ []))

-- R49: "A chart point holds fed methane and CO2 equivalent in tonnes"
unfoldable pub chart : Account → Point
chart a = record { fed = in_tonnes a.sums.fed; co2e = in_tonnes (co2e a) }
