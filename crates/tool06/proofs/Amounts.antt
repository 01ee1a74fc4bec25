-- What a minute emits and destroys, exactly and rounded, from the whole nanograms of the code.
use Rattle.std.specs.Prelude.{Result, Ok, Err}
use Rattle.refusals.specs.declared.refusal.Refusal.{Refusal}
use mathlib.Core.Path.{◌≡◌, refl, sym, ap, ◌∙◌}
use mathlib.Core.Bool.{Bool, true, false}
use Prim.Native.Nat.{ℕ, ◌-◌, ◌*◌, ◌/◌, ◌≤◌, ◌<◌}
use native.Mathlib.Nat.{mul-pos, mul-le-mul_right}
use native.Mathlib.Omega.{arith}
use Rattle.exact.specs.Rounding.{ceil_div}
use Rattle.exact.specs.RoundingLaws.{ceil_le}
use Rattle.exact.specs.Fractions.{◌⊗◌, ◌⊘◌, whole, round_up, round_down}
use Rattle.exact.proofs.Fractions.{⊗-comm, ⊗-zero}
use Rattle.exact.proofs.Ratios.{ratio-≡, ratio-⊗, ratio-⊗-whole, one_minus}
use Rattle.exact.proofs.RoundedFractions.{up_ratio, down_ratio}
use Rattle.exact.proofs.Rounding.{ceil_ceil, floor_sub_ceil}
use Rattle.refusals.specs.Tables.{first_of}
use Rattle.records.specs.House.{answered}
use Rattle.site.specs.Rules.{Examined}
use Rattle.site.specs.declared.Site.{Site}
use Rattle.minute.specs.Rules.{has_gas}
use Rattle.minute.specs.declared.Minute.{Minute}
use Rattle.tool06.specs.declared.loss.Loss.{Loss}
use Rattle.tool06.specs.declared.loss.Loss.TheVariants.{Share, Measured}
use Rattle.tool06.specs.Figures.{mg, emitted_by, destroyed_by, applied, exact_fed, exact_emitted, exact_destroyed, figures}
use Rattle.tool06.specs.Judged.{judged_lines, judged}
use Rattle.tool06.specs.scaffold.Nanograms.{per_of, lost_of, emitted_ng, Takes, figures_ng, judged_ng}
use Rattle.tool06.specs.Rules.{the_rule}
use Rattle.tool06.specs.Short.{F_RG_ng}
use Rattle.tool06.specs.Tool.{Masses, Positive, F_CH4_RG}
use Rattle.tool06.proofs.Efficiency.{fed_is, zero_ratio, F_pos, rule_fits, applied-exactly}
use Rattle.tool06.proofs.Facts.{Facts, facts, no_gas, rule_takes}

-- n / (F q) of F nanograms, in mg
scaled : (n F q : ℕ) → 0 < F → 0 < q → mg (whole n ⊘ whole (F * q) ⊗ (whole F ⊘ whole 1000000000000)) ≡ whole n ⊘ whole (q * 1000000)
unfolding mg
scaled n F q hF hq =
    let h : 0 < F * q * 1000000000000 = mul-pos (mul-pos hF hq) (omega arith) in
    rw (ratio-⊗ n (F * q) F 1000000000000 (mul-pos hF hq) (omega arith), ratio-⊗-whole (n * F) (F * q * 1000000000000) 1000000 h)
    (ratio-≡ (n * F * 1000000) (F * q * 1000000000000) n (q * 1000000) h (omega arith) (omega arith))

pub fed_exact : (m : Masses) (s : Site) (n : Minute) (in_time : Bool) → exact_fed m s n in_time ≡ whole (F_RG_ng n) ⊘ whole 1000000
unfolding exact_fed mg
fed_exact m s n in_time =
    rw (fed_is n, ratio-⊗-whole (F_RG_ng n) 1000000000000 1000000 (omega arith))
    (ratio-≡ (F_RG_ng n * 1000000) 1000000000000 (F_RG_ng n) 1000000 (omega arith) (omega arith) (omega arith))

per_pos : (loss : Loss) (n : Minute) → n.exhaust.oxygen ≤ 209999 → 0 < per_of loss n
per_pos (Share l) n o = omega arith
per_pos (Measured t) n o = omega arith

lost_within : (loss : Loss) (n : Minute) → Takes loss n → lost_of loss n ≤ F_RG_ng n * per_of loss n
lost_within (Share l) n h = let k = mul-le-mul_right (F_RG_ng n) h in omega arith
lost_within (Measured t) n h = omega arith

-- no more is emitted than is fed
pub emitted_within : (loss : Loss) (n : Minute) → n.exhaust.oxygen ≤ 209999 → Takes loss n → emitted_ng loss n ≤ F_RG_ng n
unfolding emitted_ng
emitted_within loss n o h = (ceil_le (lost_of loss n) (per_of loss n) (F_RG_ng n) (per_pos loss n o)).1 (lost_within loss n h)

-- each figure is rounded from the tool's own fraction
pub rounded_exactly : (m : Masses) (s : Site) (n : Minute) (in_time : Bool) → figures m s n in_time ≡ record {
  rule = (the_rule s n in_time).number;
  fed = round_up (exact_fed m s n in_time);
  emitted = round_up (exact_emitted m s n in_time);
  destroyed = round_down (exact_destroyed m s n in_time);
}
unfolding figures exact_emitted exact_destroyed
rounded_exactly m s n in_time = rw (applied-exactly m s n in_time)

-- a minute with gas
module _ (m : Masses) (pos : Positive m) {s : Site} {n : Minute} (f : Facts s n) (gas : has_gas n ≡ true) (in_time : Bool) where
  abbrev F : ℕ
  F = F_RG_ng n

  abbrev loss : Loss
  loss = (the_rule s n in_time).loss

  -- nanograms emitted are p / q
  abbrev pub q : ℕ
  q = per_of loss n

  abbrev pub p : ℕ
  p = lost_of loss n

  pub q_pos : 0 < q
  q_pos = (rule_fits m pos f gas in_time).0

  p_within : p ≤ F * q
  p_within = (rule_fits m pos f gas in_time).1

  Fq_pos : 0 < F * q
  Fq_pos = mul-pos (F_pos m pos f gas) q_pos

  applied_is : applied m s n in_time ≡ whole (F * q - p) ⊘ whole (F * q)
  applied_is = (rule_fits m pos f gas in_time).2

  emitted_is : emitted_by (applied m s n in_time) n ≡ whole p ⊘ whole (q * 1000000)
  emitted_is =
      rw (applied_is, one_minus (F * q - p) p (F * q) Fq_pos (let h = p_within in omega arith), fed_is n) (scaled p F q (F_pos m pos f gas) q_pos)

  destroyed_is : destroyed_by (applied m s n in_time) n ≡ whole (F * q - p) ⊘ whole (q * 1000000)
  destroyed_is = rw (applied_is, fed_is n) (scaled (F * q - p) F q (F_pos m pos f gas) q_pos)

  pub emitted_exact : exact_emitted m s n in_time ≡ whole p ⊘ whole (q * 1000000)
  unfolding exact_emitted
  emitted_exact = rw (← applied-exactly m s n in_time) emitted_is

  pub destroyed_exact : exact_destroyed m s n in_time ≡ whole (F * q - p) ⊘ whole (q * 1000000)
  unfolding exact_destroyed
  destroyed_exact = rw (← applied-exactly m s n in_time) destroyed_is

  fed_rounded : round_up (exact_fed m s n in_time) ≡ ceil_div F 1000000
  fed_rounded = rw (fed_exact m s n in_time) (up_ratio F 1000000 (omega arith))

  emitted_rounded : round_up (emitted_by (applied m s n in_time) n) ≡ ceil_div (emitted_ng loss n) 1000000
  unfolding emitted_ng
  emitted_rounded =
      rw emitted_is (up_ratio p (q * 1000000) (let h = q_pos in omega arith) ∙ sym (ceil_ceil p q 1000000 q_pos (omega arith)))

  destroyed_rounded : round_down (destroyed_by (applied m s n in_time) n) ≡ (F - emitted_ng loss n) / 1000000
  unfolding emitted_ng
  destroyed_rounded =
      rw destroyed_is (down_ratio (F * q - p) (q * 1000000) (let h = q_pos in omega arith) ∙ sym (floor_sub_ceil F p q 1000000 q_pos (omega arith) p_within))

  same_with_gas : figures_ng s n in_time ≡ figures m s n in_time
  unfolding figures figures_ng
  same_with_gas = rw (fed_rounded, emitted_rounded, destroyed_rounded)

-- a minute without gas
module _ (m : Masses) (s : Site) (n : Minute) (none : has_gas n ≡ false) (in_time : Bool) where
  F_none : F_RG_ng n ≡ 0
  F_none = rw (no_gas n none) (omega arith)

  F_zero : F_CH4_RG n ≡ whole 0
  F_zero = rw (fed_is n, F_none) (zero_ratio 1000000000000 (omega arith))

  pub fed_zero : exact_fed m s n in_time ≡ whole 0
  unfolding exact_fed mg
  fed_zero = rw (F_zero, ⊗-comm, ⊗-zero)

  pub emitted_zero : exact_emitted m s n in_time ≡ whole 0
  unfolding exact_emitted mg
  emitted_zero = rw (F_zero, ⊗-zero, ⊗-comm, ⊗-zero)

  pub destroyed_zero : exact_destroyed m s n in_time ≡ whole 0
  unfolding exact_destroyed mg
  destroyed_zero = rw (F_zero, ⊗-zero, ⊗-comm, ⊗-zero)

  emitted_ng_zero : Facts s n → emitted_ng (the_rule s n in_time).loss n ≡ 0
  emitted_ng_zero f =
      let l = emitted_within (the_rule s n in_time).loss n f.oxygen (rule_takes f in_time) in
      let e = F_none in
      omega arith

  same_without_gas : Facts s n → figures_ng s n in_time ≡ figures m s n in_time
  unfolding figures_ng round_up round_down whole ceil_div
  same_without_gas f = rw (rounded_exactly m s n in_time, fed_zero, emitted_zero, destroyed_zero, F_none, emitted_ng_zero f)

-- the figures that the code computes are the exact fractions, each rounded once
pub same_figures : (m : Masses) → Positive m → {s : Site} {n : Minute} → Facts s n → (in_time : Bool) → figures_ng s n in_time ≡ figures m s n in_time
same_figures m pos {s} {n} f in_time = by-gas (has_gas n) refl
  where
    by-gas : (gas : Bool) → has_gas n ≡ gas → figures_ng s n in_time ≡ figures m s n in_time
    by-gas true gas = same_with_gas m pos f gas in_time
    by-gas false none = same_without_gas m s n none in_time f

pub same_judged : (m : Masses) → Positive m → (disordered : Bool) (s : Site) (n : Minute) (in_time : Bool) → Examined s → judged_ng disordered s n in_time ≡ judged m disordered s n in_time
unfolding judged judged_ng
same_judged m pos disordered s n in_time examined = by-verdict (first_of (judged_lines disordered s n)) refl
  where
    by-verdict : (v : Result Unit Refusal) → first_of (judged_lines disordered s n) ≡ v → answered (figures_ng s n in_time) v ≡ answered (figures m s n in_time) v
    by-verdict (Ok tt) fine = ap Ok (same_figures m pos (facts disordered s n examined fine) in_time)
    by-verdict (Err r) refused = refl
