-- What the refusals leave: the facts of a minute that is accepted at a site.
use Rattle.std.specs.Prelude.{Ok}
use mathlib.Core.Path.{◌≡◌, refl}
use mathlib.Core.Logic.{⊎_elim}
use mathlib.Core.Bool.{Bool, true, false, ◌&&◌, ◌||◌, not}
use Prim.Native.Nat.{ℕ, zero, suc, ◌*◌, ◌≤◌, ◌<◌}
use lib.Dec.{eqb}
use native.Mathlib.Omega.{arith}
use borrow.Author.Tests.{ltb-true, ltb-false, eqb-true, eqb-false, not-false}
use Rattle.exact.specs.Ranges.{above}
use Rattle.exact.proofs.Bools.{and_false, or_false, either, other}
use Rattle.exact.proofs.Rounding.{mul-within}
use Rattle.refusals.specs.Tables.{first_of}
use Rattle.refusals.proofs.Tables.{split, none}
use Rattle.site.specs.Rules.{is_default, is_measured, site_lines, Examined}
use Rattle.site.specs.declared.Site.{Site}
use Rattle.minute.specs.Rules.{has_gas, exhaust_present, fraction_sum, fraction_over, composition_wrong, minute_lines}
use Rattle.minute.specs.declared.gas.Gas.{Gas}
use Rattle.minute.specs.declared.Minute.{Minute}
use Rattle.tool06.specs.declared.class.Class.{Class}
use Rattle.tool06.specs.declared.class.Class.TheVariants.{Open, Low, Tall}
use Rattle.tool06.specs.Class.{class_of}
use Rattle.tool06.specs.Judged.{oxygen_lines, judged_lines}
use Rattle.tool06.specs.scaffold.Nanograms.{Measurable, Takes}
use Rattle.tool06.specs.Rules.{low_tenth, rule_lines, last_rule, the_rule}
use Rattle.tool06.specs.Short.{S_plus, S_minus, S_negative, F_RG_ng}
use Rattle.tool06.proofs.Rules.{◌∣◌, end, by_rows}
use Rattle.tool06.proofs.Short.{K_positive}

pub low_within : (c : Class) → low_tenth c ≤ 1
low_within Open = omega arith
low_within Low = omega arith
low_within Tall = omega arith

pub record Facts (s : Site) (n : Minute) : Type 0 where
  pub method : is_default s ≡ false → is_measured s ≡ true
  pub flow : n.litres ≤ 100000
  pub composition : has_gas n ≡ true → fraction_sum n.gas ≡ 1000000
  pub some_methane : has_gas n ≡ true → 0 < n.gas.ch4
  pub oxygen : n.exhaust.oxygen ≤ 209999
  pub methane : n.exhaust.methane ≤ 50000
  pub air : has_gas n ≡ true → is_measured s ≡ true → exhaust_present n ≡ true → S_minus n.gas ≤ S_plus n.gas

whole-gas : (g : Gas) → composition_wrong g ≡ false → fraction_sum g ≡ 1000000
unfolding composition_wrong
whole-gas g e = eqb-true (fraction_sum g) 1000000 (not-false (eqb (fraction_sum g) 1000000) (or_false (fraction_over g) _ e).1)

not_none : (ch4 : ℕ) (a b c d : Bool) → (eqb ch4 0 || a || b || c || d) ≡ false → 0 < ch4
not_none zero a b c d e = absurd (eqb-false 0 0 (or_false _ a (or_false _ b (or_false _ c (or_false _ d e).0).0).0).0 refl)
not_none (suc k) a b c d e = omega arith

-- exhaust readings within their ranges, or absent and 0
readings : (present : Bool) (o m : ℕ) → ((present && (above 209999 o || above 50000 m)) || (not present && (above 0 o || above 0 m))) ≡ false → (o ≤ 209999) × (m ≤ 50000)
readings present o m e =
    ⊎_elim
    (λ w. within 209999 50000 w)
    (λ w. let a = within 0 0 w in (omega arith, omega arith))
    (either present (above 209999 o || above 50000 m) (above 0 o || above 0 m) e)
  where
    within : (a b : ℕ) → (above a o || above b m) ≡ false → (o ≤ a) × (m ≤ b)
    within a b w = let e = or_false (above a o) (above b m) w in (ltb-false a o e.0, ltb-false b m e.1)

pub facts : (disordered : Bool) (s : Site) (n : Minute) → Examined s → first_of (judged_lines disordered s n) ≡ Ok tt → Facts s n
unfolding site_lines minute_lines
facts disordered s n examined fine =
    let all = split (minute_lines disordered n) (oxygen_lines s n) fine in
    let fields = none (minute_lines disordered n) all.0 in
    let exhaust = readings (exhaust_present n) n.exhaust.oxygen n.exhaust.methane fields.1.1.1.1.1.1.0 in
    let oxygen = (none (oxygen_lines s n) all.1).0 in
    record {
      method = other (is_default s) (is_measured s) (none (site_lines s) examined).0;
      flow = ltb-false 100000 n.litres fields.1.1.0;
      composition = λ gas. whole-gas n.gas (and_false (has_gas n) _ fields.1.1.1.0 gas);
      some_methane = λ gas. not_none n.gas.ch4 _ _ _ _ (and_false (has_gas n) _ fields.1.1.1.1.0 gas);
      oxygen = exhaust.0;
      methane = exhaust.1;
      air = λ gas measured present.
          ltb-false (S_plus n.gas) (S_minus n.gas)
          (and_false (has_gas n && is_measured s && exhaust_present n) (S_negative n.gas) oxygen (rw (gas, measured, present)));
    }

-- 13 was not given
pub in_order : (disordered : Bool) (s : Site) (n : Minute) → first_of (judged_lines disordered s n) ≡ Ok tt → disordered ≡ false
unfolding minute_lines
in_order disordered s n fine =
    (none (minute_lines disordered n) (split (minute_lines disordered n) (oxygen_lines s n) fine).0).1.0

pub has-gas : (n : Minute) → has_gas n ≡ true → 0 < n.litres
has-gas n gas = ltb-true 0 n.litres gas

pub no_gas : (n : Minute) → has_gas n ≡ false → n.litres ≡ 0
no_gas n none = let l = ltb-false 0 n.litres none in omega arith

module _ {s : Site} {n : Minute} (f : Facts s n) where
  fed_by : (gas : Bool) → has_gas n ≡ gas → F_RG_ng n ≤ 71600000000000
  fed_by true gas =
      let l = f.flow in
      let c = f.composition gas in
      let h : F_RG_ng n ≤ 71600000 * 1000000 = mul-within (716 * n.litres) n.gas.ch4 71600000 1000000 (omega arith) (omega arith) in
      omega arith
  fed_by false none = rw (no_gas n none) (omega arith)

  -- 71.6 kg at most
  pub fed_within : F_RG_ng n ≤ 71600000000000
  fed_within = fed_by (has_gas n) refl

  pub measurable : has_gas n ≡ true → is_measured s ≡ true → exhaust_present n ≡ true → Measurable n
  measurable gas measured present =
      let c = f.composition gas in
      let k = K_positive n.gas (f.some_methane gas) (f.air gas measured present) in
      record { flow = f.flow; weight = omega arith; weight_within = omega arith; oxygen = f.oxygen; methane = f.methane }

  -- the code can take what each rule takes for lost
  pub rule_takes : (in_time : Bool) → Takes (the_rule s n in_time).loss n
  unfolding the_rule rule_lines
  rule_takes in_time =
      let all : 1000000 ≤ 1000000 = omega arith in
      by_rows (λ r. Takes r.loss n) (rule_lines s n in_time) (last_rule s n) (
      (λ e. all) ∣
      (λ e. all) ∣
      (λ e. omega arith) ∣
      (λ e. all) ∣
      (λ e. all) ∣
      (λ e. all) ∣
      (λ e. let l = low_within (class_of s) in omega arith) ∣
      (λ e. all) ∣
      (λ e. all) ∣
      end
      )
      (λ none. (low_within (class_of s), measurable (not-false (has_gas n) none.0) (f.method none.1.1.1.1.1.1.0) (not-false (exhaust_present n) none.1.1.1.1.1.1.1.1.0)))
