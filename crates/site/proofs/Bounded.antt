-- Limits by the order of their type are the rules' own.
use Rattle.std.specs.Prelude.{◌≡◌, ℕ, ℤ, Bool, ◌||◌, pos}
use Rattle.std.specs.Ordering.{partial_lt, as_partial_cmp, nat_cmp, int_cmp}
use Rattle.std.proofs.lemmas.Grind.{common_steps}
use native.Mathlib.Omega.{arith}
use Rattle.exact.specs.Ranges.{minus, outside, outside_z}
use Rattle.site.specs.Rules.{temperatures_wrong, flows_wrong}
use Rattle.site.specs.declared.limits.Limits.{Limits}

-- as `Limits::wrong` says it
abbrev pub wrong : {T : Type 0} → (T → T → Bool) → T → T → Limits T → Bool
wrong lt least most l = lt l.lowest least || lt most l.lowest || (lt l.highest least || lt most l.highest) || lt l.highest l.lowest

pub flows : (l : Limits ℕ) → wrong (partial_lt (as_partial_cmp nat_cmp)) 0 100000 l ≡ flows_wrong l
flows l = grind (arith, common_steps)

pub temperatures : (l : Limits ℤ) → wrong (partial_lt (as_partial_cmp int_cmp)) (minus 500) (pos 15000) l ≡ temperatures_wrong l
temperatures l = grind (arith, common_steps)

-- as `Limits::exclude` says it
abbrev pub excluded : {T : Type 0} → (T → T → Bool) → Limits T → T → Bool
excluded lt l x = lt x l.lowest || lt l.highest x

pub flow_excluded : (l : Limits ℕ) (x : ℕ) → excluded (partial_lt (as_partial_cmp nat_cmp)) l x ≡ outside l.lowest l.highest x
flow_excluded l x = grind (arith, common_steps)

pub temperature_excluded : (l : Limits ℤ) (x : ℤ) → excluded (partial_lt (as_partial_cmp int_cmp)) l x ≡ outside_z l.lowest l.highest x
temperature_excluded l x = grind (arith, common_steps)
