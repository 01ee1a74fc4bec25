-- R86: demand 3, what sums are beside the exact sums.
use Rattle.std.specs.Prelude.{◌≡◌, List, [], ◌∷◌, ◌+◌, ◌≤◌, ◌<◌}
use Rattle.exact.specs.Fractions.{Frac, ◌⊕◌, whole, ◌≼◌, ◌≺◌}
use Rattle.sums.specs.declared.Sums.{Sums}

-- R86: the exact sums; and the slack, by which a rounding before the figures' own widens the bounds, 0 where there is none
pub record Exact : Type 0 where
  pub emitted : Frac
  pub destroyed : Frac
  pub slack : Frac

-- R86: of no gas
abbrev pub exact_none : Exact
exact_none = record { emitted = whole 0; destroyed = whole 0; slack = whole 0 }

-- R86, R87: an exact sum over a list of entries of any kind
abbrev pub exact_total : {A : Type 0} → (A → Frac) → List A → Frac
exact_total x [] = whole 0
exact_total x (e ∷ es) = x e ⊕ exact_total x es

-- R86: the exact sums over a list of entries, of which each is exactly x
abbrev pub exact_sums : {A : Type 0} → (A → Exact) → List A → Exact
exact_sums x es = record {
  emitted = exact_total (λ e. (x e).emitted) es;
  destroyed = exact_total (λ e. (x e).destroyed) es;
  slack = exact_total (λ e. (x e).slack) es;
}

-- R86: sums in mg beside the exact sums, N being the minutes with gas
pub record Bounds (s : Sums) (x : Exact) : Type 0 where
  -- "no gas, all sums zero"
  pub no_gas : s.gas ≡ 0 → (s.fed ≡ 0) × (s.emitted ≡ 0) × (s.destroyed ≡ 0) × (x ≡ exact_none)
  -- "emitted is never below the exact sum .."
  pub emitted_not_below : x.emitted ≼ whole s.emitted
  -- ".. and less than N mg above"
  pub emitted_near : 0 < s.gas → whole s.emitted ≺ x.emitted ⊕ (whole s.gas ⊕ x.slack)
  -- "destroyed never above .."
  pub destroyed_not_above : whole s.destroyed ≼ x.destroyed
  -- ".. and less than N below"
  pub destroyed_near : 0 < s.gas → x.destroyed ≺ whole s.destroyed ⊕ (whole s.gas ⊕ x.slack)
  -- "the two together never exceed fed .."
  pub together_within : s.emitted + s.destroyed ≤ s.fed
  -- ".. and fall short by at most N"
  pub together_near : s.fed ≤ s.emitted + s.destroyed + s.gas
