-- Bounds add up.
use mathlib.Core.Path.{◌≡◌, refl}
use mathlib.Core.List.{List, ◌∷◌}
use Prim.Native.Nat.{ℕ, zero, suc, ◌+◌, ◌<◌}
use native.Mathlib.Omega.{arith}
use Rattle.exact.specs.Fractions.{Frac, ◌⊕◌, whole, ◌≼◌, ◌≺◌}
use Rattle.exact.proofs.Fractions.{⊕-comm, ⊕-zero, add-ac, whole-⊕}
use Rattle.exact.proofs.Order.{≼_refl, ≺-≼, ⊕-mono, ⊕-smono}
use Rattle.sums.specs.Bounds.{Exact, exact_none, exact_sums, Bounds}
use Rattle.sums.specs.Sums.{no_sums, ◌⊞◌, total}
use Rattle.sums.specs.declared.Sums.{Sums}

-- x is equal to y where N is 0, and else less than N and the slack above it
record Near (N : ℕ) (slack x y : Frac) : Type 0 where
  equal : N ≡ 0 → (x ≡ y) × (slack ≡ whole 0)
  below : 0 < N → x ≺ y ⊕ (whole N ⊕ slack)

at_most_lem : {N : ℕ} {a x y : Frac} → Near N a x y → x ≼ y ⊕ (whole N ⊕ a)
at_most_lem {N} {a} {x} {y} near = by_N N refl
  where
    by_N : (k : ℕ) → N ≡ k → x ≼ y ⊕ (whole N ⊕ a)
    by_N zero is = rw ((near.equal is).0, (near.equal is).1, is, ⊕-zero (whole 0), ⊕-zero) (≼_refl y)
    by_N (suc k) is = ≺-≼ _ _ (near.below (omega arith))

regroup : (y m a w n b : Frac) → y ⊕ (m ⊕ a) ⊕ (w ⊕ (n ⊕ b)) ≡ y ⊕ w ⊕ (m ⊕ n ⊕ (a ⊕ b))
regroup y m a w n b = simp add-ac

near_add : {M N : ℕ} {a b x y z w : Frac} → Near M a x y → Near N b z w → Near (M + N) (a ⊕ b) (x ⊕ z) (y ⊕ w)
near_add {M} {N} {a} {b} {x} {y} {z} {w} p q = record {
  equal = λ none. (rw ((p.equal (omega arith)).0, (q.equal (omega arith)).0), rw ((p.equal (omega arith)).1, (q.equal (omega arith)).1) (⊕-zero (whole 0)));
  below = λ some. by_M M refl some;
}
  where
    first : 0 < M → x ⊕ z ≺ y ⊕ (whole M ⊕ a) ⊕ (w ⊕ (whole N ⊕ b))
    first m = ⊕-smono _ _ _ _ (p.below m) (at_most_lem q)

    second : 0 < N → x ⊕ z ≺ y ⊕ (whole M ⊕ a) ⊕ (w ⊕ (whole N ⊕ b))
    second n = rw (⊕-comm x z, ⊕-comm (y ⊕ (whole M ⊕ a)) (w ⊕ (whole N ⊕ b))) (⊕-smono _ _ _ _ (q.below n) (at_most_lem p))

    by_M : (k : ℕ) → M ≡ k → 0 < M + N → x ⊕ z ≺ y ⊕ w ⊕ (whole (M + N) ⊕ (a ⊕ b))
    by_M zero is some = rw (← whole-⊕ M N, ← regroup) (second (omega arith))
    by_M (suc k) is some = rw (← whole-⊕ M N, ← regroup) (first (omega arith))

module _ {s : Sums} {x : Exact} (b : Bounds s x) where
  emitted_is_near : Near s.gas x.slack (whole s.emitted) x.emitted
  emitted_is_near = record { equal = λ none. let z = b.no_gas none in (rw (z.1, z.3), rw z.3); below = b.emitted_near }

  destroyed_is_near : Near s.gas x.slack x.destroyed (whole s.destroyed)
  destroyed_is_near = record { equal = λ none. let z = b.no_gas none in (rw (z.2, z.3), rw z.3); below = b.destroyed_near }

-- both together, each by itself
abbrev exact_plus : Exact → Exact → Exact
exact_plus x y = record { emitted = x.emitted ⊕ y.emitted; destroyed = x.destroyed ⊕ y.destroyed; slack = x.slack ⊕ y.slack }

bounds_add : {s t : Sums} {x y : Exact} → Bounds s x → Bounds t y → Bounds (s ⊞ t) (exact_plus x y)
unfolding ◌⊞◌
bounds_add {s} {t} {x} {y} a b =
    let p = a.together_within in
    let p' = b.together_within in
    let q = a.together_near in
    let q' = b.together_near in
    record {
      no_gas = λ none.
          let z = a.no_gas (omega arith) in
          let z' = b.no_gas (omega arith) in
          (rw (z.0, z'.0), rw (z.1, z'.1), rw (z.2, z'.2), rw (z.3, z'.3, ⊕-zero (whole 0)));
      emitted_not_below = rw (← whole-⊕ s.emitted t.emitted) (⊕-mono _ _ _ _ a.emitted_not_below b.emitted_not_below);
      emitted_near = rw (← whole-⊕ s.emitted t.emitted) (near_add (emitted_is_near a) (emitted_is_near b)).below;
      destroyed_not_above = rw (← whole-⊕ s.destroyed t.destroyed) (⊕-mono _ _ _ _ a.destroyed_not_above b.destroyed_not_above);
      destroyed_near = rw (← whole-⊕ s.destroyed t.destroyed) (near_add (destroyed_is_near a) (destroyed_is_near b)).below;
      together_within = omega arith;
      together_near = omega arith;
    }

-- of minutes without methane, however many
pub no_methane : (minutes : ℕ) → Bounds (record { minutes = minutes; gas = 0; fed = 0; emitted = 0; destroyed = 0 }) exact_none
no_methane minutes = record {
  no_gas = λ is. (refl, refl, refl, refl);
  emitted_not_below = ≼_refl (whole 0);
  emitted_near = λ some. absurd (omega arith);
  destroyed_not_above = ≼_refl (whole 0);
  destroyed_near = λ some. absurd (omega arith);
  together_within = omega arith;
  together_near = omega arith;
}

pub no_bounds : Bounds no_sums exact_none
unfolding no_sums
no_bounds = no_methane 0

-- of one entry and a list of them
pub bounds_more : {A : Type 0} (w : A → Sums) (x : A → Exact) (e : A) (es : List A) → Bounds (w e) (x e) → Bounds (total w es) (exact_sums x es) → Bounds (total w (e ∷ es)) (exact_sums x (e ∷ es))
bounds_more w x e es one rest = bounds_add one rest
