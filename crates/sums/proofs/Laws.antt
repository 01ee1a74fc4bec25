-- Sums are put together in any order and taken out again; totals go entry by entry.
use Prim.Native.Nat.{ℕ, ◌+◌, ◌-◌}
use mathlib.Core.Path.{◌≡◌, sym, ap, ◌∙◌}
use mathlib.Core.Bool.{Bool}
use mathlib.Core.List.{List, [], ◌∷◌, ◌++◌}
use native.Mathlib.Nat.{zero-add, add_comm, add_assoc}
use native.Mathlib.Omega.{arith}
use Rattle.sums.specs.Sums.{no_sums, ◌⊞◌, total, one_if, count}
use Rattle.sums.specs.Within.{Within}
use Rattle.sums.specs.scaffold.Less.{◌⊟◌}
use Rattle.sums.specs.declared.Sums.{Sums}

pub none-⊞ : (s : Sums) → no_sums ⊞ s ≡ s
unfolding no_sums ◌⊞◌
none-⊞ s = rw (zero-add s.minutes, zero-add s.gas, zero-add s.fed, zero-add s.emitted, zero-add s.destroyed)

pub ⊞-comm : (s t : Sums) → s ⊞ t ≡ t ⊞ s
unfolding ◌⊞◌
⊞-comm s t =
    rw (
      add_comm s.minutes t.minutes,
      add_comm s.gas t.gas,
      add_comm s.fed t.fed,
      add_comm s.emitted t.emitted,
      add_comm s.destroyed t.destroyed,
    )

pub ⊞-assoc : (s t u : Sums) → s ⊞ t ⊞ u ≡ s ⊞ (t ⊞ u)
unfolding ◌⊞◌
⊞-assoc s t u =
    rw (
      add_assoc s.minutes t.minutes u.minutes,
      add_assoc s.gas t.gas u.gas,
      add_assoc s.fed t.fed u.fed,
      add_assoc s.emitted t.emitted u.emitted,
      add_assoc s.destroyed t.destroyed u.destroyed,
    )

pub ⊞-none : (s : Sums) → s ⊞ no_sums ≡ s
⊞-none s = ⊞-comm s no_sums ∙ none-⊞ s

-- a part that was put in is taken out again
pub ⊞-⊟ : (s t : Sums) → s ⊞ t ⊟ t ≡ s
unfolding ◌⊞◌ ◌⊟◌
⊞-⊟ s t =
    let e : (x y : ℕ) → x + y - y ≡ x = λ x y. omega arith in
    rw (e s.minutes t.minutes, e s.gas t.gas, e s.fed t.fed, e s.emitted t.emitted, e s.destroyed t.destroyed)

module _ {A : Type 0} where
  -- of two lists, one after the other
  pub total-append : (w : A → Sums) (xs ys : List A) → total w (xs ++ ys) ≡ total w xs ⊞ total w ys
  total-append w [] ys = sym (none-⊞ (total w ys))
  total-append w (x ∷ xs) ys = ap (λ (s : Sums). w x ⊞ s) (total-append w xs ys) ∙ sym (⊞-assoc (w x) (total w xs) (total w ys))

  -- of one entry more
  pub total-more : (w : A → Sums) (xs : List A) (x : A) → total w (xs ++ (x ∷ [])) ≡ total w xs ⊞ w x
  total-more w xs x = total-append w xs (x ∷ []) ∙ ap (λ (s : Sums). total w xs ⊞ s) (⊞-none (w x))

  pub count-more : (test : A → Bool) (xs : List A) (x : A) → count test (xs ++ (x ∷ [])) ≡ count test xs + one_if (test x)
  count-more test [] x = omega arith
  count-more test (y ∷ xs) x = let h = count-more test xs x in omega arith

pub none_within : Within no_sums
unfolding no_sums
none_within = record { fed_within = omega arith; emitted_within = omega arith; destroyed_within = omega arith }

pub plus_within : {s t : Sums} → Within s → Within t → Within (s ⊞ t)
unfolding ◌⊞◌
plus_within {s} {t} a b = record {
  fed_within = omega (arith, a.fed_within, b.fed_within);
  emitted_within = omega (arith, a.emitted_within, b.emitted_within);
  destroyed_within = omega (arith, a.destroyed_within, b.destroyed_within);
}
