-- The list as it is kept.
use Prim.Native.Nat.{ℕ, ◌-◌, min}
use mathlib.Core.Path.{◌≡◌, refl, sym, ap, ◌∙◌}
use mathlib.Core.List.{List, ◌++◌}
use native.Mathlib.Omega.{arith}
use lib.IntN.{ℤ, pos}
use lib.ListN.{length, take, drop, replicate, length-take}
use lib.Seq.{take-take, take-length}
use Rattle.std.proofs.lemmas.List.{drop-replicate}
use Rattle.maintenance.specs.Days.{maintenance_of}
use Rattle.maintenance.specs.declared.list.Maintenance.{Maintenance}

-- so many as the list has, at most 64, are all of them
pub all_kept : (days : List ℤ) (n : ℕ) → n ≡ min (length days) 64 → ◌≡◌ {A = Maintenance} (record { days = take n days ++ drop n (replicate 64 (pos 0)); listed = length days }) (maintenance_of days)
unfolding maintenance_of
all_kept days n e =
    let kept : length (take 64 days) ≡ n = rw length-take (omega arith) in
    let same : take n days ≡ take 64 days = sym (take-take n 64 days (omega arith)) ∙ rw (← kept) (take-length (take 64 days)) in
    let rest : drop n (replicate 64 (pos 0)) ≡ replicate (64 - length days) (pos 0) = rw drop-replicate (ap (λ (m : ℕ). replicate m (pos 0)) (omega arith)) in
    rw (same, rest) refl
