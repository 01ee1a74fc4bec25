use Prim.Native.Nat.{ℕ, ◌-◌, ◌/◌}
use mathlib.Core.Path.{◌≡◌, ap, ◌∙◌}
use lib.ListN.{take}
use native.Mathlib.Omega.{arith}
use Rattle.due.specs.Answer.{in_time_at}
use Rattle.maintenance.specs.Days.{in_time, listed_days}
use Rattle.due.proofs.Due.in_time.Goals as goal

pub returns : goal.returns
unfolding in_time_at listed_days
returns c =
    let a = c.args in
    let all : a.self.maintenance.listed - 0 ≡ a.self.maintenance.listed = omega arith in
    c.in_time.ensures ∙ ap (λ (k : ℕ). in_time (take k a.self.maintenance.days) (a.number / 1440) a.self.site.days) all
