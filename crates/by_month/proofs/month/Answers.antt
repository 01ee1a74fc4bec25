use Prim.Native.Nat.{ℕ, ◌≤◌}
use mathlib.Core.Path.{refl}
use native.Mathlib.Omega.{arith}
use mir.Syntax.{w64}
use mir.Val.{Fits}
use Rattle.sums.specs.Sums.{no_sums}
use Rattle.account.proofs.Laws.{row-co2e-within}
use Rattle.by_month.specs.Month.{month_asked}
use Rattle.by_month.proofs.month.Goals as goal

fits : (x : ℕ) → x ≤ 3773606400000000 → Fits w64 x
fits x h = record { fits = omega arith }

pub returns-then-month : goal.returns-then-month
unfolding month_asked
returns-then-month c = rw c.if-month.true refl

pub overflow_mul-result : goal.overflow_mul-result
unfolding no_sums
overflow_mul-result c =
    rw (c.site-site.ensures, c.rows-rows.ensures)
    (fits _ (row-co2e-within c.requires c.args.month))

pub returns : goal.returns
unfolding month_asked no_sums
returns c =
    rw (c.site-site.ensures, c.rows-rows.ensures, c.if-month.false) refl
