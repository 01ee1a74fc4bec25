use Prim.Native.Nat.{◌-◌, ◌/◌}
use mathlib.Core.Path.{◌∙◌}
use lib.IntN.{pos}
use mir.Syntax.{w16}
use mir.Val.{SFits}
use mir.ValLaws.{to_z-of_z}
use native.Mathlib.Omega.{arith}
use Rattle.account.specs.Opening.{last_day}
use Rattle.account.proofs.Within.{year-within}
use Rattle.account.proofs.open.last_day.Goals as goal

pub returns : goal.returns
unfolding last_day
returns c =
    let h = (year-within c.args.site.year).1 in
    let e = c.minutes.ensures in
    let fits : SFits w16 (pos (c.minutes.result / 1440 - 1)) = record { sfits = omega arith } in
    to_z-of_z w16 (pos (c.minutes.result / 1440 - 1)) fits ∙ rw c.minutes.ensures
