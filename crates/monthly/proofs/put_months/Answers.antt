use Prim.Native.Nat.{suc, ◌+◌, ◌-◌}
use mathlib.Core.Path.{◌≡◌}
use native.Mathlib.Omega.{arith}
use Rattle.text.proofs.Putting.{onwards, nothing}
use Rattle.room.proofs.Placing.{whole}
use Rattle.monthly.specs.Monthly.{first_months}
use Rattle.monthly.proofs.Within.{months-within}
use Rattle.monthly.proofs.put_months.Goals as goal

pub loop-month-init : goal.loop-month-init
unfolding first_months
loop-month-init c = nothing c.args.page.now

pub loop-month-preserved : goal.loop-month-preserved
unfolding first_months
loop-month-preserved c =
    let l = c.loop-month in
    let last : l.month + 1 - 1 ≡ suc (l.month - 1) = omega arith in
    let this : suc (l.month - 1) ≡ l.month = omega arith in
    let few = months-within c.args.account c.requires.kept (l.month - 1) in
    rw last (onwards l.invariant (rw this (whole (omega arith) c.put_month.ensures)))

pub returns : goal.returns
returns c =
    let l = c.loop-month in
    let all : l.month - 1 ≡ 12 = omega arith in
    let written = rw all at l.invariant in
    record { put_from = written; within = omega (arith, written.place, months-within c.args.account c.requires.kept 12) }
