use native.Mathlib.Omega.{arith}
use Rattle.account.specs.Closing.{chart}
use Rattle.account.proofs.Within.{co2e-within}
use Rattle.account.proofs.Account.chart.Goals as goal

pub in_tonnes-requires-2 : goal.in_tonnes-requires-2
in_tonnes-requires-2 c =
    let h = co2e-within c.requires in
    let e = c.co2e.ensures in
    omega arith

pub returns : goal.returns
unfolding chart
returns c = simp (c.in_tonnes.ensures, c.co2e.ensures, c.in_tonnes-2.ensures)
