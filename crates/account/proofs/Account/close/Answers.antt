use mathlib.Core.Path.{◌≡◌, sym, ap, ◌∙◌}
use native.Mathlib.Omega.{arith}
use Rattle.due.specs.Answer.{is_full}
use Rattle.account.specs.Adding.{due}
use Rattle.account.specs.Closing.{closing}
use Rattle.account.proofs.Within.{co2e-within}
use Rattle.account.proofs.Account.close.Goals as goal
use Rattle.account.proofs.Account.close.Goals.{After-is_full}

-- the year is full as the account is
full : (v : After-is_full) → is_full (due v.args.self) ≡ v.is_full.result
full v = sym (v.is_full.ensures ∙ ap is_full v.due.ensures)

pub whole_tonnes-requires : goal.whole_tonnes-requires
whole_tonnes-requires c =
    let h = co2e-within c.requires in
    let e = c.co2e-mg.ensures in
    omega arith

pub returns-then-is_full : goal.returns-then-is_full
unfolding closing
returns-then-is_full c =
    rw (full (goal.at.returns-then-is_full c).After-is_full ∙ c.if-is_full.true, c.whole_tonnes.ensures, c.co2e-mg.ensures)

pub returns-else-is_full : goal.returns-else-is_full
unfolding closing
returns-else-is_full c = rw (full (goal.at.returns-else-is_full c).After-is_full ∙ c.if-is_full.false)
