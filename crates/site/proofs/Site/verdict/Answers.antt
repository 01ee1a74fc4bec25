use mathlib.Core.Path.{◌≡◌, sym, ◌∙◌}
use lib.ListN.{drop}
use Rattle.refusals.specs.Tables.{first_of}
use Rattle.site.specs.Rules.{temperatures_wrong, flows_wrong, site_lines}
use Rattle.site.proofs.Bounded.{temperatures, flows}
use Rattle.site.proofs.Site.verdict.Goals as goal
use Rattle.site.proofs.Site.verdict.Goals.{After-wrong-2, Else-measured-is_open, Else-not-self-measured, Else-self, Else-self-2, Else-self-3, Else-self-measured, Else-wrong}

temperatures_are : (v : After-wrong-2) → v.wrong.result ≡ temperatures_wrong v.args.self.temperature
temperatures_are v = v.wrong.ensures ∙ temperatures v.args.self.temperature

flows_are : (v : After-wrong-2) → v.wrong-2.result ≡ flows_wrong v.args.self.flow
flows_are v = v.wrong-2.ensures ∙ flows v.args.self.flow

-- past k tests that were not met, the rest of the table decides
past-1 : (c : Else-not-self-measured) → let s = c.args.self in first_of (site_lines s) ≡ first_of (drop 1 (site_lines s))
unfolding site_lines
past-1 c = rw c.if-not-self-measured.false

past-2 : (c : Else-self) → let s = c.args.self in first_of (site_lines s) ≡ first_of (drop 2 (site_lines s))
unfolding site_lines
past-2 c = past-1 c.before.before.before ∙ rw c.if-self.false

past-3 : (c : Else-self-2) → let s = c.args.self in first_of (site_lines s) ≡ first_of (drop 3 (site_lines s))
unfolding site_lines
past-3 c = past-2 c.before.before.before ∙ rw c.if-self-2.false

past-4 : (c : Else-self-3) → let s = c.args.self in first_of (site_lines s) ≡ first_of (drop 4 (site_lines s))
unfolding site_lines
past-4 c = past-3 c.before.before.before.before ∙ rw c.if-self-3.false

past-5 : (c : Else-wrong) → let s = c.args.self in first_of (site_lines s) ≡ first_of (drop 5 (site_lines s))
unfolding site_lines
past-5 c = past-4 c.before.before.before ∙ rw (← flows_are c.before, ← temperatures_are c.before, c.if-wrong.false)

past-6 : (c : Else-measured-is_open) → let s = c.args.self in first_of (site_lines s) ≡ first_of (drop 6 (site_lines s))
unfolding site_lines
past-6 c = past-5 c.before.before ∙ rw (← c.is_open.ensures, c.if-measured-is_open.false)

past-7 : (c : Else-self-measured) → let s = c.args.self in first_of (site_lines s) ≡ first_of (drop 7 (site_lines s))
unfolding site_lines
past-7 c = past-6 c.before.before.before ∙ rw c.if-self-measured.false

pub returns-then-not-self-measured : goal.returns-then-not-self-measured
unfolding site_lines
returns-then-not-self-measured c = sym (rw c.if-not-self-measured.true)

pub returns-then-self : goal.returns-then-self
unfolding site_lines
returns-then-self c = sym (past-1 c.before.before.before ∙ rw c.if-self.true)

pub returns-then-self-2 : goal.returns-then-self-2
unfolding site_lines
returns-then-self-2 c = sym (past-2 c.before.before.before ∙ rw c.if-self-2.true)

pub returns-then-self-3 : goal.returns-then-self-3
unfolding site_lines
returns-then-self-3 c = sym (past-3 c.before.before.before.before ∙ rw c.if-self-3.true)

pub returns-then-wrong : goal.returns-then-wrong
unfolding site_lines
returns-then-wrong c = sym (past-4 c.before.before.before ∙ rw (← flows_are (goal.at.returns-then-wrong c).After-wrong-2, ← temperatures_are (goal.at.returns-then-wrong c).After-wrong-2, c.if-wrong.true))

pub returns-then-measured-is_open : goal.returns-then-measured-is_open
unfolding site_lines
returns-then-measured-is_open c = sym (past-5 c.before.before ∙ rw (← c.is_open.ensures, c.if-measured-is_open.true))

pub returns-then-self-measured : goal.returns-then-self-measured
unfolding site_lines
returns-then-self-measured c = sym (past-6 c.before.before.before ∙ rw c.if-self-measured.true)

pub returns : goal.returns
unfolding site_lines
returns c = sym (past-7 c)
