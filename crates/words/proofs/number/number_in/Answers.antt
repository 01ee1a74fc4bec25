use mathlib.Core.Path.{sym, ◌∙◌}
use native.Mathlib.Omega.{arith}
use Rattle.words.proofs.Decimals.{spelled_much, spelled_more, spelled_not, spelled_end, of_none, of_some}
use Rattle.words.proofs.number.number_in.Goals as goal

pub returns-then-is_empty : goal.returns-then-is_empty
returns-then-is_empty c = of_none _ _ (sym c.is_empty.ensures ∙ c.if-is_empty.true)

pub returns-in_err-sum : goal.returns-in_err-sum
returns-in_err-sum c =
    let l = c.loop-c in
    c.from_residual.ensures
    ∙ sym (spelled_not _ l.c-index _ l.sum c.loop-c-test.true (sym c.units.ensures ∙ c.in_err-sum.was))
    ∙ l.invariant.1
    ∙ of_some _ _ (sym c.is_empty.ensures ∙ c.if-is_empty.false)

pub returns-then-limit-sum : goal.returns-then-limit-sum
returns-then-limit-sum c =
    let l = c.loop-c in
    sym (spelled_much _ _ _ c.if-limit-sum.true)
    ∙ spelled_more _ l.c-index _ l.sum c.loop-c-test.true (sym c.units.ensures ∙ c.in_ok-sum.was)
    ∙ l.invariant.1
    ∙ of_some _ _ (sym c.is_empty.ensures ∙ c.if-is_empty.false)

pub loop-c-preserved : goal.loop-c-preserved
loop-c-preserved c =
    let l = c.loop-c in
    (omega arith, spelled_more _ l.c-index _ l.sum c.loop-c-test.true (sym c.units.ensures ∙ c.in_ok-sum.was) ∙ l.invariant.1)

pub returns : goal.returns
returns c =
    let l = c.loop-c in
    sym (spelled_end _ l.c-index _ _ c.loop-c-test.false l.invariant.0) ∙ l.invariant.1 ∙ of_some _ _ (sym c.is_empty.ensures ∙ c.if-is_empty.false)
