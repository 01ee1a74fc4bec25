use mathlib.Core.Path.{sym, ◌∙◌}
use Rattle.words.proofs.Signs.{no_number, without_sign, none_below, below, too_low}
use Rattle.words.proofs.number.signed_in.Goals as goal

pub returns-in_err-sign : goal.returns-in_err-sign
returns-in_err-sign c = c.from_residual.ensures ∙ no_number _ c.in_err-sign.ensures.cases

pub returns-then-sign-ne-MINUS : goal.returns-then-sign-ne-MINUS
returns-then-sign-ne-MINUS c =
    c.number_in.ensures ∙ without_sign _ _ _ c.in_ok-sign.ensures.cases.0 c.if-sign-ne-MINUS.true

pub returns-in_err-number_in : goal.returns-in_err-number_in
returns-in_err-number_in c =
    c.from_residual-in_err-number_in.ensures
    ∙ none_below _ _ _ c.in_ok-sign.ensures.cases.0 c.if-sign-ne-MINUS.false (sym c.number_in-2.ensures ∙ c.in_err-number_in.was)

pub returns-in_err-below : goal.returns-in_err-below
returns-in_err-below c =
    c.from_residual-in_err-below.ensures
    ∙ too_low _ _ _ c.in_ok-sign.ensures.cases.0 c.if-sign-ne-MINUS.false (sym c.number_in-2.ensures ∙ c.in_ok-number_in.was) c.in_err-below.ensures

pub returns : goal.returns
returns c =
    let known = c.in_ok-below.ensures in
    rw known.1 (below _ _ _ c.in_ok-sign.ensures.cases.0 c.if-sign-ne-MINUS.false (sym c.number_in-2.ensures ∙ c.in_ok-number_in.was) known.0)
