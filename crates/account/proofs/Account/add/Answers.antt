use mathlib.Core.Path.{◌≡◌, refl, sym, ap, ◌∙◌}
use Rattle.std.proofs.lemmas.Result.{err_from_is_err_and}
use Rattle.tool06.specs.Tool.{Masses, Positive}
use Rattle.tool06.proofs.Ones.{ones, ones_positive}
use Rattle.due.specs.Answer.{answer}
use Rattle.due.specs.declared.Due.{Due}
use Rattle.account.specs.Adding.{due, add_to}
use Rattle.account.proofs.Accepted.{accepted}
use Rattle.account.proofs.Opens.{site_examined}
use Rattle.account.proofs.Account.add.Goals as goal
use Rattle.account.proofs.Account.add.Goals.{After-answer}

-- the answer is the account's
answered : (v : After-answer) (m : Masses) → Positive m → let a = v.args in answer m (due a.self.now) a.bytes.now ≡ v.answer.result
answered v m pos =
    let a = v.args in
    sym (v.answer.ensures m pos ∙ ap (λ (d : Due). answer m d a.bytes.now) v.due.ensures)

pub answer-requires-clause-examined : goal.answer-requires-clause-examined
answer-requires-clause-examined c = rw c.due.ensures (site_examined c.requires)

pub take-requires : goal.take-requires
take-requires c =
    let fits = accepted ones ones_positive c.args.self.now (site_examined c.requires) _ c.in_ok-figures.figures (answered (goal.at.take-requires c).After-answer ones ones_positive ∙ c.in_ok-figures.was) in
    record { kept = c.requires; small = fits.0; minutes_bound = fits.1 }

pub returns-in_err-figures : goal.returns-in_err-figures
unfolding add_to
returns-in_err-figures c m pos =
    let p = err_from_is_err_and c.from_residual.result c.from_residual.ensures.1 in
    rw (p.1, p.2, answered (goal.at.returns-in_err-figures c).After-answer m pos ∙ c.in_err-figures.was) (refl, refl)

pub returns : goal.returns
unfolding add_to
returns c m pos =
    rw (answered (goal.at.returns c).After-answer m pos ∙ c.in_ok-figures.was, c.take.ensures) (refl, refl)
