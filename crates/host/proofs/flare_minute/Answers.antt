use Rattle.std.specs.Prelude.{Ok, Err}
use mathlib.Core.Path.{sym, ◌∙◌}
use Rattle.host.proofs.Outcome.{wrong_size, refused_as, outcome}
use Rattle.host.proofs.flare_minute.Goals as goal

pub returns-then-answer-ne-ANSWER_BYTES : goal.returns-then-answer-ne-ANSWER_BYTES
returns-then-answer-ne-ANSWER_BYTES c =
    let a = c.args in
    rw c.number.ensures
    (outcome _ _ _ _ (Err _) (λ m pos. refused_as _ _ _ _ (wrong_size a.site.now a.minute.now a.answer.now c.if-answer-ne-ANSWER_BYTES.true) m))

pub returns-in-Err : goal.returns-in-Err
returns-in-Err c =
    rw c.number-in-Err.ensures
    (outcome _ _ _ _ (Err _) (λ m pos. sym c.in-Err.is ∙ c.judged.ensures c.args.answer.now c.if-answer-ne-ANSWER_BYTES.false m pos))

pub returns-in-Ok : goal.returns-in-Ok
returns-in-Ok c =
    rw c.fill.ensures
    (outcome _ _ _ _ (Ok _) (λ m pos. sym c.in-Ok.is ∙ c.judged.ensures c.args.answer.now c.if-answer-ne-ANSWER_BYTES.false m pos))
