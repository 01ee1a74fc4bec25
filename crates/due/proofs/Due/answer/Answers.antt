use Rattle.std.specs.Prelude.{Ok}
use mathlib.Core.Path.{◌≡◌, refl, sym, ◌∙◌}
use mathlib.Core.Bool.{Bool, true, false}
use mathlib.Core.List.{List, ◌∷◌}
use Rattle.refusals.specs.Tables.{Line, when, first_of, also, followed_by}
use Rattle.refusals.specs.declared.refusal.Refusal.{Refusal}
use Rattle.refusals.specs.declared.refusal.Refusal.TheVariants.{Full}
use Rattle.std.proofs.lemmas.Result.{err_from_is_err_and}
use Rattle.records.proofs.Reading.{by_head, by_fields}
use Rattle.minute.specs.Record.{minute_of, minute_head_lines}
use Rattle.tool06.specs.Bounds.{figures_of}
use Rattle.tool06.specs.Judged.{judged, judged_lines}
use Rattle.due.specs.Answer.{is_full, not_next, entry, record_lines, add_lines, answer}
use Rattle.due.proofs.Due.answer.Goals as goal
use Rattle.due.proofs.Due.answer.Goals.{After-then}

-- one line before a table
led : (bad : Bool) (why : Refusal) (t : List Line) → followed_by (also (Ok tt) bad why) (first_of t) ≡ first_of (when bad why ∷ t)
led true why t = refl
led false why t = refl

-- the verdict is that of 11, 1 and 2
decided : (v : After-then) → let a = v.args in v.then.result ≡ first_of (record_lines a.self a.bytes.now)
decided v =
    let a = v.args in
    rw (v.then.ensures, v.also.ensures, v.is_full.ensures, v.head-head.ensures)
    (led (is_full a.self) Full (minute_head_lines a.bytes.now))

pub returns-in_err-then : goal.returns-in_err-then
unfolding answer add_lines
returns-in_err-then c m pos =
    let a = c.args in
    let n = minute_of a.bytes.now in
    let p = err_from_is_err_and c.from_residual.result c.from_residual.ensures.1 in
    rw (p.1, p.2)
    (by_head (λ f. judged_lines (not_next a.self n) a.self.site n) (figures_of m (entry a.self a.bytes.now)) (record_lines a.self a.bytes.now)
    (sym (decided (goal.at.returns-in_err-then c).After-then) ∙ c.in_err-then.was))

pub returns : goal.returns
unfolding answer add_lines judged
returns c m pos =
    let a = c.args in
    let n = minute_of a.bytes.now in
    let figures = figures_of m (entry a.self a.bytes.now) in
    c.judge.ensures m pos
    ∙ rw (c.in_time-in_time.ensures, c.minute_in-minute.ensures)
    (by_fields (λ f. judged_lines (not_next a.self n) a.self.site n) figures (record_lines a.self a.bytes.now) figures _
    (sym (decided (goal.at.returns c).After-then) ∙ c.in_ok-then.was) refl refl)
