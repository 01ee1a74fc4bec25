use Rattle.std.specs.Prelude.{Result, Ok}
use Rattle.refusals.specs.declared.refusal.Refusal.{Refusal}
use mathlib.Core.Path.{◌≡◌, sym, ◌∙◌}
use mathlib.Core.List.{List}
use Prim.Native.Nat.{ℕ}
use lib.ListN.{length}
use Rattle.std.proofs.lemmas.Result.{err_from_is_err_and}
use Rattle.refusals.specs.Tables.{first_of}
use Rattle.site.specs.Record.{read_site}
use Rattle.host.proofs.Outcome.{record_lines, by-site, same_fields, by-minute, refused_as, examined, judged_as_lem}
use Rattle.host.proofs.judged.Goals as goal
use Rattle.host.proofs.judged.Goals.{After-head, In_ok-site}

-- the site's record was read as these fields
read_as : (f : In_ok-site) → read_site f.args.site.now ≡ Ok f.in_ok-site.site
read_as f = sym f.read_site.ensures ∙ f.in_ok-site.was

-- what the table's beginning comes to with the minute's head
decided : (h : After-head) {v : Result Unit Refusal} → h.head.result ≡ v → (answer : List ℕ) → length answer ≡ 25
    → first_of (record_lines h.args.site.now h.args.minute.now answer) ≡ v
decided h e answer size =
    let a = h.args in
    by-minute a.site.now a.minute.now answer size (read_as (goal.at.After-head h).In_ok-site) (sym h.head.ensures ∙ e)

pub returns-in_err-site : goal.returns-in_err-site
returns-in_err-site c answer size m pos =
    let a = c.args in
    let p = err_from_is_err_and c.from_residual.result c.from_residual.ensures.1 in
    rw (p.1, p.2) (refused_as a.site.now a.minute.now a.days answer (by-site a.site.now a.minute.now answer size (sym c.read_site.ensures ∙ c.in_err-site.was)) m)

pub returns-in_err-head : goal.returns-in_err-head
returns-in_err-head c answer size m pos =
    let a = c.args in
    let p = err_from_is_err_and c.from_residual-in_err-head.result c.from_residual-in_err-head.ensures.1 in
    rw (p.1, p.2) (refused_as a.site.now a.minute.now a.days answer (decided (goal.at.returns-in_err-head c).After-head c.in_err-head.was answer size) m)

pub judge_single-requires : goal.judge_single-requires
judge_single-requires c =
    let e = read_as (goal.at.judge_single-requires c).In_ok-site in
    rw (same_fields c.args.site.now e) (examined c.args.site.now e)

-- the minute is judged as the whole table says
pub returns : goal.returns
returns c answer size m pos =
    let a = c.args in
    rw (
      c.judge_single.ensures m pos,
      c.in_time.ensures,
      c.minute_in.ensures,
      same_fields a.site.now (read_as (goal.at.returns c).In_ok-site),
    )
    (judged_as_lem a.site.now a.minute.now a.days answer (decided (goal.at.returns c).After-head c.in_ok-head.was answer size) m)
