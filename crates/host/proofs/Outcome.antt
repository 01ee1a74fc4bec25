-- What the call comes to: by the table's beginning, which is examined first, and then by what the minute is judged.
use Rattle.std.specs.Prelude.{Result, Ok, Err}
use Prim.Native.Nat.{ℕ}
use mathlib.Core.Path.{◌≡◌, refl, sym, ap, ◌∙◌}
use mathlib.Core.List.{List, ◌++◌}
use lib.ListN.{length}
use native.Mathlib.Omega.{arith}
use borrow.Author.Tests.{eq-eqb, ne_eqb}
use Rattle.refusals.specs.Refusals.{number_of}
use Rattle.refusals.specs.Tables.{Line, first_of, followed_by}
use Rattle.refusals.specs.declared.refusal.Refusal.{Refusal}
use Rattle.refusals.specs.declared.refusal.Refusal.TheVariants.{Buffer}
use Rattle.refusals.proofs.Tables.{joined, split}
use Rattle.records.specs.House.{buffer_lines, written, answered}
use Rattle.site.specs.Record.{site_of, site_head_lines, read_site}
use Rattle.site.specs.Rules.{site_lines, Examined}
use Rattle.site.specs.declared.Site.{Site}
use Rattle.minute.specs.Record.{minute_of, minute_head_lines}
use Rattle.minute.specs.Rules.{minute_lines}
use Rattle.minute.specs.declared.Minute.{Minute}
use Rattle.tool06.specs.Judged.{beyond_year, oxygen_lines, judged}
use Rattle.tool06.specs.Tool.{Masses, Positive}
use Rattle.tool06.specs.declared.figures.Figures.{Figures}
use Rattle.tool06.proofs.Ones.{ones, ones_positive}
use Rattle.host.specs.Single.{answer_bytes, since_in_time, single_lines, single, returned, single_figures, answer_after}

-- three tables one after the other, of which the first has the verdict v
begun : (t u w : List Line) {v : Result Unit Refusal} → first_of t ≡ v → first_of (t ++ u ++ w) ≡ followed_by (followed_by v (first_of u)) (first_of w)
begun t u w e = rw (joined (t ++ u) w, joined t u, e)

-- 22, 1 to 9, and the minute's 1 and 2
abbrev pub record_lines : List ℕ → List ℕ → List ℕ → List Line
record_lines site minute answer =
    buffer_lines 25 answer ++ site_head_lines site ++ site_lines (site_of site) ++ minute_head_lines minute

-- what the call returns, and what the answer buffer then holds, by what the minute is judged
abbrev pub code : Result Figures Refusal → ℕ
code (Ok f) = 0
code (Err r) = number_of r

abbrev pub left : List ℕ → Result Figures Refusal → List ℕ
left own (Ok f) = answer_bytes f
left own (Err r) = own

code_returned : (f : Figures) (v : Result Unit Refusal) → code (answered f v) ≡ returned v
unfolding returned
code_returned f (Ok tt) = refl
code_returned f (Err r) = refl

left_written : (own : List ℕ) (f : Figures) (v : Result Unit Refusal) → left own (answered f v) ≡ written own (answer_bytes f) v
left_written own f (Ok tt) = refl
left_written own f (Err r) = refl

-- what a site's record was read as tells its verdict
read_fields : (s : Site) (v : Result Unit Refusal) {f : Site} → answered s v ≡ Ok f → (v ≡ Ok tt) × (f ≡ s)
read_fields s (Ok tt) e = (refl, cc)
read_fields s (Err r) e = absurd (let z : ◌≡◌ {A = ℕ} 0 1 = cc in omega arith)

read-refused : (s : Site) (v : Result Unit Refusal) {r : Refusal} → answered s v ≡ Err r → v ≡ Err r
read-refused s (Ok tt) e = absurd (let z : ◌≡◌ {A = ℕ} 0 1 = cc in omega arith)
read-refused s (Err r) e = cc

pub examined : (site : List ℕ) {f : Site} → read_site site ≡ Ok f → Examined (site_of site)
unfolding read_site
examined site e = (split (site_head_lines site) (site_lines (site_of site)) (read_fields (site_of site) (first_of (site_head_lines site ++ site_lines (site_of site))) e).0).1

pub same_fields : (site : List ℕ) {f : Site} → read_site site ≡ Ok f → f ≡ site_of site
unfolding read_site
same_fields site e = (read_fields (site_of site) (first_of (site_head_lines site ++ site_lines (site_of site))) e).1

module _ (site minute answer : List ℕ) where
  abbrev site_record : List Line
  site_record = site_head_lines site ++ site_lines (site_of site)

  -- a buffer of the wrong size decides, and one of the right size leaves it to the records
  pub wrong_size : (length answer ≡ 25 → ⊥) → first_of (record_lines site minute answer) ≡ Err Buffer
  wrong_size e = rw (ne_eqb (length answer) 25 e)

  right_size : length answer ≡ 25 → first_of (record_lines site minute answer) ≡ followed_by (first_of site_record) (first_of (minute_head_lines minute))
  right_size e = rw (eq-eqb (length answer) 25 e) (joined site_record (minute_head_lines minute))

  pub by-site : length answer ≡ 25 → {r : Refusal} → read_site site ≡ Err r → first_of (record_lines site minute answer) ≡ Err r
  unfolding read_site
  by-site size e = right_size size ∙ ap (λ (v : Result Unit Refusal). followed_by v (first_of (minute_head_lines minute))) (read-refused (site_of site) (first_of site_record) e)

  pub by-minute : length answer ≡ 25 → {f : Site} → read_site site ≡ Ok f → {v : Result Unit Refusal} → first_of (minute_head_lines minute) ≡ v → first_of (record_lines site minute answer) ≡ v
  unfolding read_site
  by-minute size e head =
      right_size size ∙ ap (λ (v : Result Unit Refusal). followed_by v (first_of (minute_head_lines minute))) (read_fields (site_of site) (first_of site_record) e).0 ∙ head

module _ (site minute : List ℕ) (days : ℕ) (answer : List ℕ) where
  abbrev s : Site
  s = site_of site

  abbrev n : Minute
  n = minute_of minute

  -- what the minute is judged by the whole table
  abbrev pub judged_as : Masses → Result Figures Refusal
  judged_as m = answered (single_figures m site minute days) (single site minute answer)

  by-records : {v : Result Unit Refusal} → first_of (record_lines site minute answer) ≡ v
      → single site minute answer ≡ followed_by (followed_by v (first_of (minute_lines (beyond_year s n) n))) (first_of (oxygen_lines s n))
  unfolding single single_lines
  by-records e = begun (record_lines site minute answer) (minute_lines (beyond_year s n) n) (oxygen_lines s n) e

  pub refused_as : {r : Refusal} → first_of (record_lines site minute answer) ≡ Err r → (m : Masses) → Err r ≡ judged_as m
  refused_as e m = sym (ap (answered (single_figures m site minute days)) (by-records e))

  pub judged_as_lem : first_of (record_lines site minute answer) ≡ Ok tt → (m : Masses) → judged m (beyond_year s n) s n (since_in_time s days) ≡ judged_as m
  unfolding judged single_figures
  judged_as_lem e m =
      ap (answered (single_figures m site minute days))
      (joined (minute_lines (beyond_year s n) n) (oxygen_lines s n) ∙ sym (by-records e))

  pub outcome : (j : Result Figures Refusal) → ((m : Masses) → Positive m → j ≡ judged_as m)
      → (code j ≡ returned (single site minute answer)) × ((m : Masses) → Positive m → left answer j ≡ answer_after m site minute days answer)
  unfolding answer_after
  outcome j e = (
    ap code (e ones ones_positive) ∙ code_returned (single_figures ones site minute days) (single site minute answer),
    λ m pos. ap (left answer) (e m pos) ∙ left_written answer (single_figures m site minute days) (single site minute answer),
  )
