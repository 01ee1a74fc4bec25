-- What holds where a record is accepted.
use Rattle.std.specs.Prelude.{Ok}
use Prim.Native.Nat.{ℕ, ◌<◌}
use mathlib.Core.Path.{◌≡◌, sym, subst, ◌∙◌}
use mathlib.Core.Bool.{Bool, false}
use mathlib.Core.List.{List}
use borrow.Author.Tests.{eqb-true, leb-false, not-false}
use lib.Dec.{eqb}
use Rattle.refusals.specs.Tables.{first_of}
use Rattle.refusals.proofs.Tables.{split, none}
use Rattle.records.proofs.Reading.{answered_fine}
use Rattle.site.specs.Rules.{year_minutes, Examined}
use Rattle.minute.specs.Record.{minute_of}
use Rattle.tool06.specs.Bounds.{IsAccepted, figures_of}
use Rattle.tool06.specs.Figures.{figures}
use Rattle.tool06.specs.Judged.{judged_lines}
use Rattle.tool06.specs.Tool.{Masses}
use Rattle.tool06.specs.declared.figures.Figures.{Figures}
use Rattle.tool06.proofs.Facts.{in_order}
use Rattle.due.specs.Answer.{is_full, not_next, in_time_at, entry, record_lines, add_lines, answer}
use Rattle.due.specs.declared.Due.{Due}

-- a record that is accepted holds the minute that is due, which is accepted at the site, in a year that is not full
pub record Taken (m : Masses) (d : Due) (bytes : List ℕ) (f : Figures) : Type 0 where
  pub not_full : is_full d ≡ false
  pub number_is : (minute_of bytes).number ≡ d.minute
  pub entry-accepted : IsAccepted (entry d bytes)
  pub figures_are : f ≡ figures_of m (entry d bytes)

pub taken : (m : Masses) (d : Due) → Examined d.site → (bytes : List ℕ) (f : Figures) → answer m d bytes ≡ Ok f → Taken m d bytes f
unfolding answer add_lines
taken m d examined bytes f e =
    let n = minute_of bytes in
    let fine = answered_fine (first_of (add_lines d bytes)) e in
    let both = split (record_lines d bytes) (judged_lines (not_next d n) d.site n) fine.0 in
    let next : not_next d n ≡ false = in_order (not_next d n) d.site n both.1 in
    record {
      not_full = (none (record_lines d bytes) both.0).0;
      number_is = eqb-true n.number d.minute (not-false (eqb n.number d.minute) next);
      entry-accepted = (examined, subst (λ (b : Bool). first_of (judged_lines b d.site n) ≡ Ok tt) next both.1);
      figures_are = sym fine.1;
    }

pub room : {m : Masses} {d : Due} {bytes : List ℕ} {f : Figures} → Taken m d bytes f → d.minute < year_minutes d.site.year
unfolding is_full
room t = leb-false _ _ t.not_full

-- the figures of an accepted minute are those of its entry, and so depend on nothing else
pub same_figures : (m : Masses) (d e : Due) (bytes : List ℕ) (f g : Figures) → d.site ≡ e.site → in_time_at d (minute_of bytes).number ≡ in_time_at e (minute_of bytes).number → answer m d bytes ≡ Ok f → answer m e bytes ≡ Ok g → f ≡ g
unfolding answer
same_figures m d e bytes f g site in-time accepted-d accepted-e =
    let x = answered_fine (first_of (add_lines d bytes)) accepted-d in
    let y = answered_fine (first_of (add_lines e bytes)) accepted-e in
    sym x.1 ∙ (λ i. figures m (site i) (minute_of bytes) (in-time i)) ∙ y.1
