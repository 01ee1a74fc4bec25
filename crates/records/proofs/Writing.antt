-- Writing, for any record: the buffer's table and then the fields', and each field put at its place.
use Rattle.std.specs.Prelude.{Result, Ok}
use Rattle.refusals.specs.declared.refusal.Refusal.{Refusal}
use Prim.Native.Nat.{ℕ, ◌-◌, ◌/◌, ◌%◌}
use mathlib.Core.Path.{◌≡◌, ◌∙◌}
use mathlib.Core.Bool.{true, not}
use mathlib.Core.List.{List, [], ◌∷◌, ◌++◌}
use native.Mathlib.Omega.{arith}
use borrow.Author.Tests.{eqb-true, not-false}
use lib.Dec.{eqb}
use lib.ListN.{length}
use Rattle.exact.specs.Bytes.{bytes_of, put}
use Rattle.exact.specs.Layout.{gapless}
use Rattle.exact.specs.scaffold.Filled.{filled}
use Rattle.exact.proofs.Layouts.{within, filled-laid}
use Rattle.refusals.specs.Tables.{Line, first_of, also, followed_by}
use Rattle.records.specs.House.{Form, bytes_by, buffer_lines}
use Rattle.refusals.specs.declared.refusal.Refusal.TheVariants.{Buffer}
use Rattle.refusals.proofs.Tables.{chained, followed, split, none}

-- the head and then each field put into a buffer of the form's size
module _ {S : Type 0} (form : Form S) (s : S) where
  pub filled_record : (b : List ℕ) → gapless 3 form.layout form.size ≡ true → length b ≡ form.size
      → filled form.layout s (put (put b 0 (bytes_of 2 (form.size - 2))) 2 (form.version ∷ [])) ≡ bytes_by form s
  unfolding put
  filled_record [] g e = absurd (omega (arith, within 3 form.layout form.size g))
  filled_record (x ∷ []) g e = absurd (omega (arith, within 3 form.layout form.size g))
  filled_record (x ∷ y ∷ []) g e = absurd (omega (arith, within 3 form.layout form.size g))
  filled_record (x ∷ y ∷ z ∷ rest) g e =
      filled-laid form.layout s ((form.size - 2) / 256 ∷ (form.size - 2) % 256 ∷ form.version ∷ []) rest form.size g (omega arith)

-- the buffer's verdict and then the fields' are the table's
pub by_buffer : (n : ℕ) (out : List ℕ) (lines : List Line) {buffer fields verdict : Result Unit Refusal}
    → buffer ≡ also (Ok tt) (not (eqb (length out) n)) Buffer → fields ≡ first_of lines → verdict ≡ followed_by buffer fields
    → verdict ≡ first_of (buffer_lines n out ++ lines)
by_buffer n out lines b f v =
    followed (buffer_lines n out) lines (b ∙ chained (buffer_lines n out)) f v

-- a table that is fine had a buffer of the right size
pub room : (n : ℕ) (out : List ℕ) (lines : List Line) → first_of (buffer_lines n out ++ lines) ≡ Ok tt → length out ≡ n
room n out lines e =
    let fine = (split (buffer_lines n out) lines e).0 in
    eqb-true (length out) n (not-false (eqb (length out) n) (none (buffer_lines n out) fine).0)
