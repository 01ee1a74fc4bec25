-- Both round trips of a record in the house form, once for every kind.
use Rattle.std.specs.Prelude.{Result, Ok}
use Prim.Native.Nat.{ℕ, ◌+◌, ◌-◌, ◌≤◌}
use mathlib.Core.Path.{◌≡◌, refl, sym, ap, ap₂, ◌∙◌}
use mathlib.Core.Bool.{true, not}
use mathlib.Core.List.{List, [], ◌∷◌, ◌++◌}
use native.Mathlib.Omega.{arith}
use borrow.Author.Tests.{eqb-true, eq-eqb, not-false}
use lib.Dec.{eqb}
use lib.ListN.{length, drop}
use Rattle.exact.specs.Bytes.{AreBytes, byte_at, cells, number_at, bytes_of}
use Rattle.exact.specs.Layout.{laid, gapless}
use Rattle.exact.proofs.Bools.{or_false}
use Rattle.exact.proofs.Spelling.{bytes_of-number_at, cells-drop}
use Rattle.exact.proofs.Layouts.{within, laid-length, made, read-laid, Holds, laid_held}
use Rattle.refusals.specs.Tables.{Line, first_of, followed_by}
use Rattle.records.specs.House.{Form, bytes_by, fields_by, head_lines, buffer_lines, answered, written}
use Rattle.records.specs.RoundTrip.{Kind, ReadsBack, WritesBack}
use Rattle.refusals.specs.declared.refusal.Refusal.{Refusal}
use Rattle.refusals.proofs.Tables.{joined, split, none}
use Rattle.records.proofs.Reading.{by_fields, answered_fine}

-- what a head that is fine says
record Headed (n version : ℕ) (b : List ℕ) : Type 0 where
  size : length b ≡ n
  count : number_at 2 b 0 + 2 ≡ n
  version_is : byte_at b 2 ≡ version

headed : (n version : ℕ) (b : List ℕ) → first_of (head_lines n version b) ≡ Ok tt → Headed n version b
unfolding head_lines
headed n version b e =
    let l = none (head_lines n version b) e in
    let o = or_false (not (eqb (length b) n)) (not (eqb (number_at 2 b 0 + 2) n)) l.0 in
    record {
      size = eqb-true (length b) n (not-false (eqb (length b) n) o.0);
      count = eqb-true (number_at 2 b 0 + 2) n (not-false (eqb (number_at 2 b 0 + 2) n) o.1);
      version_is = eqb-true (byte_at b 2) version (not-false (eqb (byte_at b 2) version) l.1.0);
    }

head_fine : (n version : ℕ) (b : List ℕ) → Headed n version b → first_of (head_lines n version b) ≡ Ok tt
unfolding head_lines
head_fine n version b h = rw (eq-eqb _ _ h.size, eq-eqb _ _ h.count, eq-eqb _ _ h.version_is)

buffer_fine : (n : ℕ) (out : List ℕ) → length out ≡ n → first_of (buffer_lines n out) ≡ Ok tt
buffer_fine n out e = rw (eq-eqb _ _ e)

module _ {S : Type 0} (form : Form S) (gap : gapless 3 form.layout form.size ≡ true) where
  -- the bytes of fields have the form's head
  pub head_of_bytes : (s : S) → first_of (head_lines form.size form.version (bytes_by form s)) ≡ Ok tt
  head_of_bytes s =
      let long = laid-length 3 form.layout form.size s gap in
      head_fine form.size form.version (bytes_by form s) (record { size = omega arith; count = omega arith; version_is = refl })

  -- and hold what the form makes of the fields' own numbers
  pub fields_of_bytes : (s : S) → fields_by form (bytes_by form s) ≡ made form.layout form.make s
  fields_of_bytes s = read-laid form.layout form.make (bytes_of 2 (form.size - 2) ++ (form.version ∷ [])) form.size s gap

  -- bytes with the form's head are those of the fields that they hold
  pub bytes_of_fields : (b : List ℕ) → AreBytes b → first_of (head_lines form.size form.version b) ≡ Ok tt
      → Holds form.layout (fields_by form b) b → bytes_by form (fields_by form b) ≡ b
  bytes_of_fields b h fine holds =
      let d = headed form.size form.version b fine in
      let whole : gapless 3 form.layout (length b) ≡ true = ap (gapless 3 form.layout) d.size ∙ gap in
      let count : form.size - 2 ≡ number_at 2 b 0 = omega arith in
      let front : bytes_of 2 (form.size - 2) ≡ cells 2 b 0 = ap (bytes_of 2) count ∙ bytes_of-number_at b h 2 0 in
      let body : laid form.layout (fields_by form b) ≡ drop 3 b = laid_held form.layout (fields_by form b) b 3 h whole holds in
      let room : 3 ≤ length b = within 3 form.layout (length b) whole in
      (λ i. front i ++ (sym d.version_is i ∷ []) ++ body i) ∙ cells-drop 3 b 0 room

module _ {S : Type 0} (form : Form S) (lines : S → List Line) where
  abbrev head : List ℕ → List Line
  head b = head_lines form.size form.version b

  abbrev pub kind : Kind
  kind = record {
    Fields = S;
    size = form.size;
    image = bytes_by form;
    write = λ s out. first_of (buffer_lines form.size out ++ lines s);
    read = λ b. answered (fields_by form b) (first_of (head b ++ lines (fields_by form b)));
  }

  -- what is asked of a kind of record
  pub record Sound : Type 0 where
    pub gap : gapless 3 form.layout form.size ≡ true
    -- accepted fields are what is made of their own numbers
    pub same : (s : S) → first_of (lines s) ≡ Ok tt → made form.layout form.make s ≡ s
    -- the fields of bytes have the numbers that stand there
    pub held : (b : List ℕ) → AreBytes b → Holds form.layout (fields_by form b) b

  pub reads_back : Sound → ReadsBack kind
  reads_back k s out w =
      let good = (split (buffer_lines form.size out) (lines s) w).1 in
      let b = bytes_by form s in
      let back = fields_of_bytes form k.gap s ∙ k.same s good in
      ap (λ (v : Result Unit Refusal). kind.read (written out b v)) w
      ∙ sym (by_fields lines (fields_by form b) (head b) s (Ok tt) (head_of_bytes form k.gap s) (sym back) (sym good))

  pub writes_back : Sound → WritesBack kind
  writes_back k b s out h e l =
      let x = fields_by form b in
      let a = answered_fine (first_of (head b ++ lines x)) e in
      let p = split (head b) (lines x) a.0 in
      let good : first_of (lines s) ≡ Ok tt = ap (λ (y : S). first_of (lines y)) (sym a.1) ∙ p.1 in
      let w : kind.write s out ≡ Ok tt = joined (buffer_lines form.size out) (lines s) ∙ ap₂ followed_by (buffer_fine form.size out l) good in
      let image : kind.image s ≡ b = ap (bytes_by form) (sym a.1) ∙ bytes_of_fields form k.gap b h p.0 (k.held b h) in
      (w, ap (written out (kind.image s)) w ∙ image)
