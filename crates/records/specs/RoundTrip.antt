-- R85: the round trips of a record of any kind: written into a buffer and read from it, and read and written again.
use Rattle.std.specs.Prelude.{ℕ, ◌≡◌, Result, Ok, List, length}
use Rattle.exact.specs.Bytes.{AreBytes}
use Rattle.refusals.specs.declared.refusal.Refusal.{Refusal}
use Rattle.records.specs.House.{written}

-- R85: a kind of record: its fields, its size, its bytes, and its calls
pub record Kind : Type 1 where
  pub Fields : Type 0
  pub size : ℕ
  pub image : Fields → List ℕ
  pub write : Fields → List ℕ → Result Unit Refusal
  pub read : List ℕ → Result Fields Refusal

-- R85: "Written records read back to the same fields"
abbrev pub ReadsBack : Kind → Type 0
ReadsBack k =
    (s : k.Fields) (out : List ℕ)
    → k.write s out ≡ Ok tt
    → k.read (written out (k.image s) (k.write s out)) ≡ Ok s

-- R85: "read records write back to the same bytes"
abbrev pub WritesBack : Kind → Type 0
WritesBack k =
    (b : List ℕ) (s : k.Fields) (out : List ℕ)
    → AreBytes b
    → k.read b ≡ Ok s
    → length out ≡ k.size
    → (k.write s out ≡ Ok tt) × (written out (k.image s) (k.write s out) ≡ b)
