-- R7, R58: the house form, and what reading and writing answer.
use Rattle.std.specs.Prelude.{Result, Ok, Err, ℕ, ◌+◌, ◌-◌, ◌||◌, not, List, [], ◌∷◌, ◌++◌, length, eqb}
use Rattle.exact.specs.Bytes.{byte_at, number_at, bytes_of}
use Rattle.exact.specs.Layout.{Layout, laid, Maker, read_by}
use Rattle.refusals.specs.Tables.{Line, when}
use Rattle.refusals.specs.declared.refusal.Refusal.{Refusal}
use Rattle.refusals.specs.declared.refusal.Refusal.TheVariants.{Length, Version, Buffer}

-- R7: a record S of one version: how many bytes it has, its version, its table, and what makes an S of the table's numbers
pub record Form (S : Type 0) : Type 0 where
  pub size : ℕ
  pub version : ℕ
  pub layout : Layout S
  pub make : Maker layout S

-- R7: the bytes of fields: "a two-byte length first (counting the bytes after it), big-endian, then one version byte", then the table's
abbrev pub bytes_by : {S : Type 0} → Form S → S → List ℕ
bytes_by form s = bytes_of 2 (form.size - 2) ++ (form.version ∷ []) ++ laid form.layout s

-- R7: the fields of bytes
abbrev pub fields_by : {S : Type 0} → Form S → List ℕ → S
fields_by form b = read_by form.layout form.make b

-- R51: 1, "bytes not exactly the record, or wrong length field"; 2, the version: of bytes that should have this size and version
unfoldable pub head_lines : ℕ → ℕ → List ℕ → List Line
head_lines size version b =
    when (not (eqb (length b) size) || not (eqb (number_at 2 b 0 + 2) size)) Length
    ∷ when (not (eqb (byte_at b 2) version)) Version
    ∷ []

-- R51: 22, "answer buffer of the wrong size"
abbrev pub buffer_lines : ℕ → List ℕ → List Line
buffer_lines size out = when (not (eqb (length out) size)) Buffer ∷ []

-- R58: what is answered where nothing is refused, or else the refusal alone
abbrev pub answered : {S : Type 0} → S → Result Unit Refusal → Result S Refusal
answered s (Ok tt) = Ok s
answered s (Err r) = Err r

-- R58, R60: what a lent buffer holds after the call: the record's bytes, or where the call refuses its own
abbrev pub written : List ℕ → List ℕ → Result Unit Refusal → List ℕ
written own image (Ok tt) = image
written own image (Err r) = own
