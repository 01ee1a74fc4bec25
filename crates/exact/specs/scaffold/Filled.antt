-- A record as the code writes it, field by field.
use Rattle.std.specs.Prelude.{ℕ, List, [], ◌∷◌}
use Rattle.exact.specs.Bytes.{bytes_of, put}
use Rattle.exact.specs.Layout.{Layout, bytes, width}

-- b with each field's bytes put at its place
abbrev pub filled : {S : Type 0} → Layout S → S → List ℕ → List ℕ
filled [] s b = b
filled (bytes i j f ∷ l) s b = filled l s (put b i (bytes_of (width i j) (f s)))
