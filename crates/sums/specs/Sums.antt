-- R46, R84: sums, put together, and over a list of entries of any kind.
use Rattle.std.specs.Prelude.{ℕ, ◌+◌, Bool, true, false, List, [], ◌∷◌}
use Rattle.sums.specs.declared.Sums.{Sums}

-- R46: of no minute
unfoldable pub no_sums : Sums
no_sums = record { minutes = 0; gas = 0; fed = 0; emitted = 0; destroyed = 0 }

-- R46: both together, each number by itself
infixl 6 ◌⊞◌
unfoldable pub ◌⊞◌ : Sums → Sums → Sums
s ⊞ t = record {
  minutes = s.minutes + t.minutes;
  gas = s.gas + t.gas;
  fed = s.fed + t.fed;
  emitted = s.emitted + t.emitted;
  destroyed = s.destroyed + t.destroyed;
}

-- R84: the sums over a list of entries, of which each is worth w
abbrev pub total : {A : Type 0} → (A → Sums) → List A → Sums
total w [] = no_sums
total w (e ∷ es) = w e ⊞ total w es

abbrev pub one_if : Bool → ℕ
one_if true = 1
one_if false = 0

-- R84: the number of entries of a list for which a test holds
abbrev pub count : {A : Type 0} → (A → Bool) → List A → ℕ
count test [] = 0
count test (e ∷ es) = one_if (test e) + count test es
