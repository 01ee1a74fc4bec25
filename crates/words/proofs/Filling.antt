-- The bytes of a word's digits, put into a buffer one after the other.
use Prim.Native.Nat.{ℕ, ◌+◌, ◌*◌, ◌≤◌, ◌<◌}
use mathlib.Core.Path.{◌≡◌, ap, ◌∙◌}
use mathlib.Core.Bool.{true}
use mathlib.Core.List.{List, [], ◌∷◌}
use native.Mathlib.Decide.{dec_lt}
use native.Mathlib.Omega.{arith}
use lib.ListN.{length, get_or, drop, length-set}
use Rattle.exact.specs.Bytes.{put}
use Rattle.words.specs.Hex.{digit_of, in_pairs, bytes_in}
use Rattle.words.proofs.Pairs.{Pair, pair, bytes-more, bytes_end}

-- the bytes of the digits that are left, put behind those that are there, make the whole
pub record Left (word out₀ out : List ℕ) (i k : ℕ) : Type 0 where
  pub behind : k ≤ i
  pub long : length out ≡ length out₀
  pub pairs : in_pairs (drop i word) ≡ true
  pub whole : put out k (bytes_in (drop i word)) ≡ put out₀ 0 (bytes_in word)

module _ {word out₀ out : List ℕ} {i k : ℕ} (l : Left word out₀ out i k) where
  pub next : i < length word → Pair word i
  next h = pair word i h l.pairs

  pub one_less : i < length word → {high low : ℕ} {out' : List ℕ} → high ≡ digit_of (get_or word i 0) → low ≡ digit_of (get_or word (i + 1) 0)
      → out' ≡ put out k ((high * 16 + low) ∷ []) → {j : ℕ} → j ≡ i + 2 → Left word out₀ out' j (k + 1)
  unfolding put
  one_less h f g e on =
      let p = next h in
      record {
        behind = omega (arith, l.behind, on);
        long = ap length e ∙ simp length-set l.long;
        pairs = rw on p.rest;
        whole = rw (on, e, f, g) (rw (bytes-more word i p.both) at l.whole);
      }

  -- no digit stands alone
  pub none_left : length word ≤ i + 1 → out ≡ put out₀ 0 (bytes_in word)
  unfolding put
  none_left h = either (dec_lt i (length word))
    where
      either : Dec (i < length word) → out ≡ put out₀ 0 (bytes_in word)
      either (yes g) = let p = next g in absurd (omega arith)
      either (no g) = rw (bytes_end word i (omega arith)) at l.whole
