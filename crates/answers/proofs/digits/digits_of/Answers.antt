use Rattle.std.proofs.Common.{◌≡◌, ℕ, suc, ◌-◌, ◌/◌, ◌%◌, ◌^◌, ◌<◌, ◌≤◌, List, length, slice_index_or, slice_set, arith, rules, get_or-set_other}
use Rattle.std.proofs.Math.Nat.{pow-suc, div-div-eq-div-mul}
use Rattle.std.proofs.lemmas.Grind.{get_or-set_at}
use Rattle.answers.specs.Digits.{hex_digit}
use Rattle.answers.proofs.digits.digits_of.Goals as goal

-- what is left once a digit more is cut off
divided : (n i : ℕ) → 0 < i → i ≤ 16 → n / 16 ^ (16 - i) / 16 ≡ n / 16 ^ (16 - (i - 1))
divided n i pos le =
    let e : 16 - (i - 1) ≡ suc (16 - i) = omega arith in
    rw (e, pow-suc 16 (16 - i)) (div-div-eq-div-mul n (16 ^ (16 - i)) 16)

-- the digit that is put, and those behind it
digit : (n i left d : ℕ) (ds : List ℕ) → 0 < i → i ≤ 16 → length ds ≡ 16 → left ≡ n / 16 ^ (16 - i) → d ≡ hex_digit (left % 16)
    → ((k : ℕ) → i ≤ k → k < 16 → slice_index_or ds k 0 ≡ hex_digit (n / 16 ^ (15 - k) % 16))
    → (k : ℕ) → i - 1 ≤ k → k < 16 → slice_index_or (slice_set ds (i - 1) d) k 0 ≡ hex_digit (n / 16 ^ (15 - k) % 16)
digit n i left d ds pos le len l e behind k from below = grind (arith, get_or-set_at, get_or-set_other, behind, l, e)

pub loop-k-preserved : goal.loop-k-preserved
loop-k-preserved c =
    let l = c.loop-k in
    let v = l.invariant in
    let cut : l.left / 16 ≡ c.args.n / 16 ^ (16 - (l.k - 1)) = rw v.1 (divided c.args.n l.k c.loop-k-test.true l.auto.k) in
    (search rules, cut, digit c.args.n l.k l.left c.glyph.result l.digits c.loop-k-test.true l.auto.k v.0 v.1 c.glyph.ensures v.2)
