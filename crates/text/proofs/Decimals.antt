-- How many digits a number has, and its last digits.
use Prim.Native.Nat.{ℕ, zero, suc, ◌-◌, ◌*◌, ◌/◌, ◌%◌, ◌^◌, ◌≤◌, ◌<◌}
use mathlib.Core.Path.{◌≡◌, refl, sym, ap, ◌∙◌}
use mathlib.Core.List.{List, [], ◌∷◌, ◌++◌, append_assoc}
use native.Mathlib.Nat.{pow-suc, one-le-pow}
use native.Mathlib.Decide.{dec_lt}
use native.Mathlib.Omega.{arith}
use borrow.Author.Tests.{lt-ltb, le-ltb}
use lib.ListN.{length, set, length-append}
use Rattle.text.specs.Text.{digit, digits, decimal}
use Rattle.text.specs.scaffold.Digits.{last}

one_digit : (k n : ℕ) → n < 10 → digits (suc k) n ≡ digit n ∷ []
unfolding digits
one_digit k n h = rw (lt-ltb n 10 h)

more-digits : (k n : ℕ) → 10 ≤ n → digits (suc k) n ≡ digits k (n / 10) ++ (digit (n % 10) ∷ [])
unfolding digits
more-digits k n h = rw (le-ltb n 10 h)

-- what holds of a single digit, and of the digits of n / 10 and one more, holds of the digits of n
pub by_digits : (P : List ℕ → Type 0) (k n : ℕ) → (n < 10 → P (digit n ∷ [])) → (10 ≤ n → P (digits k (n / 10) ++ (digit (n % 10) ∷ []))) → P (digits (suc k) n)
by_digits P k n one more = go (dec_lt n 10)
  where
    go : Dec (n < 10) → P (digits (suc k) n)
    go (yes h) = rw (one_digit k n h) (one h)
    go (no h) = rw (more-digits k n (omega arith)) (more (omega arith))

pub record HasDigits (k n : ℕ) : Type 0 where
  pub some : 0 < k
  pub below : n < 10 ^ k
  pub above : 1 < k → 10 ^ k ≤ n * 10

digits_long : (f k n : ℕ) → k ≤ f → HasDigits k n → length (digits f n) ≡ k
digits_long f zero n h has = absurd (omega arith)
digits_long zero (suc k) n h has = absurd (omega arith)
digits_long (suc f) (suc zero) n h has = ap length (one_digit f n has.below)
digits_long (suc f) (suc (suc k)) n h has =
    let low = has.above (omega arith) in
    let one = one-le-pow k 10 (omega arith) in
    let ten = pow-suc 10 k in
    let hundred = pow-suc 10 (suc k) in
    let less = digits_long f (suc k) (n / 10) (omega arith) (record { some = omega arith; below = omega arith; above = λ g. omega arith }) in
    ap length (more-digits f n (omega arith))
    ∙ length-append (digits f (n / 10)) (digit (n % 10) ∷ [])
    ∙ omega arith

pub decimal_long : (k n : ℕ) → k ≤ 20 → HasDigits k n → length (decimal n) ≡ k
unfolding decimal
decimal_long k n h has = digits_long 20 k n h has

pub last-two : (k n : ℕ) → 2 ≤ k → last k n ≡ last (k - 2) (n / 100) ++ (digit (n % 100 / 10) ∷ digit (n % 100 % 10) ∷ [])
unfolding last
last-two zero n h = absurd (omega arith)
last-two (suc zero) n h = absurd (omega arith)
last-two (suc (suc k)) n h =
    let less : suc (suc k) - 2 ≡ k = omega arith in
    let rest : n / 10 / 10 ≡ n / 100 = omega arith in
    let tens : n / 10 % 10 ≡ n % 100 / 10 = omega arith in
    let ones : n % 10 ≡ n % 100 % 10 = omega arith in
    rw (less, rest, tens, ones, append_assoc)

pub last_first : (l : List ℕ) (n : ℕ) → length l < 2 → 0 < length l → set l (length l - 1) (digit (n % 10)) ≡ last (length l) n
unfolding last
last_first [] n one some = absurd (omega arith)
last_first (x ∷ []) n one some = refl
last_first (x ∷ y ∷ l) n one some = absurd (omega arith)

pub last_none : (l : List ℕ) (n : ℕ) → length l ≤ 0 → l ≡ last (length l) n
unfolding last
last_none [] n h = refl
last_none (x ∷ l) n h = absurd (omega arith)

digits_last : (k n : ℕ) → digits k n ≡ last (length (digits k n)) n
unfolding digits last
digits_last zero n = refl
digits_last (suc k) n =
    by_digits
    (λ l. l ≡ last (length l) n)
    k
    n
    (λ h. let same : n % 10 ≡ n = omega arith in rw same)
    (λ h.
    let rest = digits k (n / 10) in
    let long : length (rest ++ (digit (n % 10) ∷ [])) ≡ suc (length rest) = length-append rest (digit (n % 10) ∷ []) ∙ omega arith in
    rw long (ap (λ (l : List ℕ). l ++ (digit (n % 10) ∷ [])) (digits_last k (n / 10))))

decimal-last : (n : ℕ) → decimal n ≡ last (length (decimal n)) n
unfolding decimal
decimal-last n = digits_last 20 n

-- as many of its last digits as it has are all of them
pub whole : {now : List ℕ} (l : List ℕ) (n : ℕ) → now ≡ last (length l) n → length l ≡ length (decimal n) → now ≡ decimal n
whole l n e h = e ∙ ap (λ (k : ℕ). last k n) h ∙ sym (decimal-last n)

digits-within : (k n : ℕ) → length (digits k n) ≤ k
unfolding digits
digits-within zero n = omega arith
digits-within (suc k) n =
    by_digits
    (λ l. length l ≤ suc k)
    k
    n
    (λ h. omega arith)
    (λ h. rw length-append (omega (arith, digits-within k (n / 10))))

pub decimal-within : (n : ℕ) → length (decimal n) ≤ 20
unfolding decimal
decimal-within n = digits-within 20 n

digits-below : (f k n : ℕ) → 0 < k → n < 10 ^ k → length (digits f n) ≤ k
unfolding digits
digits-below zero k n some h = omega arith
digits-below (suc f) zero n some h = absurd (omega arith)
digits-below (suc f) (suc zero) n some h = by_digits (λ l. length l ≤ 1) f n (λ one. omega arith) (λ more. absurd (omega arith))
digits-below (suc f) (suc (suc k)) n some h =
    by_digits
    (λ l. length l ≤ suc (suc k))
    f
    n
    (λ one. omega arith)
    (λ more.
    let tens = pow-suc 10 (suc k) in
    rw length-append (omega (arith, digits-below f (suc k) (n / 10) (omega arith) (omega arith))))

-- a number below 10^k has at most k digits
pub decimal-below : (k n : ℕ) → 0 < k → n < 10 ^ k → length (decimal n) ≤ k
unfolding decimal
decimal-below k n some h = digits-below 20 k n some h
