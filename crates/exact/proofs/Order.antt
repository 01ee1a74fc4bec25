-- The order of exact fractions.
use mathlib.Core.Path.{◌≡◌, refl, sym, ap, subst, ◌∙◌}
use mathlib.Core.HLevel.{Π_prop, ×_prop}
use mathlib.Core.Logic.{◌↔◌, ↔_prop}
use native.Mathlib.Bridge.{le_prop}
use mathlib.Core.Bool.{not}
use mathlib.Core.Quot.{mk, sound, Quot-set, ind}
use mathlib.Mathlib.Data.Quot.{induction_on₂, induction_on₃}
use Prim.Native.Nat.{ℕ, zero, suc, ◌+◌, ◌-◌, ◌*◌, ◌≤◌, ◌<◌}
use native.Mathlib.Nat.{le_antisymm, mul-pos, le_of_mul-le-mul_right, mul-le-mul_right}
use native.Mathlib.Omega.{arith}
use lib.Dec.{T, T_prop, T_not, not_T, leb, leb→le, le→leb}
use Rattle.exact.specs.Parts.{Parts, Same, parts_le, parts_whole, parts_add, parts_mul, parts_neg, inv_by, parts_inv}
use Rattle.exact.specs.PartsLaws.{PartsLe, times}
use Rattle.exact.specs.Fractions.{Frac, le_test, ◌≼◌, ◌≺◌, ◌⊕◌, ◌⊖◌, ◌⊗◌, neg, inv, whole}
use Rattle.exact.proofs.Fractions.{⊕-comm, ⊕-assoc, ⊕-zero, ⊕-neg, ⊖-⊗}

not_leb : (m n : ℕ) → T (not (leb m n)) → n < m
not_leb m n t = let h : ¬ (m ≤ n) = λ l. T_not (leb m n) t (le→leb m n l) in omega arith

lt_not_leb : (m n : ℕ) → n < m → T (not (leb m n))
lt_not_leb m n h = not_T (leb m n) (λ t. let l : m ≤ n = leb→le m n t in omega arith)

abbrev pub PartsLt : Parts → Parts → Type 0
PartsLt a b = a.up * b.over + b.down * a.over < b.up * a.over + a.down * b.over

-- between the test and the fact
pub told-le : (a b : Parts) → T (parts_le a b) → PartsLe a b
told-le a b t = leb→le (a.up * b.over + b.down * a.over) (b.up * a.over + a.down * b.over) t

pub tell_le : (a b : Parts) → PartsLe a b → T (parts_le a b)
tell_le a b h = le→leb (a.up * b.over + b.down * a.over) (b.up * a.over + a.down * b.over) h

pub told-lt : (a b : Parts) → T (not (parts_le b a)) → PartsLt a b
told-lt a b t = let l : a.up * b.over + b.down * a.over < b.up * a.over + a.down * b.over = not_leb (b.up * a.over + a.down * b.over) (a.up * b.over + b.down * a.over) t in l

pub tell_lt : (a b : Parts) → PartsLt a b → T (not (parts_le b a))
tell_lt a b h = lt_not_leb (b.up * a.over + a.down * b.over) (a.up * b.over + b.down * a.over) h

pub ≼_refl : (x : Frac) → x ≼ x
unfolding le_test
≼_refl x = ind (λ x. T_prop (le_test x x)) (λ a. tell_le a a (omega arith)) x

pub ≼_trans : (x y z : Frac) → x ≼ y → y ≼ z → x ≼ z
unfolding le_test
≼_trans x y z = induction_on₃ (λ x y z. Π_prop {A = x ≼ y} (λ h. Π_prop {A = y ≼ z} (λ k. T_prop (le_test x z)))) x y z
    (λ a b c h k.
    let h' : PartsLe a b = told-le a b h in
    let k' : PartsLe b c = told-le b c k in
    tell_le a c (le_of_mul-le-mul_right {k = b.over} (omega (arith, mul-le-mul_right c.over h', mul-le-mul_right a.over k')) b.pos))

parts_mono : (a b c : Parts) → PartsLe a b → PartsLe (parts_add a c) (parts_add b c)
parts_mono a b c h = omega (arith, mul-le-mul_right (c.over * c.over) h)

pub ⊕-mono_left : (x y z : Frac) → x ≼ y → x ⊕ z ≼ y ⊕ z
unfolding le_test ◌⊕◌
⊕-mono_left x y z = induction_on₃ (λ x y z. Π_prop {A = x ≼ y} (λ h. T_prop (le_test (x ⊕ z) (y ⊕ z)))) x y z
    (λ a b c h. tell_le (parts_add a c) (parts_add b c) (parts_mono a b c (told-le a b h)))

pub ⊕-mono : (x y z w : Frac) → x ≼ y → z ≼ w → x ⊕ z ≼ y ⊕ w
⊕-mono x y z w h k =
    ≼_trans (x ⊕ z) (y ⊕ z) (y ⊕ w) (⊕-mono_left x y z h)
    (rw (⊕-comm y z, ⊕-comm y w) (⊕-mono_left z w y k))

-- strictly below
pub ≺-≼ : (x y : Frac) → x ≺ y → x ≼ y
unfolding le_test
≺-≼ x y = induction_on₂ (λ x y. Π_prop {A = x ≺ y} (λ h. T_prop (le_test x y))) x y
    (λ a b h. let h' : PartsLt a b = told-lt a b h in tell_le a b (omega arith))

pub ≺-≼-trans : (x y z : Frac) → x ≺ y → y ≼ z → x ≺ z
≺-≼-trans x y z h k = not_T (le_test z x) (λ t. T_not (le_test y x) h (≼_trans y z x k t))

pub ⊕-cancel : (x y z : Frac) → x ⊕ z ≼ y ⊕ z → x ≼ y
unfolding le_test ◌⊕◌
⊕-cancel x y z = induction_on₃ (λ x y z. Π_prop {A = x ⊕ z ≼ y ⊕ z} (λ h. T_prop (le_test x y))) x y z
    (λ a b c h.
    let h' : PartsLe (parts_add a c) (parts_add b c) = told-le (parts_add a c) (parts_add b c) h in
    tell_le a b (le_of_mul-le-mul_right {k = c.over * c.over} (omega arith) (mul-pos c.pos c.pos)))

pub ⊕-smono_left : (x y z : Frac) → x ≺ y → x ⊕ z ≺ y ⊕ z
⊕-smono_left x y z h = not_T (le_test (y ⊕ z) (x ⊕ z)) (λ t. T_not (le_test y x) h (⊕-cancel y x z t))

pub ⊕-smono : (x y z w : Frac) → x ≺ y → z ≼ w → x ⊕ z ≺ y ⊕ w
⊕-smono x y z w h k =
    ≺-≼-trans (x ⊕ z) (y ⊕ z) (y ⊕ w) (⊕-smono_left x y z h)
    (rw (⊕-comm y z, ⊕-comm y w) (⊕-mono_left z w y k))

-- a positive divisor
inv_law : (a : Parts) (p m : ℕ) → p ≡ a.up - a.down → a.down < a.up → Same (parts_mul a (inv_by p m a.over a.pos)) (parts_whole 1)
inv_law a (suc p) m e l = let u : a.up ≡ a.down + suc p = omega arith in omega (arith, times a.over u)
inv_law a zero zero e l = omega arith
inv_law a zero (suc m) e l = let z : ⊥ = omega arith in absurd z

pub inv_positive : (x : Frac) → whole 0 ≺ x → x ⊗ inv x ≡ whole 1
unfolding le_test whole ◌⊗◌ inv
inv_positive x = ind (λ x. Π_prop {A = whole 0 ≺ x} (λ h. Quot-set (x ⊗ inv x) (whole 1)))
    (λ a h. let l : PartsLt (parts_whole 0) a = told-lt (parts_whole 0) a h in sound (inv_law a _ _ refl (omega arith))) x

pub whole-≼ : (m n : ℕ) → (whole m ≼ whole n) ↔ (m ≤ n)
unfolding le_test whole
whole-≼ m n = (
  (λ h. let l : PartsLe (parts_whole m) (parts_whole n) = told-le (parts_whole m) (parts_whole n) h in omega arith),
  (λ h. tell_le (parts_whole m) (parts_whole n) (omega arith)),
)

pub whole-≺ : (m n : ℕ) → (whole m ≺ whole n) ↔ (m < n)
unfolding le_test whole
whole-≺ m n = (
  (λ h. let l : PartsLt (parts_whole m) (parts_whole n) = told-lt (parts_whole m) (parts_whole n) h in omega arith),
  (λ h. tell_lt (parts_whole m) (parts_whole n) (omega arith)),
)

parts_pos-mul : (a b : Parts) → a.down < a.up → b.down < b.up → PartsLt (parts_whole 0) (parts_mul a b)
parts_pos-mul a b h k =
    let p : ℕ = a.up - a.down in
    let q : ℕ = b.up - b.down in
    let e : a.up ≡ a.down + p = omega arith in
    let f : b.up ≡ b.down + q = omega arith in
    let pq : 0 < p * q = mul-pos (omega arith) (omega arith) in
    rw (e, f) (omega arith)

pub ⊗-pos : (x y : Frac) → whole 0 ≺ x → whole 0 ≺ y → whole 0 ≺ x ⊗ y
unfolding le_test whole ◌⊗◌
⊗-pos x y = induction_on₂ (λ x y. Π_prop {A = whole 0 ≺ x} (λ h. Π_prop {A = whole 0 ≺ y} (λ k. T_prop (not (le_test (x ⊗ y) (whole 0)))))) x y
    (λ a b h k.
    let h' : PartsLt (parts_whole 0) a = told-lt (parts_whole 0) a h in
    let k' : PartsLt (parts_whole 0) b = told-lt (parts_whole 0) b k in
    tell_lt (parts_whole 0) (parts_mul a b) (parts_pos-mul a b (omega arith) (omega arith)))

parts_nonneg_mul : (a b : Parts) → a.down ≤ a.up → b.down ≤ b.up → PartsLe (parts_whole 0) (parts_mul a b)
parts_nonneg_mul a b h k =
    let p : ℕ = a.up - a.down in
    let q : ℕ = b.up - b.down in
    let e : a.up ≡ a.down + p = omega arith in
    let f : b.up ≡ b.down + q = omega arith in
    rw (e, f) (omega arith)

pub ⊗-nonneg : (x y : Frac) → whole 0 ≼ x → whole 0 ≼ y → whole 0 ≼ x ⊗ y
unfolding le_test whole ◌⊗◌
⊗-nonneg x y = induction_on₂ (λ x y. Π_prop {A = whole 0 ≼ x} (λ h. Π_prop {A = whole 0 ≼ y} (λ k. T_prop (le_test (whole 0) (x ⊗ y))))) x y
    (λ a b h k.
    let h' : PartsLe (parts_whole 0) a = told-le (parts_whole 0) a h in
    let k' : PartsLe (parts_whole 0) b = told-le (parts_whole 0) b k in
    tell_le (parts_whole 0) (parts_mul a b) (parts_nonneg_mul a b (omega arith) (omega arith)))

-- the sign of (a - b) t, for t above zero
parts_sign_le : (a b : ℕ) (t : Parts) → t.down < t.up → PartsLe (parts_whole 0) (parts_mul (parts_add (parts_whole a) (parts_neg (parts_whole b))) t) ↔ (b ≤ a)
parts_sign_le a b t h =
    let p : ℕ = t.up - t.down in
    let e : t.up ≡ t.down + p = omega arith in (
      (λ l. le_of_mul-le-mul_right {k = p} (let l' = rw e at l in omega (arith, ap (λ (z : ℕ). a * z) e, ap (λ (z : ℕ). b * z) e)) (omega arith)),
      (λ l. omega (arith, mul-le-mul_right p l, ap (λ (z : ℕ). a * z) e, ap (λ (z : ℕ). b * z) e)),
    )

parts_sign_ge : (a b : ℕ) (t : Parts) → t.down < t.up → PartsLe (parts_mul (parts_add (parts_whole a) (parts_neg (parts_whole b))) t) (parts_whole 0) ↔ (a ≤ b)
parts_sign_ge a b t h =
    let p : ℕ = t.up - t.down in
    let e : t.up ≡ t.down + p = omega arith in (
      (λ l. le_of_mul-le-mul_right {k = p} (omega (arith, ap (λ (z : ℕ). a * z) e, ap (λ (z : ℕ). b * z) e)) (omega arith)),
      (λ l. omega (arith, mul-le-mul_right p l, ap (λ (z : ℕ). a * z) e, ap (λ (z : ℕ). b * z) e)),
    )

-- what the sign of (a - b) t is
abbrev pub Sign : (a b : ℕ) → Frac → Type 0
Sign a b x = ((whole 0 ≼ x) ↔ (b ≤ a)) × ((x ≼ whole 0) ↔ (a ≤ b))

sign_prop : (a b : ℕ) (x : Frac) → IsProp (Sign a b x)
sign_prop a b x = ×_prop (↔_prop (T_prop (le_test (whole 0) x)) le_prop) (↔_prop (T_prop (le_test x (whole 0))) le_prop)

pub sign_of : (a b : ℕ) (t : Frac) → whole 0 ≺ t → Sign a b ((whole a ⊖ whole b) ⊗ t)
unfolding le_test whole ◌⊗◌ ◌⊖◌ ◌⊕◌ neg
sign_of a b t = ind (λ t. Π_prop {A = whole 0 ≺ t} (λ h. sign_prop a b ((whole a ⊖ whole b) ⊗ t)))
    (λ r h.
    let h' : PartsLt (parts_whole 0) r = told-lt (parts_whole 0) r h in
    let x : Parts = parts_mul (parts_add (parts_whole a) (parts_neg (parts_whole b))) r in
    let k : r.down < r.up = omega arith in (
      (λ l. (parts_sign_le a b r k).0 (told-le (parts_whole 0) x l), λ l. tell_le (parts_whole 0) x ((parts_sign_le a b r k).1 l)),
      (λ l. (parts_sign_ge a b r k).0 (told-le x (parts_whole 0) l), λ l. tell_le x (parts_whole 0) ((parts_sign_ge a b r k).1 l)),
    )) t

parts_inv-pos : (a : Parts) (p m : ℕ) → p ≡ a.up - a.down → a.down < a.up → PartsLt (parts_whole 0) (inv_by p m a.over a.pos)
parts_inv-pos a (suc p) m e l = omega (arith, a.pos)
parts_inv-pos a zero zero e l = omega arith
parts_inv-pos a zero (suc m) e l = let z : ⊥ = omega arith in absurd z

pub inv-pos : (x : Frac) → whole 0 ≺ x → whole 0 ≺ inv x
unfolding le_test whole inv
inv-pos x = ind (λ x. Π_prop {A = whole 0 ≺ x} (λ h. T_prop (not (le_test (inv x) (whole 0)))))
    (λ a h. let h' : PartsLt (parts_whole 0) a = told-lt (parts_whole 0) a h in tell_lt (parts_whole 0) (parts_inv a) (parts_inv-pos a _ _ refl (omega arith))) x

-- equal fractions have the same value, and no others are equal
pub equal_means_same : (a b : Parts) → ◌≡◌ {A = Frac} (mk a) (mk b) → Same a b
unfolding le_test
equal_means_same a b p =
    le_antisymm
    (told-le a b (subst (λ (z : Frac). mk a ≼ z) p (≼_refl (mk a))))
    (told-le b a (subst (λ (z : Frac). mk b ≼ z) (sym p) (≼_refl (mk b))))

pub whole_pos : (n : ℕ) → 0 < n → whole 0 ≺ whole n
whole_pos n h = (whole-≺ 0 n).1 h

-- a factor that is not negative keeps the order, and a positive one the strict order: by the sign of the difference
diff : (x y : Frac) → x ≼ y → whole 0 ≼ y ⊖ x
unfolding ◌⊖◌
diff x y h = subst (λ (z : Frac). z ≼ y ⊕ neg x) (⊕-neg x) (⊕-mono_left x y (neg x) h)

sdiff : (x y : Frac) → x ≺ y → whole 0 ≺ y ⊖ x
unfolding ◌⊖◌
sdiff x y h = subst (λ (z : Frac). z ≺ y ⊕ neg x) (⊕-neg x) (⊕-smono_left x y (neg x) h)

pub zero-⊕ : (x : Frac) → whole 0 ⊕ x ≡ x
zero-⊕ x = ⊕-comm (whole 0) x ∙ ⊕-zero x

pub ⊖-⊕ : (x y : Frac) → x ⊖ y ⊕ y ≡ x
unfolding ◌⊖◌
⊖-⊕ x y = rw (⊕-assoc, ⊕-comm (neg y) y, ⊕-neg, ⊕-zero)

undiff : (x y : Frac) → whole 0 ≼ y ⊖ x → x ≼ y
undiff x y h = rw (zero-⊕, ⊖-⊕) at (⊕-mono_left (whole 0) (y ⊖ x) x h)

sundiff : (x y : Frac) → whole 0 ≺ y ⊖ x → x ≺ y
sundiff x y h = rw (zero-⊕, ⊖-⊕) at (⊕-smono_left (whole 0) (y ⊖ x) x h)

pub ⊗-mono : (x y t : Frac) → whole 0 ≼ t → x ≼ y → x ⊗ t ≼ y ⊗ t
⊗-mono x y t ht h = undiff (x ⊗ t) (y ⊗ t) (rw (← ⊖-⊗ y x t) (⊗-nonneg (y ⊖ x) t (diff x y h) ht))

pub ⊗-smono : (x y t : Frac) → whole 0 ≺ t → x ≺ y → x ⊗ t ≺ y ⊗ t
⊗-smono x y t ht h = sundiff (x ⊗ t) (y ⊗ t) (rw (← ⊖-⊗ y x t) (⊗-pos (y ⊖ x) t (sdiff x y h) ht))
