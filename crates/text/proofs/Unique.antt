-- Each call's contract leaves one state of the page, its buffer and its place.
-- `Learnt κs a x e` is what the contract says of the arguments a, the result x and the state e at exit; κs are the lifetimes.
use Rattle.std.specs.Prelude.{ℕ, List}
use mathlib.Core.Path.{◌≡◌, refl, sym, ◌∙◌}
use Rattle.exact.specs.One.{OneOutcome}
use Rattle.text.specs.declared.Page.{Page}
use Rattle.text.proofs.Page.decimal.Reads as decimal
use Rattle.text.proofs.Page.text.Reads as text

-- what a caller sees of a page
abbrev pub state : Page → List ℕ × ℕ
state page = (page.buffer.now, page.at)

pub same_state : {b b' : List ℕ} {n n' : ℕ} → b ≡ b' → n ≡ n' → ◌≡◌ {A = List ℕ × ℕ} (b, n) (b', n')
same_state p q = λ i. (p i, q i)

pub put-decimal_one : (κs : _) (a : _) → OneOutcome (λ e. state e.0.now) (decimal.Learnt κs a)
put-decimal_one κs a x y e f p q = (refl, same_state (p.0.holds ∙ sym q.0.holds) (p.0.place ∙ sym q.0.place))

pub put-text_one : (κs : _) (a : _) → OneOutcome (λ e. state e.0.now) (text.Learnt κs a)
put-text_one κs a x y e f p q = (refl, same_state (p.holds ∙ sym q.holds) (p.place ∙ sym q.place))
