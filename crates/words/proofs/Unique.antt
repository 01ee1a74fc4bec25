-- Each call's contract leaves one result, and one state of a lent buffer.
-- `Learnt κs a x e` is what the contract says of the arguments a, the result x and the state e at exit; κs are the lifetimes.
use mathlib.Core.Path.{sym, ◌∙◌}
use Rattle.exact.specs.One.{OneResult, OneOutcome}
use Rattle.words.proofs.hex.put_bytes.Reads as put-bytes
use Rattle.words.proofs.number.number_in.Reads as number_in
use Rattle.words.proofs.number.signed_in.Reads as signed-in
use Rattle.words.proofs.place.end_of_word.Reads as end-of-word

pub end_of_word_one : (κs : _) (a : _) → OneResult (end-of-word.Learnt κs a)
end_of_word_one κs a x y e f p q = p.0 ∙ sym q.0

pub number_in_one : (κs : _) (a : _) → OneResult (number_in.Learnt κs a)
number_in_one κs a x y e f p q = p ∙ sym q

pub signed_in_one : (κs : _) (a : _) → OneResult (signed-in.Learnt κs a)
signed_in_one κs a x y e f p q = p ∙ sym q

pub put-bytes_one : (κs : _) (a : _) → OneOutcome (λ e. e.1.0.now) (put-bytes.Learnt κs a)
put-bytes_one κs a x y e f p q = (p.0 ∙ sym q.0, p.1 ∙ sym q.1)
