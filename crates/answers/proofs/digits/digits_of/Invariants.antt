use Rattle.std.proofs.Common.{◌≡◌, ℕ, ◌-◌, ◌/◌, ◌%◌, ◌^◌, ◌≤◌, ◌<◌, length, get_or}
use Rattle.answers.specs.Digits.{hex_digit}
use Rattle.answers.proofs.digits.digits_of.Given as goal

abbrev pub invariant-loop-k : goal.invariant-loop-k
invariant-loop-k l = (length l.digits ≡ 16) × (l.left ≡ l.n / 16 ^ (16 - l.k)) × ((k : ℕ) → l.k ≤ k → k < 16 → get_or l.digits k 0 ≡ hex_digit (l.n / 16 ^ (15 - k) % 16))
