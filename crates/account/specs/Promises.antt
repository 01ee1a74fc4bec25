-- R45, R49, R54, R58: what is promised of the calls of an account, whatever account it is.
use Rattle.std.specs.Prelude.{Ok, Err, ℕ, ◌≡◌, ◌↔◌, false, List, ℤ, pos}
use Rattle.std.specs.Float.{binary64}
use Rattle.std.specs.Float.Ieee.{of_int}
use Rattle.std.specs.Float.Ieee.Exact.{HasValue}
use Rattle.refusals.specs.declared.refusal.Refusal.{Refusal}
use Rattle.site.specs.declared.Site.{Site}
use Rattle.minute.specs.Record.{minute_of}
use Rattle.tool06.specs.Tool.{Masses}
use Rattle.tool06.specs.declared.figures.Figures.{Figures}
use Rattle.due.specs.Answer.{in_time_at, answer}
use Rattle.account.specs.Adding.{due, add_to}
use Rattle.account.specs.Closing.{co2e}
use Rattle.account.specs.Kept.{Kept}
use Rattle.account.specs.Opening.{fresh, opened}
use Rattle.account.specs.declared.Account.{Account}

-- R54: the calls take an account of these fields with no minute yet exactly where opening gives it
abbrev pub OnlyOpened : Type 0
OnlyOpened = (s : Site) (days : List ℤ) → Kept (fresh s days) ↔ (opened s days ≡ Ok (fresh s days))

-- R58, R83: "A refusal returns its number and nothing else; the account .. stay[s]"
abbrev pub RefusedStays : Type 0
RefusedStays = (m : Masses) (a : Account) (bytes : List ℕ) (r : Refusal) → answer m (due a) bytes ≡ Err r → (add_to m a bytes).account ≡ a

-- R45: a minute's figures depend on nothing but its site, its record and whether maintenance is in time: two accounts that agree in these give the same, whatever minutes they took before
abbrev pub NothingElse : Type 0
NothingElse =
    (m : Masses) (a b : Account) (bytes : List ℕ) (f g : Figures)
    → a.site ≡ b.site
    → in_time_at (due a) (minute_of bytes).number ≡ in_time_at (due b) (minute_of bytes).number
    → answer m (due a) bytes ≡ Ok f
    → answer m (due b) bytes ≡ Ok g
    → f ≡ g

-- R49: as an f64 it is finite, not negative, and mg / 1 in size
abbrev pub ConvertedExactly : ℕ → Type 0
ConvertedExactly mg = HasValue (of_int binary64 (pos mg)) false mg 1

-- R49: "the mg sum converted without loss"
abbrev pub Lossless : Type 0
Lossless = (a : Account) → Kept a → ConvertedExactly a.sums.fed × ConvertedExactly (co2e a)
