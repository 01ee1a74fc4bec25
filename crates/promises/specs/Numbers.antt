-- R58: the number and the values of each answer's cases.
use Rattle.run.specs.declared.Refused.{Refused}
use Rattle.run.specs.declared.Refused.TheVariants.{Run, At}
use Rattle.std.specs.Prelude.{Result, Ok, Err, ℕ, zero, suc, ◌-◌, ◌≡◌, true, false, List, [], ◌∷◌}
use Prim.Native.String.{String}
use Rattle.std.proofs.Math.Option.{Option, some, none}
use Rattle.refusals.specs.Refusals.{number_of}
use Rattle.refusals.specs.Tables.{Line, when}
use Rattle.refusals.specs.declared.refusal.Refusal.{Refusal}
use Rattle.site.specs.declared.Site.{Site}
use Rattle.minute.specs.declared.Minute.{Minute}
use Rattle.tool06.specs.declared.class.Class.{Class}
use Rattle.tool06.specs.declared.class.Class.TheVariants.{Open, Low, Tall}
use Rattle.tool06.specs.declared.figures.Figures.{Figures}
use Rattle.account.specs.declared.Account.{Account}
use Rattle.by_month.specs.declared.Row.{Row}

-- R58: what comes back: a number, 0 where nothing is refused, and the values beside it, if there are any
pub record Said (A : Type 0) : Type 0 where
  pub number : ℕ
  pub values : Option A

-- R58: 0, with values beside it
abbrev pub given : {A : Type 0} → A → Said A
given v = record { number = 0; values = some v }

-- R58: "A refusal returns its number and nothing else"
abbrev pub refused : {A : Type 0} → Refusal → Said A
refused r = record { number = number_of r; values = none }

-- R52, R58: reading a site
abbrev pub said_of_site : Result Site Refusal → Said Site
said_of_site (Ok s) = given s
said_of_site (Err r) = refused r

-- R58, R61: reading a minute
abbrev pub said_of_minute : Result Minute Refusal → Said Minute
said_of_minute (Ok n) = given n
said_of_minute (Err r) = refused r

-- R53, R58: opening an account
abbrev pub said_of_opened : Result Account Refusal → Said Account
said_of_opened (Ok a) = given a
said_of_opened (Err r) = refused r

-- R56, R58: adding a minute
abbrev pub said_of_judged : Result Figures Refusal → Said Figures
said_of_judged (Ok f) = given f
said_of_judged (Err r) = refused r

-- R48, R58: closing
abbrev pub said_of_closed : Result ℕ Refusal → Said ℕ
said_of_closed (Ok t) = given t
said_of_closed (Err r) = refused r

-- R58, R92: asking for a month
abbrev pub said_of_asked : Result Row Refusal → Said Row
said_of_asked (Ok row) = given row
said_of_asked (Err r) = refused r

-- R58: a verdict, where this stands beside one that refuses nothing
abbrev pub said_of_verdict : {A : Type 0} → A → Result Unit Refusal → Said A
said_of_verdict v (Ok tt) = given v
said_of_verdict v (Err r) = refused r

-- R58, R62: "as day, minute of the day .. and number, or none"; "else 1, without a place"
abbrev pub said_of_checked : Result Unit Refused → Said (ℕ × ℕ)
said_of_checked (Ok tt) = record { number = 0; values = none }
said_of_checked (Err (Run r)) = record { number = number_of r; values = none }
said_of_checked (Err (At day minute r)) = record { number = number_of r; values = some (day, minute) }

-- R18, R58: the word for a class, which refuses nothing
abbrev pub said_of_class : Class → Said String
said_of_class Open = given "open"
said_of_class Low = given "low"
said_of_class Tall = given "tall"

-- R50: "First match decides"
abbrev pub decides : {A : Type 0} → List Line → A → Said A
decides [] v = given v
decides (when true r ∷ rest) v = refused r
decides (when false r ∷ rest) v = decides rest v

-- R50: the numbers of a table, "in the order listed for each call"
abbrev pub numbers : List Line → List ℕ
numbers [] = []
numbers (when bad r ∷ rest) = number_of r ∷ numbers rest

-- so many numbers from the first on
abbrev pub counted_from : ℕ → ℕ → List ℕ
counted_from zero first = []
counted_from (suc k) first = first ∷ counted_from k (suc first)

infixl 70 ◌to◌
-- 3 to 9
abbrev pub ◌to◌ : ℕ → ℕ → List ℕ
first to last = counted_from (suc last - first) first

-- R50: what is said is decided by a table of these numbers in this order; where none of its lines matches, it is these values
pub record By (order : List ℕ) (table : List Line) {A : Type 0} (said : Said A) (values : A) : Type 0 where
  pub in_order : numbers table ≡ order
  pub decided : said ≡ decides table values
