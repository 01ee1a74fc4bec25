-- What holds where the account accepts a record.
use Rattle.std.specs.Prelude.{Ok}
use Prim.Native.Nat.{ℕ, ◌<◌}
use mathlib.Core.Path.{◌≡◌, sym, subst}
use mathlib.Core.List.{List}
use Rattle.site.specs.Rules.{year_minutes, Examined}
use Rattle.tool06.specs.Bounds.{Entry, IsAccepted, figures_of, worth_of}
use Rattle.tool06.specs.Tool.{Masses, Positive}
use Rattle.tool06.specs.declared.figures.Figures.{Figures}
use Rattle.tool06.proofs.Sizes.{gas-by-rule, rule_below, worth_within}
use Rattle.due.specs.Answer.{entry, answer}
use Rattle.due.proofs.Taken.{taken, room, same_figures}
use Rattle.account.specs.Adding.{due, worth}
use Rattle.account.specs.Promises.{NothingElse}
use Rattle.account.specs.scaffold.Small.{Small}
use Rattle.account.specs.declared.Account.{Account}

-- what the account adds is what the minute is worth
pub worth_is : (m : Masses) (e : Entry) → worth (figures_of m e) ≡ worth_of m e
unfolding worth
worth_is m e = rw (gas-by-rule m e)

-- the figures of an accepted minute
pub small : (m : Masses) → Positive m → (e : Entry) → IsAccepted e → Small (figures_of m e)
small m pos e fine = record { rule_below = rule_below m e; worth_within = rw (worth_is m e) (worth_within m pos e fine) }

pub accepted : (m : Masses) → Positive m → (a : Account) → Examined a.site → (bytes : List ℕ) (f : Figures) → answer m (due a) bytes ≡ Ok f → Small f × (a.sums.minutes < year_minutes a.site.year)
accepted m pos a examined bytes f e =
    let t = taken m (due a) examined bytes f e in
    (subst Small (sym t.figures_are) (small m pos (entry (due a) bytes) t.entry-accepted), room t)

pub nothing_else : NothingElse
nothing_else m a b = same_figures m (due a) (due b)
