use Rattle.std.proofs.Common.{rules, ◌≡◌, refl, ◌∙◌, ℕ, List, [], ◌∷◌}
use lib.IntN.{ℤ}
use Rattle.std.specs.List.{list_any}
use Rattle.std.proofs.lemmas.Iterator.{YieldsList-from_slice}
use Rattle.std.proofs.lemmas.Iterator.Search.{any_from_yields_List}
use Rattle.maintenance.specs.Days.{serves, in_time}
use Rattle.maintenance.proofs.time.in_time.Goals as goal

any_serves : (days : List ℤ) (day allowed : ℕ) → list_any (λ e. serves day allowed e) days ≡ in_time days day allowed
unfolding in_time
any_serves [] day allowed = refl
any_serves (e ∷ es) day allowed = rw (any_serves es day allowed) refl

pub returns : goal.returns
returns c =
    let a = c.args in
    any_from_yields_List (λ e. serves a.day a.allowed e) _ _ _ c.any.ensures.ran (YieldsList-from_slice a.list.now cc) (λ x b q k. search rules) ∙ any_serves a.list.now a.day a.allowed
