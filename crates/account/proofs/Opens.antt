-- What opening examined.
use Rattle.std.specs.Prelude.{Ok}
use Prim.Native.Nat.{◌≤◌}
use mathlib.Core.Path.{◌≡◌, subst}
use mathlib.Core.List.{List, [], ◌∷◌}
use borrow.Author.Tests.{ltb-false}
use lib.Dec.{ltb}
use lib.IntN.{ℤ}
use lib.ListN.{length}
use Rattle.exact.proofs.Bools.{or_false}
use Rattle.refusals.specs.Tables.{Line, when, first_of}
use Rattle.refusals.specs.declared.refusal.Refusal.TheVariants.{List as LIST}
use Rattle.refusals.proofs.Tables.{split, none}
use Rattle.site.specs.Rules.{site_lines, Examined}
use Rattle.site.specs.declared.Site.{Site}
use Rattle.maintenance.specs.Days.{list_wrong, listed_days, maintenance_of, KeptList}
use Rattle.maintenance.proofs.Laws.{kept_list, kept_few, listed-days, few}
use Rattle.account.specs.Kept.{Kept}
use Rattle.account.specs.Opening.{last_day, open_lines}
use Rattle.account.specs.declared.Account.{Account}

module _ (s : Site) (days : List ℤ) where
  abbrev list_lines : List Line
  list_lines = when (list_wrong days (last_day s.year)) LIST ∷ []

  module _ (fine : first_of (open_lines s days) ≡ Ok tt) where
    both : Examined s × (first_of list_lines ≡ Ok tt)
    unfolding open_lines
    both = split (site_lines s) list_lines fine

    pub examined : Examined s
    examined = both.0

    not_long : length days ≤ 64
    not_long = few days (last_day s.year) (none list_lines both.1).0

    pub list_is_kept : KeptList (maintenance_of days)
    list_is_kept = kept_list days not_long

    -- the list as it is kept is the list that was given
    pub listed : listed_days (maintenance_of days) ≡ days
    listed = listed-days days not_long

    pub opens_kept : first_of (open_lines s (listed_days (maintenance_of days))) ≡ Ok tt
    opens_kept = rw listed fine

  pub as_given : KeptList (maintenance_of days) → first_of (open_lines s (listed_days (maintenance_of days))) ≡ Ok tt → first_of (open_lines s days) ≡ Ok tt
  as_given k fine = subst (λ (ds : List ℤ). first_of (open_lines s ds) ≡ Ok tt) (listed-days days (kept_few days k)) fine

pub site_examined : {a : Account} → Kept a → Examined a.site
site_examined {a} k = examined a.site (listed_days a.maintenance) k.opens

-- opening examined the GWP
pub gwp_most : (s : Site) → Examined s → s.gwp ≤ 100
unfolding site_lines
gwp_most s fine = ltb-false 100 s.gwp (or_false (ltb s.gwp 1) (ltb 100 s.gwp) (none (site_lines s) fine).1.1.0).1
