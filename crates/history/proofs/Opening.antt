-- An account keeps the site and the list that it was opened with.
use mathlib.Core.Path.{◌≡◌, refl}
use Rattle.maintenance.specs.Days.{listed_days}
use Rattle.account.specs.Adding.{with_minute}
use Rattle.account.specs.Opening.{fresh}
use Rattle.account.proofs.Opens.{listed}
use Rattle.history.specs.Promises.{OpenedStays}
use Rattle.history.proofs.Calls.{every}

pub opened_stays : OpenedStays
unfolding fresh with_minute
opened_stays m pos s days a es =
    every m s days (λ a es. (a.site ≡ s) × (listed_days a.maintenance ≡ days)) (λ fine. (refl, listed s days fine))
    (λ a es r same bytes t. same)
