-- R15, R16: the maintenance list, days relative to 1 January (day 0).
use Rattle.std.specs.Prelude.{ℕ, ◌-◌, ◌≤◌, ◌≡◌, Bool, true, false, ◌||◌, ◌&&◌, not, List, [], ◌∷◌, ◌++◌, ℤ, pos, ◌-ℤ◌, length, take, replicate}
use Rattle.std.specs.Int.Signed.{lt_z, le_z}
use Rattle.exact.specs.Ranges.{above, outside_z, minus}
use Rattle.maintenance.specs.declared.list.Maintenance.{Maintenance}

-- R15: each day is above the one before it
unfoldable pub rising_from : ℤ → List ℤ → Bool
rising_from before [] = true
rising_from before (d ∷ ds) = lt_z before d && rising_from d ds

-- R15: "strictly rising"
unfoldable pub rising : List ℤ → Bool
rising [] = true
rising (d ∷ ds) = rising_from d ds

-- R15: every day is in first..last
unfoldable pub within : ℤ → ℤ → List ℤ → Bool
within first last [] = true
within first last (d ∷ ds) = not (outside_z first last d) && within first last ds

-- R15, R51: 10, a list breaks its rule: "at most 64 .. days .., strictly rising, from -3,660 to the year's last day"
unfoldable pub list_wrong : List ℤ → ℤ → Bool
list_wrong days last = above 64 (length days) || not (rising days) || not (within (minus 3660) last days)

-- R16: the listed day e serves day d: "e <= d and d - e not above the site's days"
unfoldable pub serves : ℕ → ℕ → ℤ → Bool
serves d allowed e = le_z e (pos d) && le_z (pos d -ℤ e) (pos allowed)

-- R16: "Maintenance is in time on day d when some listed day" serves it
unfoldable pub in_time : List ℤ → ℕ → ℕ → Bool
in_time [] d allowed = false
in_time (e ∷ es) d allowed = serves d allowed e || in_time es d allowed

-- R15: the list as it is kept: its days, at most 64, after them zeros, and how many it has
unfoldable pub maintenance_of : List ℤ → Maintenance
maintenance_of days = record {
  days = take 64 days ++ replicate (64 - length days) (pos 0);
  listed = length days;
}

-- R15: the days that are listed
unfoldable pub listed_days : Maintenance → List ℤ
listed_days l = take l.listed l.days

-- R15, R89: what every list of at most 64 days has
pub record KeptList (l : Maintenance) : Type 0 where
  pub places : length l.days ≡ 64
  pub listed : l.listed ≤ 64
