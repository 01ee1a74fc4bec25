-- R87: how far CO2 equivalent and the tonnes are from equation (15).
use Rattle.std.specs.Prelude.{Ok, ℕ, ◌*◌, ◌<◌, ◌≡◌}
use Rattle.exact.specs.Fractions.{Frac, ◌⊕◌, ◌⊗◌, ◌⊘◌, whole, ◌≼◌, ◌≺◌}
use Rattle.tool06.specs.Year.{PE_flare}
use Rattle.account.specs.Closing.{co2e, closing}
use Rattle.account.specs.declared.Account.{Account}
use Rattle.history.specs.Promises.{OfEvery}

-- R87: an account with N minutes with gas beside PE in tonnes; co2e is in mg, 1,000,000,000 to a tonne
pub record BesideEquation15 (PE : Frac) (GWP N : ℕ) (a : Account) : Type 0 where
  -- no gas: both are zero
  pub no_gas : N ≡ 0 → (co2e a ≡ 0) × (PE ≡ whole 0)
  -- CO2 equivalent is never below ..
  pub co2e_not_below : PE ⊗ whole 1000000000 ≼ whole (co2e a)
  -- .. and less than GWP x N mg above
  pub co2e_near : 0 < N → whole (co2e a) ≺ PE ⊗ whole 1000000000 ⊕ whole (GWP * N)
  -- the tonnes, which are rounded up once more, are never below ..
  pub tonnes_not_below : (t : ℕ) → closing a ≡ Ok t → PE ≼ whole t
  -- .. and less than GWP x N mg and one tonne above
  pub tonnes_near : (t : ℕ) → closing a ≡ Ok t → whole t ≺ PE ⊕ whole (GWP * N) ⊘ whole 1000000000 ⊕ whole 1

-- R87: of every account, with its own minutes with gas
abbrev pub Equation15 : Type 0
Equation15 = OfEvery (λ m s days a es. BesideEquation15 (PE_flare m s.gwp es) s.gwp a.sums.gas a)
