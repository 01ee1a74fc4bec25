use native.Mathlib.Omega.{arith}
use Rattle.text.proofs.Decimals.{decimal-below}
use Rattle.sheet.proofs.put_count.Goals as goal

pub returns-clause-within : goal.returns-clause-within
returns-clause-within c =
    let most = c.requires.n_le_minutes_most in
    omega (arith, c.decimal.ensures.put_from.place, decimal-below 6 c.args.n (omega arith) (omega arith))
