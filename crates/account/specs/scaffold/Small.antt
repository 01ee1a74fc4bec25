-- What the figures of every accepted minute have, so that they fit into the account's sums.
use Rattle.std.specs.Prelude.{◌<◌}
use Rattle.sums.specs.Within.{Within}
use Rattle.tool06.specs.Rules.{rule_count}
use Rattle.tool06.specs.declared.figures.Figures.{Figures}
use Rattle.account.specs.Adding.{worth}

pub record Small (f : Figures) : Type 0 where
  pub rule_below : f.rule < rule_count
  pub worth_within : Within (worth f)
