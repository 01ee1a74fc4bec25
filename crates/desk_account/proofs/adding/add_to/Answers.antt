use Rattle.tool06.proofs.Ones.{ones, ones_positive}
use Rattle.account.proofs.Laws.{kept_add}
use Rattle.desk_account.proofs.adding.add_to.Goals as goal

pub returns : goal.returns
returns c = rw ((c.add.ensures ones ones_positive).1) (kept_add ones ones_positive c.requires _)
