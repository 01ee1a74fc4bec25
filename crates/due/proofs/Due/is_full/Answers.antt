use Rattle.due.specs.Answer.{is_full}
use Rattle.due.proofs.Due.is_full.Goals as goal

pub returns : goal.returns
unfolding is_full
returns c = rw c.minutes.ensures
