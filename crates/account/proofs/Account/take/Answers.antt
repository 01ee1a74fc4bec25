use Rattle.account.specs.Adding.{month_due, with_minute}
use Rattle.account.proofs.Laws.{sums_fit, row_fits, month-due}
use Rattle.account.proofs.Account.take.Goals as goal

pub add_in-requires : goal.add_in-requires
add_in-requires c =
    let p = c.requires in
    let a = c.args.self.now in
    record {
      rows_len = rw c.month_of-month.ensures (p.kept.rows_all, (month-due a p.minutes_bound).0);
      fits = rw (c.month_of-month.ensures, c.worth-one.ensures) (row_fits p.kept p.small p.minutes_bound (month_due a));
    }

pub plus-self-requires : goal.plus-self-requires
plus-self-requires c =
    let p = c.requires in
    rw c.worth-one.ensures (sums_fit p.kept p.small p.minutes_bound)

pub returns : goal.returns
unfolding with_minute
returns c =
    rw (
      c.plus-self.ensures,
      c.one_more.ensures,
      c.add_in.ensures,
      c.month_of-month.ensures,
      c.worth-one.ensures,
    )
