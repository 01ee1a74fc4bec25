-- The months of records that come in pieces are those of all of them.
use Rattle.std.specs.Prelude.{Result, Ok, Err}
use Rattle.refusals.specs.declared.refusal.Refusal.{Refusal}
use mathlib.Core.Path.{◌≡◌, refl}
use Rattle.in_turn.specs.Turn.{records_of, AddedAll, add_all}
use Rattle.in_turn.proofs.Turn.{unless_ended, records-append, add-append}
use Rattle.monthly.specs.Promises.{months_of, months_after, MonthsInPieces}

pub months_in_pieces : MonthsInPieces
months_in_pieces m a n b c e = rw (records-append n b c e, add-append m a (records_of b) (records_of c)) (by_end before.verdict refl)
  where
    before : AddedAll
    before = add_all m a (records_of b)

    by_end : (v : Result Unit Refusal) → before.verdict ≡ v → months_of (unless_ended v before (add_all m before.account (records_of c))) ≡ months_after m before c v
    by_end (Ok tt) is = refl
    by_end (Err r) is = refl
