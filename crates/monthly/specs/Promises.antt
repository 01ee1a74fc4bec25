-- R76, R93: the records may come in pieces: `months` prints what it would print of all of them in one input.
use Rattle.refusals.specs.declared.refusal.Refusal.{Refusal}
use Rattle.std.specs.Prelude.{Result, Ok, Err, ℕ, ◌*◌, ◌≡◌, List, ◌++◌, length}
use Rattle.minute.specs.Record.{minute_form}
use Rattle.tool06.specs.Tool.{Masses}
use Rattle.in_turn.specs.Turn.{records_of, AddedAll, add_all}
use Rattle.account.specs.declared.Account.{Account}
use Rattle.monthly.specs.Monthly.{month_sheet}

-- R93: what is printed of records after the site, whose account was opened
abbrev pub months_of : AddedAll → List ℕ
months_of all = month_sheet all.account all.verdict

-- R76: what is printed of records that follow others: where one of those was refused, nothing more than of them
abbrev pub months_after : Masses → AddedAll → List ℕ → Result Unit Refusal → List ℕ
months_after m before c (Ok tt) = months_of (add_all m before.account (records_of c))
months_after m before c (Err r) = months_of before

-- R76: n whole records, and then what follows them, print what they print in one piece
abbrev pub MonthsInPieces : Type 0
MonthsInPieces =
    (m : Masses) (a : Account) (n : ℕ) (b c : List ℕ)
    → length b ≡ n * minute_form.size
    → let before = add_all m a (records_of b) in
    months_of (add_all m a (records_of (b ++ c))) ≡ months_after m before c before.verdict
