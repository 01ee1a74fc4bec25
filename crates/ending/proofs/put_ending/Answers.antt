use native.Mathlib.Omega.{arith}
use Rattle.text.proofs.Putting.{onwards}
use Rattle.sheet.proofs.Uncut.{sheet_uncut}
use Rattle.room.proofs.Placing.{whole}
use Rattle.ending.proofs.put_ending.Goals as goal

pub returns : goal.returns
returns c =
    let account = c.args.account in
    let short = sheet_uncut.total account in
    let last = sheet_uncut.year account in
    let total = whole (omega arith) c.put_total.ensures in
    let year = whole (omega arith) c.put_year.ensures in
    record { put_from = onwards total year; within = omega arith }
