use Rattle.std.proofs.Common.{◌≡◌, ◌+◌, ◌∙◌, sym, refl, rules, get_or, drop, drop_of_length-le}
use mathlib.Core.Bool.{◌||◌, ◌&&◌, not}
use lib.IntN.{ℤ, pos}
use lib.Signed.{lt_z, le_z}
use mir.Syntax.{w16}
use mir.Val.{to_z, of_z}
use mir.ValLaws.{to_z-of_z}
use Rattle.exact.specs.Ranges.{minus}
use Rattle.exact.proofs.Bools.{or_false}
use Rattle.maintenance.specs.Days.{rising_from, rising, within}
use Rattle.maintenance.proofs.Rising.{many_wrong, few_wrong, at_first, at_day, from_first_on}
use Rattle.maintenance.proofs.list.list_wrong.Goals as goal
use Rattle.maintenance.proofs.list.list_wrong.Goals.{Start, After-out_of_place}

-- the machine's bits of `last` are that number
last_back : (c : Start) → to_z w16 (of_z w16 c.args.last) ≡ c.args.last
last_back c = to_z-of_z w16 c.args.last c.ranges.last

module _ (c : After-out_of_place) where
  abbrev day : ℤ
  day = get_or c.args.list.now c.loop-day.day-index (pos 0)

  -- and so are those of the day that was read
  day_back : to_z w16 (of_z w16 day) ≡ day
  day_back = search rules

  -- what the call tells of it
  placed : c.out_of_place.result ≡ (le_z day (to_z w16 c.loop-day.before-bits) || lt_z c.args.last day)
  placed = rw (day_back, last_back c.before.before.before.before.before) at c.out_of_place.ensures

  -- the day that was read decides, or the days after it
  read_or_later :
      let a = c.args in
      let rest = drop (c.loop-day.day-index + 1) a.list.now in
      (rising a.list.now && within (minus 3660) a.last a.list.now) ≡ (not c.out_of_place.result && (rising_from day rest && within (minus 3660) a.last rest))
  read_or_later =
      let l = c.loop-day in
      rw placed ((rw (last_back c.before.before.before.before.before) at l.invariant.2) ∙ at_day c.args.list.now c.args.last (to_z w16 l.before-bits) l.day-index c.loop-day-test.true l.invariant.1)

pub returns-then-list-gt-MOST : goal.returns-then-list-gt-MOST
returns-then-list-gt-MOST c = sym (many_wrong c.args.list.now c.args.last c.if-list-gt-MOST.true)

pub loop-day-init : goal.loop-day-init
loop-day-init c = (c.if-list-gt-MOST.false, refl, at_first c.args.list.now _)

pub returns-then-out_of_place : goal.returns-then-out_of_place
returns-then-out_of_place c =
    sym (few_wrong c.args.list.now c.args.last c.loop-day.invariant.0 ∙ rw (read_or_later c.before, c.if-out_of_place.true) refl)

pub loop-day-preserved : goal.loop-day-preserved
loop-day-preserved c =
    let o = c.before.before in
    let l = c.loop-day in
    let above = (or_false (le_z (day o) (to_z w16 l.before-bits)) _ (sym (placed o) ∙ c.if-out_of_place.false)).0 in
    (l.invariant.0, rw (day_back o) (from_first_on (to_z w16 l.before-bits) (day o) l.invariant.1 above).1, rw (day_back o, last_back o.before.before.before.before.before) (read_or_later o ∙ rw c.if-out_of_place.false refl))

pub returns : goal.returns
unfolding rising_from within
returns c =
    let none = drop_of_length-le c.args.list.now {i = c.loop-day.day-index} c.loop-day-test.false in
    sym (few_wrong c.args.list.now c.args.last c.loop-day.invariant.0 ∙ rw (rw (last_back c.before.before.before) at c.loop-day.invariant.2, none) refl)
