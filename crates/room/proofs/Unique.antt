-- Each call's contract leaves one result.
-- `Learnt κs a x e` is what the contract says of the arguments a, the result x and the state e at exit; κs are the lifetimes.
use mathlib.Core.Path.{sym, ◌∙◌}
use Rattle.exact.specs.One.{OneResult}
use Rattle.room.proofs.room.Reads as room
use Rattle.room.proofs.room_from.Reads as room_from

pub room_one : (κs : _) (a : _) → OneResult (room.Learnt κs a)
room_one κs a x y e f p q = p ∙ sym q

pub room_from_one : (κs : _) (a : _) → OneResult (room_from.Learnt κs a)
room_from_one κs a x y e f p q = p ∙ sym q
