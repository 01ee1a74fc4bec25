-- A line put where there is room for any line, and where there is none.
use Prim.Native.Nat.{ℕ, ◌+◌, ◌≤◌, ◌<◌}
use mathlib.Core.Path.{◌≡◌, refl}
use mathlib.Core.Bool.{Bool, true, false, cond}
use mathlib.Core.List.{List, []}
use native.Mathlib.Nat.{add-zero}
use lib.ListN.{length}
use borrow.Author.Tests.{le-leb, lt-leb}
use Rattle.exact.specs.Bytes.{put}
use Rattle.text.specs.Places.{Puts}
use Rattle.text.specs.declared.Page.{Page}
use Rattle.room.specs.Places.{has_room, placed, place_after, PutsLine}

pub there : {a b : Page} {line : List ℕ} → a.at + 163 ≤ length a.buffer.now → Puts a line b → PutsLine a line b
unfolding placed place_after
there h w = record { place = rw (le-leb _ _ h) w.place; holds = rw (le-leb _ _ h) w.holds; long = w.long; same_reference = w.same_reference }

pub nowhere : (a : Page) (line : List ℕ) → length a.buffer.now < a.at + 163 → PutsLine a line a
unfolding placed place_after
nowhere a line h = record { place = rw (lt-leb _ _ h); holds = rw (lt-leb _ _ h); long = refl; same_reference = refl }

-- an empty line changes nothing
pub no_line : (a : Page) {line : List ℕ} → line ≡ [] → PutsLine a line a
unfolding placed place_after put
no_line a e = record { place = rw (e, add-zero) (same_place (has_room a.buffer.now a.at)); holds = rw e (same_bytes (has_room a.buffer.now a.at)); long = refl; same_reference = refl }
  where
    same_place : (t : Bool) → a.at ≡ cond t a.at a.at
    same_place true = refl
    same_place false = refl

    same_bytes : (t : Bool) → a.buffer.now ≡ cond t a.buffer.now a.buffer.now
    same_bytes true = refl
    same_bytes false = refl

-- a line that is put where there is room for any line stands there whole
pub whole : {a b : Page} {line : List ℕ} → a.at + 163 ≤ length a.buffer.now → PutsLine a line b → Puts a line b
unfolding placed place_after
whole h p = record { holds = rw (le-leb _ _ h) at p.holds; place = rw (le-leb _ _ h) at p.place; long = p.long; same_reference = p.same_reference }
