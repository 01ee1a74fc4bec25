-- R75: where a line is put in a buffer: from a place on, if there is room for any line there; else nowhere.
use Rattle.std.specs.Prelude.{ℕ, ◌+◌, ◌≡◌, Bool, cond, List, leb, length}
use Rattle.exact.specs.Bytes.{put}
use Rattle.text.specs.declared.Page.{Page}

-- R75: no line is longer than 163 bytes: the longest have 43 of words and line end, and six numbers of at most 20 digits; a month's has 52, three numbers of at most 6 digits and four of 20
abbrev pub has_room : List ℕ → ℕ → Bool
has_room buffer at = leb (at + 163) (length buffer)

-- R75: what the buffer then holds
unfoldable pub placed : List ℕ → ℕ → List ℕ → List ℕ
placed buffer at line = cond (has_room buffer at) (put buffer at line) buffer

-- R75: the place after it
unfoldable pub place_after : List ℕ → ℕ → List ℕ → ℕ
place_after buffer at line = cond (has_room buffer at) (at + length line) at

-- R75: a line put on a page, from its place on, if there is room for any line there; the buffer is the same, and as long as before
pub record PutsLine (before : Page) (line : List ℕ) (after : Page) : Type 0 where
  pub place : after.at ≡ place_after before.buffer.now before.at line
  pub holds : after.buffer.now ≡ placed before.buffer.now before.at line
  pub long : length after.buffer.now ≡ length before.buffer.now
  pub same_reference : after.buffer.ghost_name ≡ before.buffer.ghost_name
