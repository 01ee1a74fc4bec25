-- R75: text put into a buffer.
use Rattle.std.specs.Prelude.{ℕ, ◌+◌, ◌≡◌, List, length}
use Rattle.exact.specs.Bytes.{put}
use Rattle.text.specs.declared.Page.{Page}

-- R75: text put from a place on: what the buffer then holds, and the place after the text
pub record PutFrom (buffer : List ℕ) (at : ℕ) (text : List ℕ) (after : List ℕ) (next : ℕ) : Type 0 where
  pub holds : after ≡ put buffer at text
  pub place : next ≡ at + length text

-- R75: text put on a page, from its place on: what the buffer then holds, which is the same buffer, as long as before, and the place after the text
pub record Puts (before : Page) (text : List ℕ) (after : Page) : Type 0 where
  pub holds : after.buffer.now ≡ put before.buffer.now before.at text
  pub place : after.at ≡ before.at + length text
  pub long : length after.buffer.now ≡ length before.buffer.now
  pub same_reference : after.buffer.ghost_name ≡ before.buffer.ghost_name
