-- What a private routine does that writes bytes from a place of the line buffer on. A place behind the buffer's end means that something did not fit
use Rattle.std.specs.Prelude.{ℕ, ◌+◌, ◌≤◌, ◌<◌, ◌≡◌, List, ◌++◌, length, take, cond, leb}
use Rattle.words.specs.Areas.{cleared_from}
use Rattle.column_files.specs.Convert.{success, refusal}
use Rattle.column_files.specs.declared.Converted.{Converted}
use Rattle.error_lines.specs.declared.buffer.Sink.{Sink}

-- `text` was written from place `at` on and `r` is the place after it; where it does not fit, `r` is behind the end
pub record Puts (text : List ℕ) (at : ℕ) (before after : List ℕ) (r : ℕ) : Type 0 where
  pub same : length after ≡ length before
  pub place : at + length text ≤ length before → r ≡ at + length text
  pub bytes : at + length text ≤ length before → take r after ≡ take at before ++ text
  pub full : length before < at + length text → length before < r

-- `text` was written into the same buffer from its place on
pub record Writes (text : List ℕ) (before after : Sink) : Type 0 where
  pub same_buffer : after.out.ghost_name ≡ before.out.ghost_name
  pub puts : Puts text before.place before.out.now after.out.now after.place

-- what the place after the lines becomes: the reply, and zeros after them, or everywhere
pub record Finishes (end : ℕ) (before after : List ℕ) (r : Converted) : Type 0 where
  pub reply : r ≡ cond (leb end (length before)) (success end) (refusal 9 13)
  pub output : after ≡ cleared_from (cond (leb end (length before)) end 0) before
