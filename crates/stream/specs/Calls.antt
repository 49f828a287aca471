-- What the functions of this crate promise.
--
-- pending_of line held == what is kept between pieces: the first bytes of the line buffer, and the number of words
-- ended p             == after a line's end: no byte kept, one word and 16 bytes of output more
-- open_answer s        == what open answers for a sheet: its table where it has no fault, and how much is printed
-- Lent                == what take_byte needs of its buffers
-- ByteKept            == what keep leaves
-- ByteTaken           == what take_byte leaves
-- PieceTaken          == what take_piece leaves
use Rattle.std.specs.Prelude.{ℕ, ◌+◌, ◌≤◌, ◌≡◌, List, [], ◌∷◌, ◌++◌, length, take, cond, eqb, Some, None}
use Rattle.basics.specs.Lists.{put}
use Rattle.fsbm.specs.declared.machine.Machine.{Machine}
use Rattle.sheet.specs.Reading.{first_fault, machine_of}
use Rattle.stream.specs.Pieces.{Pending, most_kept, after_byte, after_piece, byte_prints, piece_prints, opening}
use Rattle.stream.specs.declared.Held.{Held}
use Rattle.stream.specs.declared.Taken.{Taken}
use Rattle.stream.specs.declared.Opened.{Opened}

abbrev pub pending_of : List ℕ → Held → Pending
pending_of line held = record { bytes = take held.kept line; words = held.words }

abbrev pub ended : Taken → Taken
ended p = record { held = record { kept = 0; words = p.held.words + 1 }; used = p.used + 16 }

unfoldable pub open_answer : List ℕ → Opened
open_answer s = record { table = cond (eqb (first_fault s) 0) (Some (machine_of s)) None; used = length (opening s) }

-- the line buffer holds what is kept and no more, the output one line more
pub record Lent (line out : List ℕ) (p : Taken) : Type 0 where
  pub room : length line ≡ most_kept
  pub within : p.held.kept ≤ most_kept
  pub space : p.used + 16 ≤ length out

pub record ByteKept (line : List ℕ) (kept b r : ℕ) (line' : List ℕ) : Type 0 where
  pub bytes : take r line' ≡ take (length line) (take kept line ++ (b ∷ []))
  pub within : r ≤ length line

-- what is kept, what is printed behind the output so far, and how much; the line's bytes past those kept are left open
pub record ByteTaken (m : Machine) (list : List ℕ) (b : ℕ) (p : Taken) (line out : List ℕ) (r : Taken) (line' out' : List ℕ) : Type 0 where
  pub pending : pending_of line' r.held ≡ after_byte (pending_of line p.held) b
  pub printed : out' ≡ put p.used out (byte_prints m list (pending_of line p.held) b)
  pub used : r.used ≡ p.used + length (byte_prints m list (pending_of line p.held) b)
  pub within : r.held.kept ≤ most_kept

-- the same for a piece, printed from the front of the output on
pub record PieceTaken (m : Machine) (list piece : List ℕ) (held : Held) (line out : List ℕ) (r : Taken) (line' out' : List ℕ) : Type 0 where
  pub pending : pending_of line' r.held ≡ after_piece (pending_of line held) piece
  pub printed : out' ≡ put 0 out (piece_prints m list (pending_of line held) piece)
  pub used : r.used ≡ length (piece_prints m list (pending_of line held) piece)
  pub within : r.held.kept ≤ most_kept
