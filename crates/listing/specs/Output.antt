-- What the program hands to the write call, said of the sheet and of the input that it has read. The kit's contracts do not say
-- which bytes a read brings and a write takes, so the input read before is some list of bytes here, the same one that has led to
-- what the program holds.
--
-- piece_bytes sheet before piece == what is printed for a piece of the input that comes after the input before
-- end_bytes sheet input          == what is printed at the end of the input
-- ReadFrom sheet m list         == m and list are the table that read_sheet reads from a sheet without fault
-- HeldAfter line held           == what is held is what some input leaves
-- NextBytes sheet piece bytes   == these bytes are printed for the piece, after some input
-- at_end t                       == the input has ended or the last word is listed
-- done t                        == that, or the output is closed
-- LastBytes sheet line t bytes  == at the end, with the output open, these bytes are printed after an input that leaves what is held
-- Buffers                       == what list_piece needs of its buffers
-- PieceListed                   == what list_piece leaves
use Rattle.std.specs.Prelude.{ℕ, ◌*◌, ◌≤◌, ◌≡◌, List, Bool, true, false, ◌||◌, length, take, leb, eqb}
use Rattle.basics.specs.Lists.{put}
use Rattle.fsbm.specs.declared.machine.Machine.{Machine}
use Rattle.sheet.specs.Reading.{first_fault, machine_of, transitions_of, read_list}
use Rattle.stream.specs.Listing.{most_words}
use Rattle.stream.specs.Pieces.{most_kept, nothing_yet, after_piece, piece_prints, end_prints}
use Rattle.stream.specs.Calls.{pending_of}
use Rattle.stream.specs.declared.Held.{Held}
use Rattle.listing.specs.declared.Turn.{Turn}
pub mod Laws

unfoldable pub piece_bytes : List ℕ → List ℕ → List ℕ → List ℕ
piece_bytes sheet before piece = piece_prints (machine_of sheet) (transitions_of sheet) (after_piece nothing_yet before) piece

unfoldable pub end_bytes : List ℕ → List ℕ → List ℕ
end_bytes sheet input = end_prints (machine_of sheet) (transitions_of sheet) (after_piece nothing_yet input)

pub record ReadFrom (sheet : List ℕ) (m : Machine) (list : List ℕ) : Type 0 where
  pub good : first_fault sheet ≡ 0
  pub entry : List ℕ
  pub long : 12000 ≤ length entry
  pub machine : m ≡ machine_of sheet
  pub transitions : list ≡ read_list sheet entry

pub record HeldAfter (line : List ℕ) (held : Held) : Type 0 where
  pub input : List ℕ
  pub pending : pending_of line held ≡ after_piece nothing_yet input

pub record NextBytes (sheet piece bytes : List ℕ) : Type 0 where
  pub before : List ℕ
  pub printed : bytes ≡ piece_bytes sheet before piece

-- no byte of input came, or the last word is listed
abbrev pub at_end : Turn → Bool
at_end t = eqb t.count 0 || leb most_words t.held.words

-- the program reads on until this holds
abbrev pub done : Turn → Bool
done t = at_end t || t.closed

pub record LastBytes (sheet line : List ℕ) (t : Turn) (bytes : List ℕ) : Type 0 where
  pub input : List ℕ
  pub pending : pending_of line t.held ≡ after_piece nothing_yet input
  pub printed : bytes ≡ end_bytes sheet input
  pub at_end : at_end t ≡ true
  pub still_open : t.closed ≡ false

-- sixteen bytes of output for each byte of a piece
pub record Buffers (input line out : List ℕ) (held : Held) : Type 0 where
  pub piece : 16 * length input ≤ length out
  pub room : length line ≡ most_kept
  pub within : held.kept ≤ most_kept

-- the piece is the first bytes of the input buffer; it is taken once, and its output is the front of the output buffer
pub record PieceListed (m : Machine) (list : List ℕ) (held : Held) (line out : List ℕ) (r : Turn) (input' line' out' : List ℕ) : Type 0 where
  pub count : r.count ≤ length input'
  pub pending : pending_of line' r.held ≡ after_piece (pending_of line held) (take r.count input')
  pub printed : out' ≡ put 0 out (piece_prints m list (pending_of line held) (take r.count input'))
  pub within : r.held.kept ≤ most_kept
