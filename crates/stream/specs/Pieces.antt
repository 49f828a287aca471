-- The listing of an input that comes in pieces. The law listing_of_pieces in specs/Whole.antt says that its output is the listing
-- of specs/Listing.antt, however the input is cut.
--
-- Pending                    == what is kept between two pieces: bytes of the present line, and the number of words listed
-- nothing_yet                 == what is kept before any input
-- most_kept                   == the most bytes that are kept
-- after_byte p b              == what is kept after one byte more
-- after_piece p piece         == what is kept after a piece
-- byte_prints m list p b      == what is printed at one byte
-- piece_prints m list p piece == what is printed for a piece
-- end_prints m list p         == what is printed at the end of the input: the last line without byte 10
-- opening sheet              == what is printed ahead of any input
use Rattle.std.specs.Prelude.{ℕ, ◌+◌, List, [], ◌∷◌, ◌++◌, cond, length, take, ltb, eqb}
use Rattle.fsbm.specs.declared.machine.Machine.{Machine}
use Rattle.lines.specs.Line.{longest_line}
use Rattle.sheet.specs.Reading.{first_fault}
use Rattle.stream.specs.Listing.{word_line, header, refused_sheet, most_words}
pub mod Laws

pub record Pending : Type 0 where
  pub bytes : List ℕ
  pub words : ℕ

abbrev pub nothing_yet : Pending
nothing_yet = record { bytes = []; words = 0 }

-- of a line that is too long one byte more is kept than a line may have
abbrev pub most_kept : ℕ
most_kept = longest_line + 1

-- byte 10 ends a word's line; after the last word nothing changes
unfoldable pub after_byte : Pending → ℕ → Pending
after_byte p b =
    cond (ltb p.words most_words)
    (cond (eqb b 10) (record { bytes = []; words = p.words + 1 }) (record { bytes = take most_kept (p.bytes ++ (b ∷ [])); words = p.words }))
    p

unfoldable pub after_piece : Pending → List ℕ → Pending
after_piece p [] = p
after_piece p (b ∷ piece) = after_piece (after_byte p b) piece

unfoldable pub byte_prints : Machine → List ℕ → Pending → ℕ → List ℕ
byte_prints m list p b = cond (ltb p.words most_words) (cond (eqb b 10) (word_line m list (p.words + 1) p.bytes) []) []

unfoldable pub piece_prints : Machine → List ℕ → Pending → List ℕ → List ℕ
piece_prints m list p [] = []
piece_prints m list p (b ∷ piece) = byte_prints m list p b ++ piece_prints m list (after_byte p b) piece

unfoldable pub end_prints : Machine → List ℕ → Pending → List ℕ
end_prints m list p =
    cond (ltb p.words most_words) (cond (eqb (length p.bytes) 0) [] (word_line m list (p.words + 1) p.bytes)) []

unfoldable pub opening : List ℕ → List ℕ
opening sheet = cond (eqb (first_fault sheet) 0) header (refused_sheet (first_fault sheet))
