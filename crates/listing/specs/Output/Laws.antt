-- What the program hands to the write call, one after the other, is the listing.
--
-- pieces_bytes sheet before ps == what is printed for pieces that come after the input before, each as list_piece hands it on
-- output_is_listing           == the opening, the bytes of the pieces and the bytes of the end are the listing of the joined pieces
use Rattle.std.specs.Prelude.{ℕ, ◌≡◌, refl}
use Rattle.std.proofs.Common.{ap, ◌∙◌}
use mathlib.Core.List.{List, [], ◌∷◌, ◌++◌, flatten}
use Rattle.sheet.specs.Reading.{first_fault, machine_of, transitions_of}
use Rattle.stream.specs.Listing.{listing}
use Rattle.stream.specs.Pieces.{Pending, nothing_yet, after_piece, opening}
use Rattle.stream.specs.Pieces.Laws.{after_cut, pieces_print}
use Rattle.stream.specs.Whole.{listing_of_pieces}
use Rattle.listing.specs.Output.{piece_bytes, end_bytes}

unfoldable pub pieces_bytes : List ℕ → List ℕ → List (List ℕ) → List ℕ
pieces_bytes sheet before [] = []
pieces_bytes sheet before (piece ∷ pieces) = piece_bytes sheet before piece ++ pieces_bytes sheet (before ++ piece) pieces

same_bytes : (sheet before : List ℕ) (pieces : List (List ℕ)) → pieces_bytes sheet before pieces ≡ pieces_print (machine_of sheet) (transitions_of sheet) (after_piece nothing_yet before) pieces
unfolding pieces_bytes piece_bytes pieces_print
same_bytes sheet before [] = refl
same_bytes sheet before (piece ∷ pieces) =
    ap (λ (z : List ℕ). piece_bytes sheet before piece ++ z)
    (same_bytes sheet (before ++ piece) pieces ∙ ap (λ (z : Pending). pieces_print (machine_of sheet) (transitions_of sheet) z pieces) (after_cut nothing_yet before piece))

pub output_is_listing : (sheet : List ℕ) → first_fault sheet ≡ 0 → (pieces : List (List ℕ))
    → opening sheet ++ (pieces_bytes sheet [] pieces ++ end_bytes sheet (flatten pieces)) ≡ listing sheet (flatten pieces)
unfolding end_bytes after_piece
output_is_listing sheet good pieces =
    ap (λ (z : List ℕ). opening sheet ++ (z ++ end_bytes sheet (flatten pieces))) (same_bytes sheet [] pieces) ∙ listing_of_pieces sheet good pieces
