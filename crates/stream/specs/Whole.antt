-- However the input is cut into pieces, what is printed is the listing of specs/Listing.antt.
--
-- glue k ls        == the bytes k in front of the first of these lines
-- input_lines      == what an input and its end print are the lines of its words
-- listing_of_pieces == the opening, what the pieces print and what the end prints are the listing of the joined pieces
-- listing_refused  == of a sheet with a fault the opening is the whole listing
-- prints_read, end_read == the table that read_sheet reads into a list of at least 12,000 elements prints the same
-- read_taken, number_read == for such a list the only refusal is the sheet's fault, and its number is that of the fault
use Prim.Native.Nat.{ℕ, zero, suc, ◌+◌, ◌-◌, ◌*◌, ◌<◌, ◌≤◌}
use Rattle.std.specs.Prelude.{◌≡◌, Bool, true, length, take, eqb, Option, None, Some, Result, Ok, Err}
use Rattle.std.proofs.Math.Path.{refl, sym, ap}
use Rattle.std.proofs.Common.{◌∙◌, add-one, le-leb, eq-eqb, ne_eqb}
use mathlib.Core.List.{List, [], ◌∷◌, ◌++◌, append_assoc, append-nil, flatten}
use Rattle.std.proofs.Math.Bool.{cond}
use native.Mathlib.Omega.{arith}
use Rattle.std.proofs.Math.Decide.{dec_lt, ℕ_discrete}
use Rattle.std.proofs.Math.ListN.{drop}
use Rattle.std.proofs.Math.Seq.{take-nil}
use Rattle.basics.specs.Search.Loops.{first, second}
use Rattle.fsbm.specs.Answers.{refusal, unless, by_refusal, machine_values}
use Rattle.fsbm.specs.Answers.Laws.{unless_done, unless_refused}
use Rattle.fsbm.specs.declared.machine.Machine.{Machine}
use Rattle.fsbm.specs.declared.answer.Refusal.{Refusal}
use Rattle.basics.specs.Each.Laws.{each_length}
use Rattle.sheet.specs.Format.{transition_start}
use Rattle.sheet.specs.Reading.{column_at, first_fault, numbers_in, machine_of, transitions_of, read_refusal, read_answer, read_list}
use Rattle.sheet.specs.Numbers.{fault_numbered}
use Rattle.sheet.specs.Reading.Laws.{no_fault}
use Rattle.lines.specs.Line.{longest_line}
use Rattle.stream.specs.Listing.{longer, lines_of, word_line, word_lines, header, refused_sheet, most_words, listing}
use Rattle.stream.specs.Pieces.{Pending, nothing_yet, most_kept, after_byte, after_piece, byte_prints, piece_prints, end_prints, opening}
use Rattle.stream.specs.Past.{prints_past, end_past}
use Rattle.stream.specs.Pieces.Laws.{after_end, after_more, prints_end, prints_more, end_none, end_line, full_prints, full_after, full_end, same_line, pieces_print, pieces_joined}

-- bytes in front of the first line

unfoldable glue : List ℕ → List (List ℕ) → List (List ℕ)
glue [] ls = ls
glue (b ∷ k) ls = longer b (glue k ls)

glue_more : (k : List ℕ) (b : ℕ) (ls : List (List ℕ)) → glue k (longer b ls) ≡ glue (k ++ (b ∷ [])) ls
unfolding glue
glue_more [] b ls = refl
glue_more (x ∷ k) b ls = ap (longer x) (glue_more k b ls)

glue_line : (k line : List ℕ) (ls : List (List ℕ)) → glue k (line ∷ ls) ≡ ((k ++ line) ∷ ls)
unfolding glue longer
glue_line [] line ls = refl
glue_line (x ∷ k) line ls = ap (longer x) (glue_line k line ls)

glue_none : (b : ℕ) (k : List ℕ) → glue (b ∷ k) [] ≡ ((b ∷ k) ∷ [])
unfolding glue longer
glue_none b [] = refl
glue_none b (x ∷ k) = ap (longer b) (glue_none x k)

-- of the kept bytes and one more as many are kept as of all bytes
keep_again : (n : ℕ) (k : List ℕ) (b : ℕ) → take n (take n k ++ (b ∷ [])) ≡ take n (k ++ (b ∷ []))
keep_again zero k b = refl
keep_again (suc n) [] b = refl
keep_again (suc n) (x ∷ k) b = ap {B = List ℕ} (λ r. x ∷ r) (keep_again n k b)

take_none : {A : Type 0} (n : ℕ) (l : List A) → n ≡ 0 → take n l ≡ []
take_none n l e = ap (λ (z : ℕ). take z l) e

take_first : {A : Type 0} (n k : ℕ) (x : A) (l : List A) → n ≡ suc k → take n (x ∷ l) ≡ (x ∷ take k l)
take_first n k x l e = ap (λ (z : ℕ). take z (x ∷ l)) e

module _ (m : Machine) (list : List ℕ) where
  -- the bytes k have come of the present line, and w words before it
  unfoldable kept : List ℕ → ℕ → Pending
  kept k w = record { bytes = take most_kept k; words = w }

  unfoldable rest : List ℕ → ℕ → List ℕ → List ℕ
  rest k w input = word_lines m list (w + 1) (take (most_words - w) (glue k (lines_of input)))

  rest_full : (k : List ℕ) (w : ℕ) (input : List ℕ) → most_words ≤ w → rest k w input ≡ []
  unfolding rest word_lines
  rest_full k w input h = ap (word_lines m list (w + 1)) (take_none (most_words - w) (glue k (lines_of input)) (omega arith))

  at_end_lem : (k : List ℕ) (w : ℕ) → w < most_words → end_prints m list (kept k w) ≡ rest k w []
  unfolding rest kept lines_of word_lines glue
  at_end_lem [] w h = end_none m list (kept [] w) h refl ∙ ap (word_lines m list (w + 1)) (sym (take-nil (most_words - w)))
  at_end_lem (x ∷ k) w h =
      let e = take_first (most_words - w) (most_words - w - 1) (x ∷ k) [] (omega arith) ∙ ap {B = List (List ℕ)} (λ r. (x ∷ k) ∷ r) (take-nil (most_words - w - 1)) in
      end_line m list (kept (x ∷ k) w) h (λ (z : suc (length (take longest_line k)) ≡ 0). absurd (omega arith))
      ∙ (same_line m list (w + 1) (x ∷ k)
      ∙ (sym (append-nil (word_line m list (w + 1) (x ∷ k)))
      ∙ (ap (word_lines m list (w + 1)) (sym e) ∙ ap (λ (z : List (List ℕ)). word_lines m list (w + 1) (take (most_words - w) z)) (sym (glue_none x k)))))

  -- one byte more
  ended : (k : List ℕ) (w b : ℕ) → w < most_words → b ≡ 10 → byte_prints m list (kept k w) b ≡ word_line m list (w + 1) k
  unfolding kept
  ended k w b h e = prints_end (kept k w) b m list h e ∙ same_line m list (w + 1) k

  ended_after : (k : List ℕ) (w b : ℕ) → w < most_words → b ≡ 10 → after_byte (kept k w) b ≡ kept [] (w + 1)
  unfolding kept
  ended_after k w b h e = after_end (kept k w) b h e

  more : (k : List ℕ) (w b : ℕ) → w < most_words → (b ≡ 10 → ⊥) → byte_prints m list (kept k w) b ≡ []
  unfolding kept
  more k w b h e = prints_more (kept k w) b m list h e

  more_after : (k : List ℕ) (w b : ℕ) → w < most_words → (b ≡ 10 → ⊥) → after_byte (kept k w) b ≡ kept (k ++ (b ∷ [])) w
  unfolding kept
  more_after k w b h e =
      after_more (kept k w) b h e ∙ ap {B = Pending} (λ (z : List ℕ). record { bytes = z; words = w }) (keep_again most_kept k b)

  -- a piece and the end behind it
  all : Pending → List ℕ → List ℕ
  all p input = piece_prints m list p input ++ end_prints m list (after_piece p input)

  nothing : (k : List ℕ) (w : ℕ) → w < most_words → all (kept k w) [] ≡ rest k w []
  unfolding all piece_prints after_piece
  nothing k w h = at_end_lem k w h

  all_full : (k : List ℕ) (w : ℕ) (input : List ℕ) → most_words ≤ w → all (kept k w) input ≡ rest k w input
  unfolding all kept
  all_full k w input h =
      ap (λ (z : List ℕ). z ++ end_prints m list (after_piece (kept k w) input)) (full_prints m list (kept k w) input h)
      ∙ (ap (end_prints m list) (full_after (kept k w) input h) ∙ (full_end m list (kept k w) h ∙ sym (rest_full k w input h)))

  all_byte : (p q : Pending) (b : ℕ) (input line : List ℕ) → byte_prints m list p b ≡ line → after_byte p b ≡ q → all p (b ∷ input) ≡ line ++ all q input
  unfolding all piece_prints after_piece
  all_byte p q b input line e f =
      ap (λ (z : Pending). byte_prints m list p b ++ piece_prints m list z input ++ end_prints m list (after_piece z input)) f
      ∙ (ap (λ (z : List ℕ). z ++ piece_prints m list q input ++ end_prints m list (after_piece q input)) e
      ∙ append_assoc line (piece_prints m list q input) (end_prints m list (after_piece q input)))

  rest_end : (k : List ℕ) (w b : ℕ) (input : List ℕ) → w < most_words → b ≡ 10 → word_line m list (w + 1) k ++ rest [] (w + 1) input ≡ rest k w (b ∷ input)
  unfolding rest word_lines glue lines_of
  rest_end k w b input h e =
      ap (λ (i : ℕ). word_line m list (w + 1) k ++ word_lines m list i (take (most_words - (w + 1)) (lines_of input))) (add-one (w + 1))
      ∙ (ap (word_lines m list (w + 1)) (sym (take_first (most_words - w) (most_words - (w + 1)) k (lines_of input) (omega arith)))
      ∙ (ap (λ (z : List ℕ). word_lines m list (w + 1) (take (most_words - w) (z ∷ lines_of input))) (sym (append-nil k))
      ∙ (ap (λ (z : List (List ℕ)). word_lines m list (w + 1) (take (most_words - w) z)) (sym (glue_line k [] (lines_of input)))
      ∙ ap (λ (z : Bool). word_lines m list (w + 1) (take (most_words - w) (glue k (cond z ([] ∷ lines_of input) (longer b (lines_of input)))))) (sym (eq-eqb b 10 e)))))

  rest_more : (k : List ℕ) (w b : ℕ) (input : List ℕ) → (b ≡ 10 → ⊥) → rest (k ++ (b ∷ [])) w input ≡ rest k w (b ∷ input)
  unfolding rest lines_of
  rest_more k w b input e =
      ap (λ (z : List (List ℕ)). word_lines m list (w + 1) (take (most_words - w) z)) (sym (glue_more k b (lines_of input)))
      ∙ ap (λ (z : Bool). word_lines m list (w + 1) (take (most_words - w) (glue k (cond z ([] ∷ lines_of input) (longer b (lines_of input)))))) (sym (ne_eqb b 10 e))

  whole_input : (input k : List ℕ) (w : ℕ) → all (kept k w) input ≡ rest k w input
  whole_input [] k w = at (dec_lt w most_words)
    where
      at : Dec (w < most_words) → all (kept k w) [] ≡ rest k w []
      at (yes h) = nothing k w h
      at (no h) = all_full k w [] (omega arith)
  whole_input (b ∷ input) k w = at (dec_lt w most_words) (ℕ_discrete b 10) (whole_input input [] (w + 1)) (whole_input input (k ++ (b ∷ [])) w)
    where
      at : Dec (w < most_words) → Dec (b ≡ 10) → all (kept [] (w + 1)) input ≡ rest [] (w + 1) input → all (kept (k ++ (b ∷ [])) w) input ≡ rest (k ++ (b ∷ [])) w input
          → all (kept k w) (b ∷ input) ≡ rest k w (b ∷ input)
      at (no h) d e f = all_full k w (b ∷ input) (omega arith)
      at (yes h) (yes d) e f =
          all_byte (kept k w) (kept [] (w + 1)) b input (word_line m list (w + 1) k) (ended k w b h d) (ended_after k w b h d)
          ∙ (ap (λ (z : List ℕ). word_line m list (w + 1) k ++ z) e ∙ rest_end k w b input h d)
      at (yes h) (no d) e f =
          all_byte (kept k w) (kept (k ++ (b ∷ [])) w) b input [] (more k w b h d) (more_after k w b h d) ∙ (f ∙ rest_more k w b input d)

  pub input_lines : (input : List ℕ)
      → piece_prints m list nothing_yet input ++ end_prints m list (after_piece nothing_yet input) ≡ word_lines m list 1 (take most_words (lines_of input))
  unfolding all kept rest glue
  input_lines input = whole_input input [] 0

pub listing_refused : (s input : List ℕ) → (first_fault s ≡ 0 → ⊥) → opening s ≡ listing s input
unfolding opening listing
listing_refused s input n = sym (second _ (ne_eqb _ _ n) refl) ∙ second _ (ne_eqb _ _ n) refl

pub listing_of_pieces : (s : List ℕ) → first_fault s ≡ 0 → (pieces : List (List ℕ))
    → opening s ++ (pieces_print (machine_of s) (transitions_of s) nothing_yet pieces ++ end_prints (machine_of s) (transitions_of s) (after_piece nothing_yet (flatten pieces)))
    ≡ listing s (flatten pieces)
unfolding opening listing
listing_of_pieces s good pieces =
    ap (λ (z : Bool). cond z header (refused_sheet (first_fault s)) ++ (pieces_print m list nothing_yet pieces ++ end)) good_test
    ∙ (ap (λ (z : List ℕ). header ++ (z ++ end)) (pieces_joined m list nothing_yet pieces)
    ∙ (ap (λ (z : List ℕ). header ++ z) (input_lines m list (flatten pieces))
    ∙ ap (λ (z : Bool). cond z (header ++ word_lines m list 1 (take most_words (lines_of (flatten pieces)))) (refused_sheet (first_fault s))) (sym good_test)))
  where
    good_test : eqb (first_fault s) 0 ≡ true
    good_test = eq-eqb _ _ good

    m : Machine
    m = machine_of s

    list : List ℕ
    list = transitions_of s

    end : List ℕ
    end = end_prints m list (after_piece nothing_yet (flatten pieces))

-- the table that read_sheet reads into a list of 12,000 elements

module _ (s : List ℕ) (good : first_fault s ≡ 0) where
  few : column_at s 10 ≤ 4000
  few = ((no_fault s).0 good).header.counts.few_transitions

  transitions_length : length (transitions_of s) ≡ column_at s 10 * 3
  unfolding transitions_of numbers_in
  transitions_length = each_length 3 (λ k. numbers_in s (transition_start (column_at s 0) k)) (λ k. refl) (column_at s 10) ∙ omega arith

  not_refused : (len : ℕ) → 12000 ≤ len → read_refusal s len ≡ None
  unfolding read_refusal
  not_refused len long = let fits : column_at s 10 * 3 ≤ len = omega (arith, few) in sym (first _ (eq-eqb _ _ good) (first _ (le-leb _ _ fits) refl))

  module _ (entry : List ℕ) (long : 12000 ≤ length entry) where
    list_read : read_list s entry ≡ transitions_of s ++ drop (column_at s 10 * 3) entry
    unfolding read_list
    list_read = ap (λ (x : Option Refusal). by_refusal x (transitions_of s ++ drop (column_at s 10 * 3) entry) (λ f. entry)) (not_refused (length entry) long)

    enough : (machine_of s).transitions * 3 ≤ length (transitions_of s)
    unfolding machine_of
    enough = omega (arith, transitions_length)

    module _ (m : Machine) (list : List ℕ) (m-is : m ≡ machine_of s) (list_is : list ≡ read_list s entry) where
      pub prints_read : (p : Pending) (x : List ℕ) → piece_prints m list p x ≡ piece_prints (machine_of s) (transitions_of s) p x
      prints_read p x =
          ap (λ (z : Machine). piece_prints z list p x) m-is
          ∙ (ap (λ (z : List ℕ). piece_prints (machine_of s) z p x) (list_is ∙ list_read) ∙ prints_past (machine_of s) (transitions_of s) (drop (column_at s 10 * 3) entry) enough p x)

      pub end_read : (p : Pending) → end_prints m list p ≡ end_prints (machine_of s) (transitions_of s) p
      end_read p =
          ap (λ (z : Machine). end_prints z list p) m-is
          ∙ (ap (λ (z : List ℕ). end_prints (machine_of s) z p) (list_is ∙ list_read) ∙ end_past (machine_of s) (transitions_of s) (drop (column_at s 10 * 3) entry) enough p)

pub read_taken : (s : List ℕ) (len : ℕ) → 12000 ≤ len → read_answer s len ≡ unless (first_fault s) (Ok (machine_of s))
unfolding read_answer read_refusal
read_taken s len long = at (ℕ_discrete (first_fault s) 0)
  where
    chosen : Option Refusal → Result Machine Refusal
    chosen o = by_refusal o (Ok (machine_of s)) (λ f. Err f)

    at : Dec (first_fault s ≡ 0) → read_answer s len ≡ unless (first_fault s) (Ok (machine_of s))
    at (yes e) = ap chosen (not_refused s e len long) ∙ unless_done _ _ e
    at (no n) = ap chosen (sym (second {r = Some (refusal (first_fault s))} _ (ne_eqb _ _ n) refl)) ∙ unless_refused _ _ n

pub number_read : (s : List ℕ) (len : ℕ) → 12000 ≤ len → (machine_values (read_answer s len)).refusal ≡ first_fault s
number_read s len long = ap (λ (a : Result Machine Refusal). (machine_values a).refusal) (read_taken s len long) ∙ at (ℕ_discrete (first_fault s) 0)
  where
    at : Dec (first_fault s ≡ 0) → (machine_values (unless (first_fault s) (Ok (machine_of s)))).refusal ≡ first_fault s
    at (yes e) = ap (λ (a : Result Machine Refusal). (machine_values a).refusal) (sym (unless_done (first_fault s) (Ok (machine_of s)) e)) ∙ sym e
    at (no n) = ap (λ (a : Result Machine Refusal). (machine_values a).refusal) (sym (unless_refused (first_fault s) (Ok (machine_of s)) n)) ∙ (fault_numbered s).number n
