-- The definitions of specs/Pieces.antt in the form that the functions meet them, over plain variables.
--
-- refused_written                  == the three parts of a refused sheet's line
-- kept_full, kept_more             == the ways through keep
-- byte_full, byte_end, byte_more   == the ways through take_byte
-- piece_none, piece_lent, piece_more, piece_done == the loop of take_piece
-- end_full, end_empty, end_last    == the ways through finish
-- open_refused, open_good          == the ways through open
use Prim.Native.Nat.{ℕ, ◌+◌, ◌*◌, ◌<◌, ◌≤◌}
use mathlib.Core.Path.{◌≡◌, refl, sym, ap, ◌∙◌, subst}
use mathlib.Core.List.{List, [], ◌∷◌, ◌++◌}
use native.Mathlib.Omega.{arith}
use native.Mathlib.Numerals.{add-one}
use lib.ListN.{length, take, get_or, set, length-append}
use lib.Seq.{take_all, take-suc, take-suc-set, take-append_seam, length-take-le}
use borrow.Author.Tests.{eq-eqb, ne_eqb}
use Rattle.basics.specs.Lists.{put}
use Rattle.basics.specs.Lists.Laws.{put_none, put_put, put_next}
use Rattle.columns.specs.Column.{column_of}
use Rattle.columns.specs.Column.Laws.{column_length}
use Rattle.fsbm.specs.declared.machine.Machine.{Machine}
use Rattle.lines.specs.declared.Answer.{Answer}
use Rattle.lines.specs.Line.{line_answer, answer_line}
use Rattle.sheet.specs.Numbers.{fault_numbered}
use Rattle.fsbm.specs.Answers.{number_of, refusal}
use Rattle.fsbm.specs.Answers.Laws.{unless_ok, unless_err}
use Rattle.fsbm.specs.declared.answer.Refusal.{Refusal}
use Rattle.std.specs.Prelude.{None, Some, Ok, Err}
use Rattle.basics.specs.Search.Loops.{first, second}
use Rattle.stream.specs.declared.Opened.{Opened}
use Rattle.sheet.specs.Reading.{first_fault, machine_of, read_answer, read_list}
use Rattle.stream.specs.Listing.{word_line, header, sheet_refused, refused_sheet, most_words}
use Rattle.stream.specs.Pieces.{Pending, most_kept, after_byte, after_piece, byte_prints, piece_prints, end_prints, opening}
use Rattle.stream.specs.Pieces.Laws.{after_full, after_end, after_more, prints_full, prints_end, prints_more, after_one, prints_one, prints_length, byte_length, word_length}
use Rattle.stream.specs.Pieces.Laws.{full_end, end_none, end_line, header_length, refused_length, opening_good, opening_bad}
use Rattle.stream.specs.Whole.{read_taken}
use Rattle.stream.specs.Calls.{pending_of, ended, open_answer, Lent, ByteKept, ByteTaken, PieceTaken}
use Rattle.stream.specs.declared.Held.{Held}
use Rattle.stream.specs.declared.Taken.{Taken}

-- The line of a refused sheet

pub refused_written : (l o₁ o₂ : List ℕ) (n : ℕ) → 19 ≤ length l → o₁ ≡ put 0 l sheet_refused → o₂ ≡ put 13 o₁ (column_of 5 n) → set o₂ 18 10 ≡ put 0 l (refused_sheet n)
unfolding refused_sheet sheet_refused
refused_written l o₁ o₂ n fits e₁ e₂ =
    ap (λ (z : List ℕ). set z 18 10) two
    ∙ (ap (λ (z : ℕ). set (put 0 l (sheet_refused ++ column_of 5 n)) z 10) at
    ∙ put_next 0 l (sheet_refused ++ column_of 5 n) 10 inside)
  where
    five : length (column_of 5 n) ≡ 5
    five = column_length 5 n

    long : length (sheet_refused ++ column_of 5 n) ≡ 18
    long = length-append sheet_refused (column_of 5 n) ∙ omega (arith, five)

    at : 18 ≡ 0 + length (sheet_refused ++ column_of 5 n)
    at = omega (arith, long)

    inside : 0 + length (sheet_refused ++ column_of 5 n) < length l
    inside = omega (arith, long)

    two : o₂ ≡ put 0 l (sheet_refused ++ column_of 5 n)
    two = e₂ ∙ (ap (λ (z : List ℕ). put 13 z (column_of 5 n)) e₁ ∙ put_put 0 13 l sheet_refused (column_of 5 n) refl (omega (arith, five)))

-- keep

module _ (line : List ℕ) (kept b : ℕ) where
  pub kept_full : kept ≤ length line → length line ≤ kept → ByteKept line kept b kept line
  kept_full h g =
      record {
        bytes = take_all kept line g ∙ (sym (take-append_seam line (b ∷ [])) ∙ ap (λ (z : List ℕ). take (length line) (z ++ (b ∷ []))) (sym (take_all kept line g)));
        within = h;
      }

  pub kept_more : kept < length line → ByteKept line kept b (kept + 1) (set line kept b)
  kept_more h =
      record {
        bytes = ap (λ (z : ℕ). take z (set line kept b)) (add-one kept)
            ∙ (take-suc-set line kept b h ∙ sym (take_all (length line) (take kept line ++ (b ∷ [])) short));
        within = omega arith;
      }
    where
      short : length (take kept line ++ (b ∷ [])) ≤ length line
      short = omega (arith, length-append (take kept line) (b ∷ []), length-take-le kept line (omega arith))

-- end_line

pub line_printed : (m : Machine) (list line out out' : List ℕ) (used i : ℕ) (a : Answer) → a ≡ line_answer m list line → out' ≡ put used out (answer_line i a.answer a.refusal)
    → out' ≡ put used out (word_line m list i line)
unfolding word_line
line_printed m list line out out' used i a e f = f ∙ ap (λ (z : Answer). put used out (answer_line i z.answer z.refusal)) e

-- take_byte

module _ (m : Machine) (list : List ℕ) (b : ℕ) (p : Taken) (line out : List ℕ) where
  module _ (e : byte_prints m list (pending_of line p.held) b ≡ []) where
    nothing_printed : out ≡ put p.used out (byte_prints m list (pending_of line p.held) b)
    nothing_printed = put_none p.used out ∙ ap (put p.used out) (sym e)

    nothing_used : p.used ≡ p.used + length (byte_prints m list (pending_of line p.held) b)
    nothing_used = let f = ap length e in omega arith

  pub byte_full : most_words ≤ p.held.words → p.held.kept ≤ most_kept → ByteTaken m list b p line out p line out
  byte_full h k =
      record {
        pending = sym (after_full (pending_of line p.held) b h);
        printed = nothing_printed (prints_full (pending_of line p.held) b m list h);
        used = nothing_used (prints_full (pending_of line p.held) b m list h);
        within = k;
      }

  pub byte_end : p.held.words < most_words → b ≡ 10 → (r : Taken) (out' : List ℕ)
      → (r ≡ ended p) × (out' ≡ put p.used out (word_line m list (p.held.words + 1) (take p.held.kept line))) → ByteTaken m list b p line out r line out'
  byte_end h e r out' (f, g) =
      record {
        pending = ap (λ (z : Taken). pending_of line z.held) f ∙ sym (after_end (pending_of line p.held) b h e);
        printed = g ∙ ap (put p.used out) (sym (prints_end (pending_of line p.held) b m list h e));
        used = ap (λ (z : Taken). z.used) f ∙ sixteen;
        within = let z = ap (λ (z : Taken). z.held.kept) f in omega arith;
      }
    where
      sixteen : p.used + 16 ≡ p.used + length (byte_prints m list (pending_of line p.held) b)
      sixteen =
          let x = ap length (prints_end (pending_of line p.held) b m list h e) in
          let y = word_length m list (p.held.words + 1) (take p.held.kept line) in
          omega arith

  pub byte_more : length line ≡ most_kept → p.held.words < most_words → (b ≡ 10 → ⊥) → (kept : ℕ) (line' : List ℕ) → ByteKept line p.held.kept b kept line'
      → ByteTaken m list b p line out (record { held = record { kept = kept; words = p.held.words }; used = p.used }) line' out
  byte_more room h n kept line' k =
      record {
        pending = ap {B = Pending} (λ (z : List ℕ). record { bytes = z; words = p.held.words })
            (k.bytes ∙ ap (λ (z : ℕ). take z (take p.held.kept line ++ (b ∷ []))) room)
            ∙ sym (after_more (pending_of line p.held) b h n);
        printed = nothing_printed (prints_more (pending_of line p.held) b m list h n);
        used = nothing_used (prints_more (pending_of line p.held) b m list h n);
        within = let w = k.within in omega arith;
      }

-- take_piece

module _ (m : Machine) (list piece : List ℕ) (held : Held) (line₀ out₀ : List ℕ) where
  pub piece_none : held.kept ≤ most_kept → PieceTaken m list (take 0 piece) held line₀ out₀ (record { held = held; used = 0 }) line₀ out₀
  unfolding after_piece piece_prints
  piece_none k = record { pending = refl; printed = put_none 0 out₀; used = refl; within = k }

  module _ (i : ℕ) (p : Taken) (line out : List ℕ) (so_far : PieceTaken m list (take i piece) held line₀ out₀ p line out) where
    module _ (inside : i < length piece) (fits : 16 * length piece ≤ length out₀) where
      used_so_far : p.used ≤ 16 * i
      used_so_far =
          let a = prints_length m list (pending_of line₀ held) (take i piece) in
          let b = length-take-le i piece (omega arith) in
          let d = so_far.used in
          omega arith

      pub piece_lent : length line ≡ most_kept → length out ≡ length out₀ → Lent line out p
      piece_lent room same = record { room = room; within = so_far.within; space = omega (arith, used_so_far) }

      pub piece_more : (r : Taken) (line' out' : List ℕ) → ByteTaken m list (get_or piece i 0) p line out r line' out' → PieceTaken m list (take (i + 1) piece) held line₀ out₀ r line' out'
      piece_more r line' out' byte =
          record {
            pending = byte.pending
                ∙ (ap (λ (z : Pending). after_byte z b) so_far.pending
                ∙ (sym (after_one Q (take i piece) b) ∙ ap (after_piece Q) (sym split)));
            printed = byte.printed
                ∙ (ap (λ (z : List ℕ). put p.used z B) so_far.printed ∙ (put_put 0 p.used out₀ P B at_end_lem room ∙ ap (put 0 out₀) (sym joined)));
            used = byte.used ∙ (ap (λ (z : ℕ). z + length B) so_far.used ∙ (sym (length-append P B) ∙ ap length (sym joined)));
            within = byte.within;
          }
        where
          b : ℕ
          b = get_or piece i 0

          Q : Pending
          Q = pending_of line₀ held

          P : List ℕ
          P = piece_prints m list Q (take i piece)

          B : List ℕ
          B = byte_prints m list (pending_of line p.held) b

          split : take (i + 1) piece ≡ take i piece ++ (b ∷ [])
          split = ap (λ (z : ℕ). take z piece) (add-one i) ∙ take-suc piece i 0 inside

          joined : piece_prints m list Q (take (i + 1) piece) ≡ P ++ B
          joined =
              ap (piece_prints m list Q) split
              ∙ (prints_one m list Q (take i piece) b ∙ ap (λ (z : Pending). P ++ byte_prints m list z b) (sym so_far.pending))

          at_end_lem : p.used ≡ 0 + length P
          at_end_lem = let u = so_far.used in omega arith

          room : 0 + length P + length B ≤ length out₀
          room = let u = so_far.used in omega (arith, used_so_far, byte_length m list (pending_of line p.held) b)

    pub piece_done : length piece ≤ i → PieceTaken m list piece held line₀ out₀ p line out
    piece_done h = subst (λ (z : List ℕ). PieceTaken m list z held line₀ out₀ p line out) (take_all i piece h) so_far

-- finish

module _ (m : Machine) (list line out : List ℕ) (held : Held) where
  pub end_nothing : end_prints m list (pending_of line held) ≡ [] → (0 ≡ length (end_prints m list (pending_of line held))) × (out ≡ put 0 out (end_prints m list (pending_of line held)))
  end_nothing e = (ap length (sym e), put_none 0 out ∙ ap (put 0 out) (sym e))

  pub end_full : most_words ≤ held.words → (0 ≡ length (end_prints m list (pending_of line held))) × (out ≡ put 0 out (end_prints m list (pending_of line held)))
  end_full h = end_nothing (full_end m list (pending_of line held) h)

  pub end_empty : held.words < most_words → held.kept ≡ 0 → (0 ≡ length (end_prints m list (pending_of line held))) × (out ≡ put 0 out (end_prints m list (pending_of line held)))
  end_empty h e = end_nothing (end_none m list (pending_of line held) h (ap (λ (z : ℕ). length (take z line)) e))

  pub end_last : held.kept ≤ length line → held.words < most_words → (held.kept ≡ 0 → ⊥) → (r : Taken) (out' : List ℕ)
      → (r ≡ ended (record { held = held; used = 0 })) × (out' ≡ put 0 out (word_line m list (held.words + 1) (take held.kept line)))
      → (r.used ≡ length (end_prints m list (pending_of line held))) × (out' ≡ put 0 out (end_prints m list (pending_of line held)))
  end_last k h n r out' (f, g) =
      (ap (λ (z : Taken). z.used) f ∙ (sym (word_length m list (held.words + 1) (take held.kept line)) ∙ ap length (sym line_is)), g ∙ ap (put 0 out) (sym line_is))
    where
      some : length (take held.kept line) ≡ 0 → ⊥
      some e = n (sym (length-take-le held.kept line k) ∙ e)

      line_is : end_prints m list (pending_of line held) ≡ word_line m list (held.words + 1) (take held.kept line)
      line_is = end_line m list (pending_of line held) h some

-- open

-- what open leaves
abbrev pub Opens : List ℕ → List ℕ → List ℕ → Opened → List ℕ → List ℕ → Type 0
Opens s entry out r list out' = (r ≡ open_answer s) × (list ≡ read_list s entry) × (out' ≡ put 0 out (opening s))

module _ (s entry list out : List ℕ) (long : 12000 ≤ length entry) (list_is : list ≡ read_list s entry) (out' : List ℕ) where
  pub open_refused : (f : Refusal) → Err f ≡ read_answer s (length entry) → out' ≡ put 0 out (refused_sheet (number_of f)) → Opens s entry out (record { table = None; used = 19 }) list out'
  unfolding open_answer
  open_refused f e w = (answer, list_is, w ∙ ap (put 0 out) opening_is)
    where
      fault : (first_fault s ≡ 0 → ⊥) × (f ≡ refusal (first_fault s))
      fault = unless_err (first_fault s) (machine_of s) (e ∙ read_taken s (length entry) long)

      opening_is : refused_sheet (number_of f) ≡ opening s
      opening_is = ap refused_sheet (ap number_of fault.1 ∙ (fault_numbered s).number fault.0) ∙ opening_bad s fault.0

      answer : record { table = None; used = 19 } ≡ open_answer s
      answer = λ j. record {
        table = second {r = None} (Some (machine_of s)) (ne_eqb (first_fault s) 0 fault.0) refl j;
        used = (sym (refused_length (number_of f)) ∙ ap length opening_is) j;
      }

  pub open_good : (m : Machine) → Ok m ≡ read_answer s (length entry) → out' ≡ put 0 out header → Opens s entry out (record { table = Some m; used = 16 }) list out'
  unfolding open_answer
  open_good m e w = (answer, list_is, w ∙ ap (put 0 out) (opening_good s sound.0))
    where
      sound : (first_fault s ≡ 0) × (m ≡ machine_of s)
      sound = unless_ok (first_fault s) (machine_of s) (e ∙ read_taken s (length entry) long)

      answer : record { table = Some m; used = 16 } ≡ open_answer s
      answer = λ j. record {
        table = (ap (λ (x : Machine). Some x) sound.1 ∙ first None (eq-eqb (first_fault s) 0 sound.0) refl) j;
        used = (sym header_length ∙ ap length (opening_good s sound.0)) j;
      }
