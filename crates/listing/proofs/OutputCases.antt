-- What the program's functions hand on, over plain variables.
--
-- front, front_fits   == bytes put at the front of the output are its first bytes, and there is room for them
-- used_fits           == the output of a piece fits
-- next_bytes          == what list_piece writes
-- reached_begin, reached_more == what is held is what the input so far leaves
-- ready_same          == buffers of the same lengths as before
-- done_none, done_full, done_else == the ways through is_done
-- done_closed, still_open == what that says of the output
-- last_fits, last_bytes == what end_input writes
-- opening_fits, opening_bytes == what list_sheet writes first
-- opened_table, opened_obeys == the table of a good sheet
use Prim.Native.Nat.{ℕ, ◌*◌, ◌≤◌}
use mathlib.Core.Path.{◌≡◌, refl, sym, ap, ◌∙◌, subst}
use mathlib.Core.List.{List, [], ◌++◌}
use mathlib.Core.Bool.{Bool, true, false, ◌||◌}
use native.Mathlib.Omega.{arith}
use lib.ListN.{length, take}
use lib.Seq.{take_at}
use lib.Dec.{leb, eqb}
use borrow.Author.Tests.{eqb-true, eq-eqb, ne_eqb}
use Rattle.basics.specs.Search.Laws.{true_or_false, or_true_right, or_false}
use Rattle.basics.specs.Lists.{put}
use Rattle.basics.specs.Lists.Laws.{put_zero, put_length}
use Rattle.fsbm.specs.Machine.{well_formed}
use Rattle.fsbm.specs.declared.machine.Machine.{Machine}
use Rattle.sheet.specs.Reading.{first_fault, machine_of, transitions_of, read_list}
use Rattle.fsbm.specs.Answers.Laws.{unless_done}
use Rattle.std.specs.Prelude.{None, Some, Ok, cond, ◌⊎◌}
use Rattle.std.proofs.Common.{inl, inr}
use Rattle.sheet_laws.proofs.Obeys.{read_obeys}
use Rattle.stream.specs.Listing.{most_words}
use Rattle.stream.specs.Pieces.{Pending, most_kept, nothing_yet, after_piece, piece_prints, end_prints, opening}
use Rattle.stream.specs.Pieces.Laws.{after_cut, prints_length, end_length, opening_length}
use Rattle.stream.specs.Whole.{prints_read, end_read, read_taken}
use Rattle.stream.specs.Calls.{pending_of, open_answer, PieceTaken}
use Rattle.stream.specs.declared.Held.{Held}
use Rattle.stream.specs.declared.Taken.{Taken}
use Rattle.stream.specs.declared.Opened.{Opened}
use Rattle.listing.specs.declared.Turn.{Turn}
use Rattle.listing.specs.Output.{piece_bytes, end_bytes, ReadFrom, HeldAfter, NextBytes, LastBytes, Buffers, PieceListed, at_end, done}

module _ (out out' bytes : List ℕ) (used : ℕ) (e : out' ≡ put 0 out bytes) (u : used ≡ length bytes) where
  pub front : take used out' ≡ bytes
  front = ap (take used) (e ∙ put_zero out bytes) ∙ take_at bytes _ used (sym u)

  pub front_fits : length bytes ≤ length out → used ≤ length out'
  front_fits h = let a = ap length e in let b = put_length 0 out bytes (omega arith) in omega arith

module _ (m : Machine) (list piece : List ℕ) (held : Held) (line out : List ℕ) (r : Taken) (line' out' : List ℕ) (taken : PieceTaken m list piece held line out r line' out') where
  pub used_fits : 16 * length piece ≤ length out → r.used ≤ length out'
  used_fits h = front_fits out out' (piece_prints m list (pending_of line held) piece) r.used taken.printed taken.used (omega (arith, prints_length m list (pending_of line held) piece))

  pub next_bytes : (sheet : List ℕ) → ReadFrom sheet m list → HeldAfter line held → NextBytes sheet piece (take r.used out')
  unfolding piece_bytes
  next_bytes sheet from reached =
      record {
        before = reached.input;
        printed = front out out' (piece_prints m list (pending_of line held) piece) r.used taken.printed taken.used
            ∙ (prints_read sheet from.good from.entry from.long m list from.machine from.transitions (pending_of line held) piece
            ∙ ap (λ (z : Pending). piece_prints (machine_of sheet) (transitions_of sheet) z piece) reached.pending);
      }

reached_none : (line : List ℕ) → HeldAfter line (record { kept = 0; words = 0 })
unfolding after_piece
reached_none line = record { input = []; pending = refl }

pub reached_begin : (line : List ℕ) (h : Held) → h ≡ record { kept = 0; words = 0 } → HeldAfter line h × (h.kept ≤ most_kept)
reached_begin line h e = (subst (HeldAfter line) (sym e) (reached_none line), let z = ap (λ (x : Held). x.kept) e in omega arith)

pub ready_same : (input₀ line₀ out₀ input line out : List ℕ) (h₀ h : Held) → Buffers input₀ line₀ out₀ h₀ → length input ≡ length input₀ → length line ≡ length line₀
    → length out ≡ length out₀ → h.kept ≤ most_kept → Buffers input line out h
ready_same input₀ line₀ out₀ input line out h₀ h r a b d k = record { piece = omega (arith, r.piece); room = b ∙ r.room; within = k }

pub reached_more : (m : Machine) (list : List ℕ) (held : Held) (line out : List ℕ) (r : Turn) (input' line' out' : List ℕ) → HeldAfter line held
    → PieceListed m list held line out r input' line' out' → HeldAfter line' r.held
reached_more m list held line out r input' line' out' reached turned =
    record {
      input = reached.input ++ take r.count input';
      pending = turned.pending
          ∙ (ap (λ (z : Pending). after_piece z (take r.count input')) reached.pending ∙ sym (after_cut nothing_yet reached.input (take r.count input')));
    }

-- when the program stops

or_first : (a b : Bool) → (a || b) ≡ true → b ≡ false → a ≡ true
or_first true b e f = refl
or_first false b e f = sym (sym e ∙ f)

module _ (t : Turn) where
  pub done_none : t.count ≡ 0 → true ≡ done t
  done_none e = ap (λ (z : Bool). z || leb most_words t.held.words || t.closed) (sym (eq-eqb _ _ e))

  pub done_full : leb most_words t.held.words ≡ true → true ≡ done t
  done_full h = sym (ap (λ (z : Bool). z || t.closed) (or_true_right (eqb t.count 0) _ h))

  pub done_else : (t.count ≡ 0 → ⊥) → leb most_words t.held.words ≡ false → t.closed ≡ done t
  done_else n h =
      ap (λ (z : Bool). z || t.closed) (sym h)
      ∙ ap (λ (z : Bool). z || leb most_words t.held.words || t.closed) (sym (ne_eqb _ _ n))

  pub done_closed : t.closed ≡ true → done t ≡ true
  done_closed e = or_true_right (at_end t) t.closed e

  pub still_open : (r : Bool) → r ≡ done t → r ≡ false → t.closed ≡ false
  still_open r e f = (or_false (at_end t) t.closed (sym e ∙ f)).1

module _ (m : Machine) (list line out out' : List ℕ) (t : Turn) (used : ℕ)
    (finished : (used ≡ length (end_prints m list (pending_of line t.held))) × (out' ≡ put 0 out (end_prints m list (pending_of line t.held)))) where
  pub last_fits : 16 ≤ length out → used ≤ length out'
  last_fits h = front_fits out out' (end_prints m list (pending_of line t.held)) used finished.1 finished.0 (omega (arith, end_length m list (pending_of line t.held)))

  pub last_bytes : (sheet : List ℕ) → ReadFrom sheet m list → HeldAfter line t.held → done t ≡ true → t.closed ≡ false → LastBytes sheet line t (take used out')
  unfolding end_bytes
  last_bytes sheet from reached d o =
      record {
        input = reached.input;
        pending = reached.pending;
        at_end = or_first (at_end t) t.closed d o;
        still_open = o;
        printed = front out out' (end_prints m list (pending_of line t.held)) used finished.1 finished.0
            ∙ (end_read sheet from.good from.entry from.long m list from.machine from.transitions (pending_of line t.held)
            ∙ ap (λ (z : Pending). end_prints (machine_of sheet) (transitions_of sheet) z) reached.pending);
      }

module _ (sheet entry list out out' : List ℕ) (r : Opened)
    (opened : (r ≡ open_answer sheet) × (list ≡ read_list sheet entry) × (out' ≡ put 0 out (opening sheet))) where
  used_is : r.used ≡ length (opening sheet)
  unfolding open_answer
  used_is = ap (λ (z : Opened). z.used) opened.0

  pub opening_fits : 19 ≤ length out → r.used ≤ length out'
  opening_fits h = front_fits out out' (opening sheet) r.used opened.2 used_is (omega (arith, opening_length sheet))

  pub opening_bytes : take r.used out' ≡ opening sheet
  opening_bytes = front out out' (opening sheet) r.used opened.2 used_is

  module _ (long : 12000 ≤ length entry) (m : Machine) (some : r.table ≡ Some m) where
    sound : (first_fault sheet ≡ 0) × (m ≡ machine_of sheet)
    unfolding open_answer
    sound = at (true_or_false (eqb (first_fault sheet) 0))
      where
        table_is : (b : Bool) → eqb (first_fault sheet) 0 ≡ b → Some m ≡ cond b (Some (machine_of sheet)) None
        table_is b e = sym some ∙ (ap (λ (z : Opened). z.table) opened.0 ∙ ap (λ (z : Bool). cond z (Some (machine_of sheet)) None) e)

        at : (eqb (first_fault sheet) 0 ≡ true) ⊎ (eqb (first_fault sheet) 0 ≡ false) → (first_fault sheet ≡ 0) × (m ≡ machine_of sheet)
        at (inl t) = let h = table_is true t in (eqb-true _ _ t, cc)
        at (inr f) = let h = table_is false f in absurd (cc)

    pub opened_table : ReadFrom sheet m list
    opened_table = record { good = sound.0; entry = entry; long = long; machine = sound.1; transitions = opened.1 }

    pub opened_obeys : well_formed m list ≡ true
    opened_obeys =
        ap (λ (z : Machine). well_formed z list) sound.1
        ∙ (ap (well_formed (machine_of sheet)) opened.1
        ∙ read_obeys sheet entry (machine_of sheet) (read_taken sheet (length entry) long ∙ sym (unless_done (first_fault sheet) (Ok (machine_of sheet)) sound.0)))
