-- The laws of specs/Page.antt.
--
-- entry_wide           == the line of an entry has 31 bytes
-- page_long            == the length of a page is page_length
-- Reached i, reached   == after entry i of an accepting run: a configuration that a move is allowed from, and the entries behind it accept
-- entry_allowed        == each entry of it is allowed where the one before has led
-- some_entry           == it has an entry
-- entry_at, last_at    == where the lines of a page stand
-- fault_table, fault_length, fault_letter, fault_none == the first refusals: 16, 9, 8; none, exactly if all of that is good
-- page_numbered        == the first of them is 0, or the number of the refusal that stands for it
-- Leaves r after       == write_page answers r and leaves after in the slice
-- refused_first, refused_run, refused_room, written_all == it does so, in its four cases: by 16, 9 or 8; by 14; by 19; or the page
use Prim.Native.Nat.{ℕ, zero, suc, ◌*◌, ◌≤◌, ◌<◌}
use Rattle.std.proofs.Math.Path.{◌≡◌, refl, sym, ap, subst}
use Rattle.std.proofs.Common.{◌∙◌, inl, inr, drop-cons}
use Rattle.std.specs.Prelude.{◌↔◌, ◌⊎◌, Option, None, Some, Result, Ok, Err, Bool, ◌&&◌, drop, ltb}
use Rattle.std.proofs.Math.Bool.{true, false}
use Rattle.std.proofs.lemmas.Bool.{false≢true}
use mathlib.Core.List.{List, [], ◌∷◌, ◌++◌, append_assoc}
use native.Mathlib.Omega.{arith}
use Rattle.std.proofs.Math.ListN.{length, get_or, length-append}
use Rattle.std.proofs.Math.Seq.{drop_at}
use Rattle.std.proofs.Math.Dec.{leb}
use borrow.Author.Tests.{ltb-true, leb-true, le-leb, lt-leb}
use Rattle.basics.specs.Search.Laws.{true_or_false, and_true, and_both_true}
use Rattle.basics.specs.Search.Loops.{first, second}
use Rattle.basics.specs.Each.{each_below}
use Rattle.basics.specs.Each.Laws.{each_length, each_drop}
use Rattle.columns.specs.Line.{line_of}
use Rattle.columns.specs.Line.Laws.{line_length}
use Rattle.fsbm.specs.Machine.{well_formed, initial}
use Rattle.fsbm.specs.Rules.{rules, Placed}
use Rattle.fsbm.specs.Moves.{move, start_at, accepting_from, accepting}
use Rattle.fsbm.specs.Moves.Laws.{move_stays, start_placed}
use Rattle.fsbm.specs.Answers.{by_refusal, good_letters, refusal}
use Rattle.fsbm.specs.Answers.Laws.{Numbered, numbered_none, numbered_by, numbered_8, numbered_9, numbered_16, input_refused, run_refused, slice_refused, none_refused}
use Rattle.fsbm.specs.declared.machine.Machine.{Machine}
use Rattle.fsbm.specs.declared.answer.Refusal.{Refusal}
use Rattle.fsbm.specs.declared.answer.Refusal.TheVariants.{NotAccepting, ShortSheet}
use Rattle.page.specs.Page.{longest_word, longest_run, page_column, after_entry, entry_numbers, entry_line, last_numbers, page_of, page_length, page_fault, page_refusal, page_answer, page_after}

pub page_numbered : (m : Machine) (list w run : List ℕ) → Numbered (page_fault m list w run)
unfolding page_fault
page_numbered m list w run =
    numbered_by (well_formed m list) _ 16
    (numbered_by (leb (length w) longest_word && leb (length run) longest_run) _ 9 (numbered_by (good_letters m.letters w) 0 8 numbered_none numbered_8) numbered_9)
    numbered_16

module _ (m : Machine) (list w run : List ℕ) where
  pub entry_wide : (i : ℕ) → length (entry_line m list w run i) ≡ 31
  unfolding entry_line
  entry_wide i = line_length page_column (entry_numbers i (after_entry m list w run i))

  pub page_long : length (page_of m list w run) ≡ page_length (length run)
  unfolding page_of
  page_long =
      let entries = each_length 31 (entry_line m list w run) entry_wide (length run) in
      let last : length (line_of page_column (last_numbers m list w run)) ≡ 19 = line_length page_column (last_numbers m list w run) in
      length-append (each_below (length run) (entry_line m list w run)) (line_of page_column (last_numbers m list w run)) ∙ omega arith

  -- an accepting run is followed entry by entry
  module _ (good : well_formed m list ≡ true) (accepts : accepting m list w run ≡ true) where
    pub record Reached (i : ℕ) : Type 0 where
      pub placed : Placed m w (after_entry m list w run i) (after_entry m list w run i).mode
      pub rest : accepting_from m list w (after_entry m list w run i) (drop (suc i) run) ≡ true

    start_reached : (all : List ℕ) → run ≡ all → Reached 0
    unfolding accepting after_entry
    start_reached [] e = absurd (false≢true (ap (accepting m list w) (sym e) ∙ accepts))
    start_reached (q ∷ es) e =
        let a : (ltb q m.states && (initial m.marks q && accepting_from m list w (start_at q) es)) ≡ true = ap (accepting m list w) (sym e) ∙ accepts in
        let (lt, r) = and_true (ltb q m.states) (initial m.marks q && accepting_from m list w (start_at q) es) a in
        let from = (and_true (initial m.marks q) (accepting_from m list w (start_at q) es) r).1 in
        record {
          placed = start_placed m w (get_or run 0 0) (subst (λ (l : List ℕ). get_or l 0 0 < m.states) (sym e) (ltb-true q m.states lt));
          rest = subst (λ (l : List ℕ). accepting_from m list w (start_at (get_or l 0 0)) (drop 1 l) ≡ true) (sym e) from;
        }

    step_reached : (i : ℕ) → suc i < length run → Reached i
        → ((move m list w (after_entry m list w run i) (get_or run (suc i) 0)).allowed ≡ true)
        × (accepting_from m list w (move m list w (after_entry m list w run i) (get_or run (suc i) 0)).config (drop (suc (suc i)) run) ≡ true)
    unfolding accepting_from
    step_reached i lt r =
        and_true (move m list w (after_entry m list w run i) (get_or run (suc i) 0)).allowed
        (accepting_from m list w (move m list w (after_entry m list w run i) (get_or run (suc i) 0)).config (drop (suc (suc i)) run))
        (subst (λ (es : List ℕ). accepting_from m list w (after_entry m list w run i) es ≡ true) (drop-cons run (suc i) 0 lt) r.rest)

    pub reached : (i : ℕ) → i < length run → Reached i
    unfolding after_entry
    reached zero lt = start_reached run refl
    reached (suc i) lt =
        let (allowed, rest) = step_reached i lt (reached i (omega arith)) in
        record { placed = move_stays m list w (rules m list good) (after_entry m list w run i) (get_or run (suc i) 0) allowed; rest = rest }

    pub entry_allowed : (i : ℕ) → suc i < length run → (move m list w (after_entry m list w run i) (get_or run (suc i) 0)).allowed ≡ true
    entry_allowed i lt = (step_reached i lt (reached i (omega arith))).0

    pub some_entry : 1 ≤ length run
    unfolding accepting
    some_entry = at run refl
      where
        at : (all : List ℕ) → run ≡ all → 1 ≤ length run
        at [] e = absurd (false≢true (ap (accepting m list w) (sym e) ∙ accepts))
        at (q ∷ es) e = let long : length run ≡ suc (length es) = ap length e in omega arith

  -- where the lines of a page stand, whatever follows it
  pub entry_at : (rest : List ℕ) (i : ℕ) → i < length run
      → (tail : List ℕ) × (drop (31 * i) (page_of m list w run ++ rest) ≡ line_of page_column (entry_numbers i (after_entry m list w run i)) ++ tail)
  unfolding page_of entry_line
  entry_at rest i lt =
      let (tail, is) = each_drop 31 (entry_line m list w run) entry_wide (length run) i (line_of page_column (last_numbers m list w run) ++ rest) lt in
      (tail, ap (drop (31 * i)) (append_assoc (each_below (length run) (entry_line m list w run)) (line_of page_column (last_numbers m list w run)) rest) ∙ is)

  pub last_at : (rest : List ℕ) → drop (31 * length run) (page_of m list w run ++ rest) ≡ line_of page_column (last_numbers m list w run) ++ rest
  unfolding page_of
  last_at rest =
      ap (drop (31 * length run)) (append_assoc (each_below (length run) (entry_line m list w run)) (line_of page_column (last_numbers m list w run)) rest)
      ∙ drop_at (each_below (length run) (entry_line m list w run)) (line_of page_column (last_numbers m list w run) ++ rest) (31 * length run)
      (each_length 31 (entry_line m list w run) entry_wide (length run))

  -- the first refusals
  pub fault_table : well_formed m list ≡ false → 16 ≡ page_fault m list w run
  unfolding page_fault
  fault_table h = second _ h refl

  module _ (good : well_formed m list ≡ true) where
    too_long : (longest_word < length w) ⊎ (longest_run < length run) → (leb (length w) longest_word && leb (length run) longest_run) ≡ false
    too_long (inl long) = ap (λ (b : Bool). b && leb (length run) longest_run) (lt-leb (length w) longest_word long)
    too_long (inr long) = at (leb (length w) longest_word)
      where
        at : (b : Bool) → (b && leb (length run) longest_run) ≡ false
        at true = lt-leb (length run) longest_run long
        at false = refl

    pub fault_length : (longest_word < length w) ⊎ (longest_run < length run) → 9 ≡ page_fault m list w run
    unfolding page_fault
    fault_length h = first _ good (second _ (too_long h) refl)

    module _ (word_fits : length w ≤ longest_word) (run_fits : length run ≤ longest_run) where
      within : (leb (length w) longest_word && leb (length run) longest_run) ≡ true
      within = and_both_true (leb (length w) longest_word) (leb (length run) longest_run) (le-leb (length w) longest_word word_fits) (le-leb (length run) longest_run run_fits)

      pub fault_letter : good_letters m.letters w ≡ false → 8 ≡ page_fault m list w run
      unfolding page_fault
      fault_letter h = first _ good (first _ within (second _ h refl))

      no_fault : good_letters m.letters w ≡ true → 0 ≡ page_fault m list w run
      unfolding page_fault
      no_fault h = first _ good (first _ within (first _ h refl))

  pub fault_none : (page_fault m list w run ≡ 0) ↔ ((well_formed m list ≡ true) × (length w ≤ longest_word) × (length run ≤ longest_run) × (good_letters m.letters w ≡ true))
  unfolding page_fault
  fault_none = (
    λ e. at e (true_or_false (well_formed m list)) (true_or_false (leb (length w) longest_word && leb (length run) longest_run)) (true_or_false (good_letters m.letters w)),
    λ z. sym (no_fault z.0 z.1 z.2 z.3),
  )
    where
      at : page_fault m list w run ≡ 0 → (well_formed m list ≡ true) ⊎ (well_formed m list ≡ false)
          → ((leb (length w) longest_word && leb (length run) longest_run) ≡ true) ⊎ ((leb (length w) longest_word && leb (length run) longest_run) ≡ false)
          → (good_letters m.letters w ≡ true) ⊎ (good_letters m.letters w ≡ false)
          → (well_formed m list ≡ true) × (length w ≤ longest_word) × (length run ≤ longest_run) × (good_letters m.letters w ≡ true)
      at e (inr f) g l = absurd (let d = second {r = 16} _ f refl ∙ e in omega arith)
      at e (inl t) (inr f) l = absurd (let d = first {r = 9} _ t (second _ f refl) ∙ e in omega arith)
      at e (inl t) (inl g) (inr f) = absurd (let d = first {r = 8} _ t (first _ g (second _ f refl)) ∙ e in omega arith)
      at e (inl t) (inl g) (inl l) =
          let (a, b) = and_true (leb (length w) longest_word) (leb (length run) longest_run) g in
          (t, leb-true (length w) longest_word a, leb-true (length run) longest_run b, l)

  module _ (slice : List ℕ) where
    abbrev pub Leaves : Result ℕ Refusal → List ℕ → Type 0
    Leaves r after = (r ≡ page_answer m list w run (length slice)) × (after ≡ page_after m list w run slice)

    leaves : (o : Option Refusal) → o ≡ page_refusal m list w run (length slice)
        → Leaves (by_refusal o (Ok (page_length (length run))) (λ f. Err f)) (by_refusal o (page_of m list w run ++ drop (page_length (length run)) slice) (λ f. slice))
    unfolding page_answer page_after
    leaves o e = (
      ap (λ (x : Option Refusal). by_refusal {A = Result ℕ Refusal} x (Ok (page_length (length run))) (λ f. Err f)) e,
      ap (λ (x : Option Refusal). by_refusal x (page_of m list w run ++ drop (page_length (length run)) slice) (λ f. slice)) e,
    )

    abbrev short : Refusal
    short = ShortSheet (page_length (length run))

    pub refused_first : (page_fault m list w run ≡ 0 → ⊥) → Leaves (Err (refusal (page_fault m list w run))) slice
    unfolding page_refusal
    refused_first h = leaves (Some (refusal (page_fault m list w run))) (input_refused (page_fault m list w run) (accepting m list w run) short (length slice) h)

    module _ (good : page_fault m list w run ≡ 0) where
      pub refused_run : accepting m list w run ≡ false → Leaves (Err NotAccepting) slice
      unfolding page_refusal
      refused_run h = leaves (Some NotAccepting) (run_refused (page_fault m list w run) (accepting m list w run) short (length slice) good h)

      module _ (a : accepting m list w run ≡ true) where
        pub refused_room : length slice < page_length (length run) → Leaves (Err (ShortSheet (page_length (length run)))) slice
        unfolding page_refusal
        refused_room h = leaves (Some short) (slice_refused (page_fault m list w run) (accepting m list w run) short (length slice) good a h)

        pub written_all : page_length (length run) ≤ length slice → Leaves (Ok (page_length (length run))) (page_of m list w run ++ drop (page_length (length run)) slice)
        unfolding page_refusal
        written_all h = leaves None (none_refused (page_fault m list w run) (accepting m list w run) short (length slice) good a h)
