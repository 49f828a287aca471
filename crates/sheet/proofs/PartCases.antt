-- The parts of a sheet as the reader meets them.
--
-- refused                   == a fault of this number refuses by this refusal
-- ColumnsRead s i c numbers == the first c columns of the line at byte i are as described, and these are their numbers
-- columns_none, columns_next == none is read yet; one column more
-- line-..                   == the fault of a line: too short, a bad column, a bad end, none
-- header_bad, header_counts, header_read == line one: a fault of the line, a fault of its counts, none; header_small == its counts are in their ranges
-- StatesTo s q marks        == what holds once q states are read
-- states_none, state_next, states_done == before the first, one state more, after the last
-- state_line_lem, state_mark    == a state's line has a fault: of the line, of its numbers
-- mark_small                == a mark without fault is small
-- Last s states k before    == before is the line of the transition before transition k, if there is one
-- TransitionsTo s states letters k kept after before == what holds once k transitions are read
-- transitions_none, transition_next, transitions_done == before the first, one transition more, after the last
-- transition_line_lem, transition_order == a transition's line has a fault: of the line, of its numbers
-- numbers_small             == the numbers of a transition without fault are small
use Prim.Native.Nat.{ℕ, suc, ◌+◌, ◌*◌, ◌-◌, ◌<◌, ◌≤◌}
use mathlib.Core.Path.{◌≡◌, refl, sym, ap, ◌∙◌, subst}
use mathlib.Core.List.{List, [], ◌∷◌, ◌++◌}
use mathlib.Core.Bool.{Bool, true, false, not, ◌&&◌}
use native.Mathlib.Omega.{arith}
use lib.ListN.{length, get_or, set, replicate}
use lib.Seq.{set_at, append_snoc}
use lib.Dec.{leb, ltb, eqb}
use borrow.Author.Tests.{leb-true, ltb-true, le-leb, lt-leb, eq-eqb, ne_eqb}
use Rattle.std.specs.Prelude.{Option, None, Some, Ok, Err}
use Rattle.basics.specs.Lists.{put}
use Rattle.basics.specs.Lists.Laws.{set_next, put_three}
use Rattle.basics.specs.Each.{each_below}
use Rattle.basics.specs.Each.Laws.{each_next, each_length, each_none, each_more}
use Rattle.basics.specs.Search.Laws.{and_true}
use Rattle.columns.specs.Column.{no_number, some_number}
use Rattle.columns.specs.Column.Laws.{none_answered, number_answered}
use Rattle.fsbm.specs.Answers.{refusal, passed}
use Rattle.fsbm.specs.Rules.{Counts}
use Rattle.fsbm.specs.Answers.Laws.{passed_ok, passed_err}
use Rattle.fsbm.specs.declared.answer.Refusal.{Refusal}
use Rattle.fsbm.specs.declared.answer.Refusal.TheVariants.{MissingBytes, BadColumn}
use Rattle.fsbm.specs.declared.machine.Transition.{Transition}
use Rattle.sheet.specs.Series.{or_else, first_of}
use Rattle.sheet.specs.Series.Laws.{or_none, or_fault, first_at, first_next}
use Rattle.sheet.specs.Format.{state_start, transition_start}
use Rattle.sheet.specs.Reading.{unless, column_at, column_fault, line_fault, header_fault, counts_fault, mark_fault, state_fault, transition_in, order_fault, order_after, transition_fault, as_transition}
use Rattle.sheet.specs.Reading.{marks_of, numbers_in}
use Rattle.sheet.specs.Reading.Laws.{counts_none, mark_none, order_none}
use Rattle.sheet.specs.Parts.{Numbers, HeaderRead, StatesRead, TransitionsRead}
use Rattle.sheet.specs.declared.faults.Line.{Line}
use Rattle.sheet.specs.declared.header.Header.{Header}

-- the fault v is one, and f its refusal
abbrev pub Refused : ℕ → Refusal → Type 0
Refused v f = (v ≡ 0 → ⊥) × (f ≡ refusal v)

pub missing : Refused 1 MissingBytes
unfolding refusal
missing = (λ (q : 1 ≡ 0). omega arith, refl)

pub bad : Refused 2 BadColumn
unfolding refusal
bad = (λ (q : 2 ≡ 0). omega arith, refl)

pub refused_as : (v w : ℕ) (f : Refusal) → Refused v f → w ≡ v → Refused w f
refused_as v w f h e = subst (λ (k : ℕ). Refused k f) (sym e) h

-- the numbers of columns that were read
pub record ColumnsRead (s : List ℕ) (i c : ℕ) (numbers : List ℕ) : Type 0 where
  pub good : first_of c (column_fault s i) ≡ 0
  pub are : (j : ℕ) → j < c → get_or numbers j 0 ≡ column_at s (i + j * 5)

module _ (s : List ℕ) (i : ℕ) where
  pub columns_none : (numbers : List ℕ) → ColumnsRead s i 0 numbers
  unfolding first_of
  columns_none numbers = record { good = refl; are = λ j h. absurd (omega arith) }

  bad_column : (c : ℕ) → column_at s (i + c * 5) ≡ no_number → column_fault s i c ≡ 2
  unfolding column_fault
  bad_column c e = ap (λ (z : Bool). unless (not z) 2) (eq-eqb (column_at s (i + c * 5)) no_number e)

  good_column : (c : ℕ) → (column_at s (i + c * 5) ≡ no_number → ⊥) → column_fault s i c ≡ 0
  unfolding column_fault
  good_column c e = ap (λ (z : Bool). unless (not z) 2) (ne_eqb (column_at s (i + c * 5)) no_number e)

  pub columns_next : (c v : ℕ) (numbers : List ℕ) → ColumnsRead s i c numbers → Some v ≡ some_number (column_at s (i + c * 5)) → c < length numbers
      → ColumnsRead s i (c + 1) (set numbers c v)
  columns_next c v numbers h is l =
      let (e, n) = number_answered (column_at s (i + c * 5)) v is in
      record {
        good = first_next c (column_fault s i) h.good (good_column c (λ (q : column_at s (i + c * 5) ≡ no_number). n (e ∙ q)));
        are = set_next numbers c v 0 l (λ j x. x ≡ column_at s (i + j * 5)) e h.are;
      }

  module _ (n : ℕ) where
    pub line_short : length s < i + n * 5 + 1 → line_fault s n i ≡ 1
    unfolding line_fault
    line_short h =
        ap (λ (z : Bool). or_else (unless z 1) (or_else (first_of n (column_fault s i)) (unless (eqb (get_or s (i + n * 5) 0) 10) 2))) (lt-leb _ _ h)
        ∙ or_fault 1 _ (λ (q : 1 ≡ 0). omega arith)

    long : i + n * 5 + 1 ≤ length s → line_fault s n i ≡ or_else (first_of n (column_fault s i)) (unless (eqb (get_or s (i + n * 5) 0) 10) 2)
    unfolding line_fault
    long h =
        ap (λ (z : Bool). or_else (unless z 1) (or_else (first_of n (column_fault s i)) (unless (eqb (get_or s (i + n * 5) 0) 10) 2))) (le-leb _ _ h)
        ∙ or_none 0 _ refl

    pub line_column : i + n * 5 + 1 ≤ length s → (c : ℕ) (numbers : List ℕ) → ColumnsRead s i c numbers → c < n → None ≡ some_number (column_at s (i + c * 5)) → line_fault s n i ≡ 2
    line_column h c numbers r l is =
        let e = none_answered (column_at s (i + c * 5)) is in
        let f : 2 ≡ first_of n (column_fault s i) = first_at n (column_fault s i) c 2 (λ (q : 2 ≡ 0). omega arith) r.good (bad_column c e) l in
        long h ∙ (or_fault _ _ (λ (q : first_of n (column_fault s i) ≡ 0). omega arith) ∙ sym f)

    ended : i + n * 5 + 1 ≤ length s → (c : ℕ) (numbers : List ℕ) → ColumnsRead s i c numbers → n ≡ c → line_fault s n i ≡ unless (eqb (get_or s (i + n * 5) 0) 10) 2
    ended h c numbers r e = long h ∙ or_none _ _ (ap (λ (k : ℕ). first_of k (column_fault s i)) e ∙ r.good)

    pub line_end : i + n * 5 + 1 ≤ length s → (c : ℕ) (numbers : List ℕ) → ColumnsRead s i c numbers → n ≡ c → (get_or s (i + n * 5) 0 ≡ 10 → ⊥) → line_fault s n i ≡ 2
    line_end h c numbers r e d = ended h c numbers r e ∙ ap (λ (z : Bool). unless z 2) (ne_eqb _ _ d)

    pub line_good : i + n * 5 + 1 ≤ length s → (c : ℕ) (numbers : List ℕ) → ColumnsRead s i c numbers → n ≡ c → get_or s (i + n * 5) 0 ≡ 10 → line_fault s n i ≡ 0
    line_good h c numbers r e d = ended h c numbers r e ∙ ap (λ (z : Bool). unless z 2) (eq-eqb _ _ d)

-- Line one

module _ (s : List ℕ) where
  pub header_bad : (f : Refusal) → Refused (line_fault s 3 0) f → HeaderRead s (Err f)
  unfolding header_fault
  header_bad f bad = refused_as (line_fault s 3 0) _ f bad (or_fault _ _ bad.0)

  module _ (numbers : List ℕ) (good : line_fault s 3 0 ≡ 0) (read : Numbers s 3 0 numbers) where
    abbrev pub counts : ℕ
    counts = counts_fault (get_or numbers 0 0) (get_or numbers 1 0) (get_or numbers 2 0)

    states_are : get_or numbers 0 0 ≡ column_at s 0
    states_are = read.are 0 (omega arith)

    letters_are : get_or numbers 1 0 ≡ column_at s 5
    letters_are = read.are 1 (omega arith)

    transitions_are : get_or numbers 2 0 ≡ column_at s 10
    transitions_are = read.are 2 (omega arith)

    fault_counts : header_fault s ≡ counts
    unfolding header_fault
    fault_counts = or_none _ _ good ∙ λ j. counts_fault (sym states_are j) (sym letters_are j) (sym transitions_are j)

    pub header_counts : (f : Refusal) → Err f ≡ passed counts → HeaderRead s (Err f)
    header_counts f e = refused_as counts _ f (passed_err counts f e) fault_counts

    module _ (passes : Ok tt ≡ passed counts) where
      pub header_small : Counts (get_or numbers 0 0) (get_or numbers 1 0) (get_or numbers 2 0)
      header_small = (counts_none _ _ _).0 (passed_ok counts passes)

      pub header_read : (h : Header) → h.states ≡ get_or numbers 0 0 → h.letters ≡ get_or numbers 1 0 → h.transitions ≡ get_or numbers 2 0 → HeaderRead s (Ok h)
      header_read h a b d =
          let none = fault_counts ∙ passed_ok counts passes in
          (none, record { none = none; states = a ∙ states_are; letters = b ∙ letters_are; transitions = d ∙ transitions_are })

-- The lines of the states

-- what holds once q states are read
pub record StatesTo (s : List ℕ) (q : ℕ) (marks : List ℕ) : Type 0 where
  pub none : first_of q (state_fault s) ≡ 0
  pub are : marks ≡ marks_of s q

pub states_none : (s marks : List ℕ) → marks ≡ replicate 64 0 → StatesTo s 0 marks
unfolding first_of marks_of each_below
states_none s marks e = record { none = refl; are = e }

pub states_done : (s : List ℕ) (n q : ℕ) (marks : List ℕ) → StatesTo s q marks → q ≡ n → StatesRead s n (Ok tt) marks
states_done s n q marks t e = (ap (λ (k : ℕ). first_of k (state_fault s)) (sym e) ∙ t.none, t.are ∙ ap (λ (k : ℕ). marks_of s k) e)

module _ (s : List ℕ) (n q : ℕ) (marks : List ℕ) (so_far : StatesTo s q marks) (inside : q < n) where
  state_bad : (v : ℕ) (f : Refusal) → Refused v f → state_fault s q ≡ v → StatesRead s n (Err f) marks
  state_bad v f bad e = refused_as v _ f bad (sym (first_at n (state_fault s) q v bad.0 so_far.none e inside))

  pub state_line_lem : (v : ℕ) (f : Refusal) → Refused v f → line_fault s 2 (state_start q) ≡ v → StatesRead s n (Err f) marks
  unfolding state_fault
  state_line_lem v f bad e = state_bad v f bad (or_fault _ _ (λ (d : line_fault s 2 (state_start q) ≡ 0). bad.0 (sym e ∙ d)) ∙ e)

  module _ (c : ℕ) (numbers : List ℕ) (good : line_fault s 2 (state_start q) ≡ 0) (columns : ColumnsRead s (state_start q) c numbers) (all : 2 ≡ c) where
    abbrev pub fault : ℕ
    fault = mark_fault q (get_or numbers 0 0) (get_or numbers 1 0)

    mark_is : get_or numbers 1 0 ≡ column_at s (state_start q + 5)
    mark_is = columns.are 1 (omega arith)

    fault_is : fault ≡ state_fault s q
    unfolding state_fault
    fault_is =
        let z : state_start q + 0 * 5 ≡ state_start q = omega arith in
        let x : get_or numbers 0 0 ≡ column_at s (state_start q) = columns.are 0 (omega arith) ∙ ap (column_at s) z in
        (λ j. mark_fault q (x j) (mark_is j)) ∙ sym (or_none _ _ good)

    pub state_mark : (f : Refusal) → Err f ≡ passed fault → StatesRead s n (Err f) marks
    state_mark f e = state_bad fault f (passed_err fault f e) (sym fault_is)

    pub mark_small : Ok tt ≡ passed fault → get_or numbers 1 0 ≤ 15
    mark_small passes =
        let f = ((mark_none q (get_or numbers 0 0) (get_or numbers 1 0)).0 (passed_ok fault passes)).1 in
        leb-true _ _ (and_true (leb (get_or numbers 1 0) 15) _ f).0

    pub state_next : Ok tt ≡ passed fault → q < 64 → StatesTo s (q + 1) (set marks q (get_or numbers 1 0))
    unfolding marks_of
    state_next passes few =
        record {
          none = first_next q (state_fault s) so_far.none (sym fault_is ∙ passed_ok fault passes);
          are =
              ap (λ (l : List ℕ). set l q (get_or numbers 1 0)) (so_far.are ∙ ap (λ (m : ℕ). E ++ replicate m 0) left)
              ∙ (set_at E 0 R (get_or numbers 1 0) q (each_length 1 mark_piece (λ k. refl) q ∙ omega arith)
              ∙ (ap (λ (x : ℕ). E ++ x ∷ R) mark_is
              ∙ (sym (append_snoc E (column_at s (state_start q + 5)) R) ∙ ap (λ (l : List ℕ). l ++ R) (sym (each_next q mark_piece)))));
        }
      where
        mark_piece : ℕ → List ℕ
        mark_piece k = column_at s (state_start k + 5) ∷ []

        E : List ℕ
        E = each_below q mark_piece

        R : List ℕ
        R = replicate (64 - (q + 1)) 0

        left : 64 - q ≡ suc (64 - (q + 1))
        left = omega arith

-- The lines of the transitions

-- the numbers of transition k
abbrev pub numbers_piece : List ℕ → ℕ → ℕ → List ℕ
numbers_piece s states k = numbers_in s (transition_start states k)

numbers_wide : (s : List ℕ) (states k : ℕ) → length (numbers_piece s states k) ≡ 3
unfolding numbers_in
numbers_wide s states k = refl

-- the three numbers of a line
abbrev pub line_of_numbers : List ℕ → Line
line_of_numbers numbers = record { from = get_or numbers 0 0; letter = get_or numbers 1 0; to = get_or numbers 2 0 }

-- the line before that of transition k
abbrev pub Last : List ℕ → ℕ → ℕ → Option Line → Type 0
Last s states k None = k ≡ 0
Last s states k (Some before) = (0 < k) × (as_transition before ≡ transition_in s (transition_start states (k - 1)))

-- what holds once k transitions are read
pub record TransitionsTo (s : List ℕ) (states letters k : ℕ) (kept after : List ℕ) (before : Option Line) : Type 0 where
  pub none : first_of k (transition_fault s states letters) ≡ 0
  pub are : after ≡ put 0 kept (each_below k (numbers_piece s states))
  pub last : Last s states k before

pub transitions_none : (s : List ℕ) (states letters : ℕ) (kept : List ℕ) → TransitionsTo s states letters 0 kept kept None
unfolding first_of
transitions_none s states letters kept = record { none = refl; are = each_none 0 kept (numbers_piece s states); last = refl }

pub transitions_done : (s : List ℕ) (states letters n k : ℕ) (kept after : List ℕ) (before : Option Line) → TransitionsTo s states letters k kept after before → k ≡ n
    → TransitionsRead s states letters n kept (Ok tt) after
transitions_done s states letters n k kept after before t e = (
  ap (λ (j : ℕ). first_of j (transition_fault s states letters)) (sym e) ∙ t.none,
  t.are ∙ ap (λ (j : ℕ). put 0 kept (each_below j (numbers_piece s states))) e,
)

module _ (s : List ℕ) (states letters n k : ℕ) (kept after : List ℕ) (before : Option Line) (so_far : TransitionsTo s states letters k kept after before) (inside : k < n) where
  transition_bad : (v : ℕ) (f : Refusal) → Refused v f → transition_fault s states letters k ≡ v → TransitionsRead s states letters n kept (Err f) after
  transition_bad v f bad e = refused_as v _ f bad (sym (first_at n (transition_fault s states letters) k v bad.0 so_far.none e inside))

  pub transition_line_lem : (v : ℕ) (f : Refusal) → Refused v f → line_fault s 3 (transition_start states k) ≡ v → TransitionsRead s states letters n kept (Err f) after
  unfolding transition_fault
  transition_line_lem v f bad e =
      transition_bad v f bad (or_fault _ _ (λ (d : line_fault s 3 (transition_start states k) ≡ 0). bad.0 (sym e ∙ d)) ∙ e)

  module _ (c : ℕ) (numbers : List ℕ) (good : line_fault s 3 (transition_start states k) ≡ 0) (columns : ColumnsRead s (transition_start states k) c numbers) (all : 3 ≡ c) where
    abbrev pub order : ℕ
    order = order_after states letters before (line_of_numbers numbers)

    from_is : get_or numbers 0 0 ≡ column_at s (transition_start states k)
    from_is = let z : transition_start states k + 0 * 5 ≡ transition_start states k = omega arith in columns.are 0 (omega arith) ∙ ap (column_at s) z

    letter_is : get_or numbers 1 0 ≡ column_at s (transition_start states k + 5)
    letter_is = columns.are 1 (omega arith)

    to_is : get_or numbers 2 0 ≡ column_at s (transition_start states k + 10)
    to_is = columns.are 2 (omega arith)

    line_read : as_transition (line_of_numbers numbers) ≡ transition_in s (transition_start states k)
    unfolding transition_in
    line_read = λ j. record { from = from_is j; letter = letter_is j; to = to_is j }

    order_is : order ≡ transition_fault s states letters k
    unfolding transition_fault order_fault
    order_is = at before so_far.last ∙ sym (or_none _ _ good)
      where
        u : Transition
        u = transition_in s (transition_start states k)

        w : Transition
        w = transition_in s (transition_start states (k - 1))

        at : (b : Option Line) → Last s states k b → order_after states letters b (line_of_numbers numbers) ≡ order_fault states letters (eqb k 0) w u
        at None e =
            ap (λ (x : Transition). order_fault states letters true x x) line_read ∙ sym (ap (λ (x : Bool). order_fault states letters x w u) (eq-eqb k 0 e))
        at (Some b) e =
            ap (order_fault states letters false (as_transition b)) line_read
            ∙ (ap (λ (x : Transition). order_fault states letters false x u) e.1
            ∙ sym (ap (λ (x : Bool). order_fault states letters x w u) (ne_eqb k 0 (λ (z : k ≡ 0). let p = e.0 in omega arith))))

    pub transition_order : (f : Refusal) → Err f ≡ passed order → TransitionsRead s states letters n kept (Err f) after
    transition_order f e = transition_bad order f (passed_err order f e) (sym order_is)

    pub numbers_small : Ok tt ≡ passed order → (get_or numbers 0 0 < states) × (get_or numbers 1 0 ≤ letters) × (get_or numbers 2 0 < states)
    numbers_small passes = at before (passed_ok order passes)
      where
        t : Transition
        t = as_transition (line_of_numbers numbers)

        small : (first : Bool) (b : Transition) → order_fault states letters first b t ≡ 0 → (get_or numbers 0 0 < states) × (get_or numbers 1 0 ≤ letters) × (get_or numbers 2 0 < states)
        small first b e =
            let f = ((order_none states letters first b t).0 e).0 in
            let x = and_true (ltb (get_or numbers 0 0) states) (leb (get_or numbers 1 0) letters && ltb (get_or numbers 2 0) states) f in
            let y = and_true (leb (get_or numbers 1 0) letters) (ltb (get_or numbers 2 0) states) x.1 in
            (ltb-true _ _ x.0, leb-true _ _ y.0, ltb-true _ _ y.1)

        at : (b : Option Line) → order_after states letters b (line_of_numbers numbers) ≡ 0 → (get_or numbers 0 0 < states) × (get_or numbers 1 0 ≤ letters) × (get_or numbers 2 0 < states)
        at None e = small true t e
        at (Some b) e = small false (as_transition b) e

    pub transition_next : Ok tt ≡ passed order → n * 3 ≤ length kept → length after ≡ length kept
        → TransitionsTo s states letters (k + 1) kept (set (set (set after (k * 3) (get_or numbers 0 0)) (k * 3 + 1) (get_or numbers 1 0)) (k * 3 + 2) (get_or numbers 2 0)) (Some (line_of_numbers numbers))
    unfolding numbers_in
    transition_next passes room same =
        record {
          none = first_next k (transition_fault s states letters) so_far.none (sym order_is ∙ passed_ok order passes);
          are =
              each_more 3 0 (numbers_piece s states) (numbers_wide s states) kept after _ (get_or numbers 0 0 ∷ get_or numbers 1 0 ∷ get_or numbers 2 0 ∷ []) k (k * 3) so_far.are
              (put_three after (k * 3) (get_or numbers 0 0) (get_or numbers 1 0) (get_or numbers 2 0) (omega arith))
              (λ j. from_is j ∷ letter_is j ∷ to_is j ∷ [])
              (omega arith)
              (omega arith);
          last = (omega arith, line_read ∙ ap (λ (m : ℕ). transition_in s (transition_start states m)) back);
        }
      where
        back : k ≡ k + 1 - 1
        back = omega arith
