-- The machine: its marks, its transitions, and the rules of a table (document 01, "The table").
--
-- mark_of marks q       == the mark of state q
-- initial marks q      == state q is initial; likewise final, buffering, matching
-- transition_at list k  == transition number k of the lent list
-- both_matching marks t == both ends of transition t are matching states
-- well_formed m list    == the record and its list obey the rules of a table (refusal 16 where not)
use Rattle.std.specs.Prelude.{ℕ, ◌+◌, ◌*◌, ◌-◌, ◌/◌, ◌%◌, List, Bool, cond, not, ◌&&◌, ◌||◌, length, get_or, leb, ltb, eqb}
use Rattle.basics.specs.Search.{all_below}
use Rattle.fsbm.specs.declared.machine.Machine.{Machine}
use Rattle.fsbm.specs.declared.machine.Transition.{Transition}

-- the largest number of states, of letters, of transitions
abbrev pub max_states : ℕ
max_states = 64

abbrev pub max_letters : ℕ
max_letters = 250

abbrev pub max_transitions : ℕ
max_transitions = 4000

-- the mark of state q: a sum of 1 (initial), 2 (final), 4 (buffering) and 8 (matching)
abbrev pub mark_of : List ℕ → ℕ → ℕ
mark_of marks q = cond (ltb q max_states) (get_or marks q 0) 0

abbrev pub initial : List ℕ → ℕ → Bool
initial marks q = eqb (mark_of marks q % 2) 1

abbrev pub final : List ℕ → ℕ → Bool
final marks q = eqb (mark_of marks q / 2 % 2) 1

abbrev pub buffering : List ℕ → ℕ → Bool
buffering marks q = eqb (mark_of marks q / 4 % 2) 1

abbrev pub matching : List ℕ → ℕ → Bool
matching marks q = eqb (mark_of marks q / 8 % 2) 1

-- a lent list holds three numbers a transition: from, letter, to
abbrev pub transition_at : List ℕ → ℕ → Transition
transition_at list k = record { from = get_or list (k * 3) 0; letter = get_or list (k * 3 + 1) 0; to = get_or list (k * 3 + 2) 0 }

abbrev pub both_matching : List ℕ → Transition → Bool
both_matching marks t = matching marks t.from && matching marks t.to

-- a state's mark is at most 15 and never buffering and matching together; past the last state it is 0
abbrev pub good_mark : Machine → ℕ → Bool
good_mark m q =
    cond (ltb q m.states) (leb (mark_of m.marks q) 15 && not (buffering m.marks q && matching m.marks q))
    (eqb (mark_of m.marks q) 0)

-- the states and the letter that a transition names are there
abbrev pub named : ℕ → ℕ → Transition → Bool
named states letters t = ltb t.from states && (leb t.letter letters && ltb t.to states)

-- transitions compare by from, then letter, then to
abbrev pub precedes : Transition → Transition → Bool
precedes s t =
    cond (eqb s.from t.from) (cond (eqb s.letter t.letter) (ltb s.to t.to) (ltb s.letter t.letter))
    (ltb s.from t.from)

-- transition number k names only what is there, and comes strictly after the one before it
abbrev pub good_transition : ℕ → ℕ → List ℕ → ℕ → Bool
good_transition states letters list k =
    named states letters (transition_at list k) && (eqb k 0 || precedes (transition_at list (k - 1)) (transition_at list k))

-- the ranges, the length of the list, the marks, the names, and the strict rise; nothing past the count is looked at
unfoldable pub well_formed : Machine → List ℕ → Bool
well_formed m list =
    leb 1 m.states
    && (leb m.states max_states
    && (leb m.letters max_letters
    && (leb m.transitions max_transitions
    && (leb (m.transitions * 3) (length list)
    && (all_below max_states (good_mark m) && all_below m.transitions (good_transition m.states m.letters list))))))
