-- The product of a machine with a plain machine (document 01, "Joining"). The laws stand in specs/Product/.
--
-- plain m list            == a plain machine: no buffering or matching state, no epsilon transition
-- pair_state n p r         == the number of the pair (p, r), r one of n states
-- joined_from .. p r       == the transitions of the product that leave the pair (p, r), in order
-- joined ..               == the transitions of the product, in order
-- joined_transitions ..    == the same as a lent list holds them
-- letter_count list n x    == how many of the first n transitions have letter x
-- joined_count ..          == how many transitions the product has, by document 01's formula
-- joined_machine ..        == the product's record
-- join_fault ..            == the first refusal of two tables that are joined, 0 where there is none
-- join_refusal, join_answer, join_after == the refusal, if there is one, and the answer of join, and what the caller's list holds afterwards
-- join_values ..          == those that the rules give
use Rattle.std.specs.Prelude.{ℕ, zero, suc, ◌+◌, ◌*◌, ◌/◌, ◌%◌, List, [], ◌∷◌, ◌++◌, Bool, cond, not, ◌&&◌, length, drop, leb, ltb, eqb, Option, None, Some, Result, Ok, Err}
use Rattle.basics.specs.Search.{all_below}
use Rattle.fsbm.specs.Machine.{max_states, max_transitions, initial, final, buffering, matching, transition_at, well_formed}
use Rattle.fsbm.specs.Answers.{refusal, no_machine, MachineValues, by_refusal}
use Rattle.fsbm.specs.declared.machine.Machine.{Machine}
use Rattle.fsbm.specs.declared.machine.Transition.{Transition}
use Rattle.fsbm.specs.declared.answer.Refusal.{Refusal}
use Rattle.fsbm.specs.declared.answer.Refusal.TheVariants.{ShortList}
use Rattle.product.specs.Each.{each, sum_over}

-- a plain machine is a finite automaton
abbrev pub plain_state : List ℕ → ℕ → Bool
plain_state marks q = not (buffering marks q) && not (matching marks q)

abbrev pub plain_transition : List ℕ → ℕ → Bool
plain_transition list k = not (eqb (transition_at list k).letter 0)

unfoldable pub plain : Machine → List ℕ → Bool
plain m list = all_below m.states (plain_state m.marks) && all_below m.transitions (plain_transition list)

abbrev pub pair_state : ℕ → ℕ → ℕ → ℕ
pair_state n p r = p * n + r

-- from the pair (p, r) by x to the pair (q, s)
abbrev pub joint : ℕ → ℕ → ℕ → ℕ → ℕ → ℕ → Transition
joint n p r x q s = record { from = pair_state n p r; letter = x; to = pair_state n q s }

-- what transition t of the first machine, from p, gives at the pair (p, r), for a second machine of n states: epsilon moves the
-- first alone, a letter moves both, by each transition of the second from r by that letter
unfoldable pub joint_moves : ℕ → ℕ → List ℕ → ℕ → Transition → List Transition
joint_moves n count second r t =
    cond (eqb t.letter 0)
    (joint n t.from r 0 t.to r ∷ [])
    (each 0 count
    (λ k. cond (eqb (transition_at second k).from r && eqb (transition_at second k).letter t.letter)
    (joint n t.from r t.letter t.to (transition_at second k).to ∷ [])
    []))

module _ (m₁ : Machine) (l₁ : List ℕ) (m₂ : Machine) (l₂ : List ℕ) where
  unfoldable pub joined_from : ℕ → ℕ → List Transition
  joined_from p r =
      each 0 m₁.transitions
      (λ i. cond (eqb (transition_at l₁ i).from p) (joint_moves m₂.states m₂.transitions l₂ r (transition_at l₁ i)) [])

  unfoldable pub joined : List Transition
  joined = each 0 m₁.states (λ p. each 0 m₂.states (λ r. joined_from p r))

-- three numbers a transition
unfoldable pub flat : List Transition → List ℕ
flat [] = []
flat (t ∷ ts) = t.from ∷ t.letter ∷ t.to ∷ flat ts

unfoldable pub letter_count : List ℕ → ℕ → ℕ → ℕ
letter_count list zero x = 0
letter_count list (suc n) x = letter_count list n x + cond (eqb (transition_at list n).letter x) 1 0

module _ (m₁ : Machine) (l₁ : List ℕ) (m₂ : Machine) (l₂ : List ℕ) where
  unfoldable pub joined_transitions : List ℕ
  joined_transitions = flat (joined m₁ l₁ m₂ l₂)

  -- (epsilon transitions of the first) × (states of the second), plus for each letter the product of the two counts
  unfoldable pub joined_count : ℕ
  joined_count =
      letter_count l₁ m₁.transitions 0 * m₂.states
      + sum_over 1 m₁.letters (λ x. letter_count l₁ m₁.transitions x * letter_count l₂ m₂.transitions x)

-- initial and final need both, buffering and matching follow the first
unfoldable pub pair_mark : List ℕ → ℕ → List ℕ → ℕ → ℕ
pair_mark marks₁ p marks₂ r =
    cond (initial marks₁ p && initial marks₂ r) 1 0
    + cond (final marks₁ p && final marks₂ r) 2 0
    + cond (buffering marks₁ p) 4 0
    + cond (matching marks₁ p) 8 0

-- the mark of state q of the product, which is the pair (q / n, q % n); past the last state it is 0
unfoldable pub joined_mark : Machine → Machine → ℕ → ℕ
joined_mark m₁ m₂ q = cond (ltb q (m₁.states * m₂.states)) (pair_mark m₁.marks (q / m₂.states) m₂.marks (q % m₂.states)) 0

unfoldable pub joined_marks : Machine → Machine → List ℕ
joined_marks m₁ m₂ = each 0 max_states (λ q. joined_mark m₁ m₂ q ∷ [])

module _ (m₁ : Machine) (l₁ : List ℕ) (m₂ : Machine) (l₂ : List ℕ) where
  unfoldable pub joined_machine : Machine
  joined_machine =
      record {
        states = m₁.states * m₂.states;
        letters = m₁.letters;
        transitions = joined_count m₁ l₁ m₂ l₂;
        marks = joined_marks m₁ m₂;
      }

  -- 16 a table breaks the rules, 10 the second is not plain, 11 the letter counts differ, 12 too many states, 13 too many transitions
  unfoldable pub join_fault : ℕ
  join_fault =
      cond (well_formed m₁ l₁)
      (cond (well_formed m₂ l₂)
      (cond (plain m₂ l₂)
      (cond (eqb m₁.letters m₂.letters)
      (cond (leb (m₁.states * m₂.states) max_states) (cond (leb (joined_count m₁ l₁ m₂ l₂) max_transitions) 0 13) 12)
      11)
      10)
      16)
      16

  -- last 15: a list of this length is too short
  unfoldable pub join_refusal : ℕ → Option Refusal
  join_refusal room =
      cond (eqb join_fault 0)
      (cond (leb (joined_count m₁ l₁ m₂ l₂ * 3) room) None (Some (ShortList (joined_count m₁ l₁ m₂ l₂ * 3))))
      (Some (refusal join_fault))

module _ (m₁ : Machine) (l₁ : List ℕ) (m₂ : Machine) (l₂ : List ℕ) where
  unfoldable pub join_answer : ℕ → Result Machine Refusal
  join_answer room = by_refusal (join_refusal m₁ l₁ m₂ l₂ room) (Ok (joined_machine m₁ l₁ m₂ l₂)) (λ f. Err f)

  unfoldable pub join_values : ℕ → MachineValues
  join_values room =
      cond (eqb (join_fault m₁ l₁ m₂ l₂) 0)
      (cond (leb (joined_count m₁ l₁ m₂ l₂ * 3) room)
      (record { refusal = 0; needed = 0; machine = joined_machine m₁ l₁ m₂ l₂ })
      (record { refusal = 15; needed = joined_count m₁ l₁ m₂ l₂ * 3; machine = no_machine }))
      (record { refusal = join_fault m₁ l₁ m₂ l₂; needed = 0; machine = no_machine })

  -- the list as it was, or the transitions at its front
  unfoldable pub join_after : List ℕ → List ℕ
  join_after list =
      cond (eqb (join_values (length list)).refusal 0)
      (joined_transitions m₁ l₁ m₂ l₂ ++ drop (joined_count m₁ l₁ m₂ l₂ * 3) list)
      list
