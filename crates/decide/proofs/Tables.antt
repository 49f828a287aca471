-- What the table of a well-formed machine and its sets of states say of its transitions.
--
-- Read w x          == x is letter 0 or a letter of w
-- good_table, rooms == a prepared table is one that the functions on sets ask for
-- row_read          == it has the row of each letter that is read
-- kind-says         == a set made of one bit of the marks is the set of the states of that kind
-- TableOf m list w targets g h == the table of m's list for the letters of w, the set of its buffering states, the set of its matching states
-- edge_listed, listed_edge == an edge of a letter of w, or of epsilon, is a transition that the mode may take
use Prim.Native.Nat.{ℕ, ◌/◌, ◌%◌, ◌<◌}
use mathlib.Core.Path.{◌≡◌, sym, subst}
use mathlib.Core.Logic.{◌↔◌, ◌⊎◌, inl, inr}
use mathlib.Core.Bool.{true}
use mathlib.Core.List.{List}
use native.Mathlib.Omega.{arith}
use lib.ListN.{length, get_or}
use borrow.Author.Tests.{eqb-true, eq-eqb}
use Rattle.stateset.specs.Set.{In}
use Rattle.fsbm.specs.Machine.{well_formed, mark_of, initial, final, buffering, matching}
use Rattle.fsbm.specs.Published.{Listed}
use Rattle.fsbm.specs.declared.machine.Machine.{Machine}
use Rattle.fsbm.specs.declared.config.Mode.{Mode}
use Rattle.fsbm.specs.Rules.{Rules, rules, marked}
use Rattle.targets.specs.Prepared.{Row, Prepared}
use Rattle.decide.specs.Reach.{Rooms}
use Rattle.images.specs.Graph.{Members, graph, May, Edge, Good, KindsOf}
use Rattle.images.specs.declared.Kinds.{Kinds}

-- x is letter 0 or a letter of w
abbrev pub Read : List ℕ → ℕ → Type 0
Read w x = (x ≡ 0) ⊎ ((i : ℕ) × (i < length w) × (get_or w i 0 ≡ x) × (0 < x))

module _ {m : Machine} {list w targets : List ℕ} (t : Prepared m list w targets) where
  pub good_table : well_formed m list ≡ true → (k : Kinds) → KindsOf m.marks m.states k → Good targets m.states k.buffering k.matching
  good_table good k kinds =
      record {
        few = (rules m list good).states_fit;
        row = t.epsilon.room;
        epsilons = λ p q lt h. t.sources p q ((t.epsilon.listed p q lt).0 h);
        closed = t.closed k kinds;
      }

  pub rooms : Rooms targets m.states w
  rooms i lt = (t.letters i lt).room

  -- the row of such a letter
  pub row_read : {x : ℕ} → Read w x → Row m list targets x
  row_read (inl e) = subst (Row m list targets) (sym e) t.epsilon
  row_read (inr (i, lt, e, some)) = subst (Row m list targets) e (t.letters i lt)

-- a set made of one bit of the marks; b is the bit's value
module _ (m : Machine) (list : List ℕ) (s : Rules m list) (set : ℕ) where
  pub final_says : Members set (λ q. (q < m.states) × (mark_of m.marks q / 2 % 2 ≡ 1)) → (q : ℕ) → In set q ↔ (final m.marks q ≡ true)
  final_says k q = (
    λ h. eq-eqb (mark_of m.marks q / 2 % 2) 1 ((k.members q).0 h).1,
    λ h. let e = eqb-true (mark_of m.marks q / 2 % 2) 1 h in (k.members q).1 (marked m list s q (λ z. bit (mark_of m.marks q) e z), e),
  )
    where
      bit : (y : ℕ) → y / 2 % 2 ≡ 1 → y ≡ 0 → ⊥
      bit y e z = omega arith

  pub buffering_says : Members set (λ q. (q < m.states) × (mark_of m.marks q / 4 % 2 ≡ 1)) → (q : ℕ) → In set q ↔ (buffering m.marks q ≡ true)
  buffering_says k q = (
    λ h. eq-eqb (mark_of m.marks q / 4 % 2) 1 ((k.members q).0 h).1,
    λ h. let e = eqb-true (mark_of m.marks q / 4 % 2) 1 h in (k.members q).1 (marked m list s q (λ z. bit (mark_of m.marks q) e z), e),
  )
    where
      bit : (y : ℕ) → y / 4 % 2 ≡ 1 → y ≡ 0 → ⊥
      bit y e z = omega arith

  pub matching_says : Members set (λ q. (q < m.states) × (mark_of m.marks q / 8 % 2 ≡ 1)) → (q : ℕ) → In set q ↔ (matching m.marks q ≡ true)
  matching_says k q = (
    λ h. eq-eqb (mark_of m.marks q / 8 % 2) 1 ((k.members q).0 h).1,
    λ h. let e = eqb-true (mark_of m.marks q / 8 % 2) 1 h in (k.members q).1 (marked m list s q (λ z. bit (mark_of m.marks q) e z), e),
  )
    where
      bit : (y : ℕ) → y / 8 % 2 ≡ 1 → y ≡ 0 → ⊥
      bit y e z = omega arith

  pub initial_says : Members set (λ q. (q < m.states) × (mark_of m.marks q / 1 % 2 ≡ 1)) → (q : ℕ) → In set q ↔ ((q < m.states) × (initial m.marks q ≡ true))
  initial_says k q = (
    λ h. let z = (k.members q).0 h in (z.0, eq-eqb (mark_of m.marks q % 2) 1 (one (mark_of m.marks q) z.1)),
    λ h. (k.members q).1 (h.0, same (mark_of m.marks q) (eqb-true (mark_of m.marks q % 2) 1 h.1)),
  )
    where
      one : (y : ℕ) → y / 1 % 2 ≡ 1 → y % 2 ≡ 1
      one y e = omega arith

      same : (y : ℕ) → y % 2 ≡ 1 → y / 1 % 2 ≡ 1
      same y e = omega arith

pub record TableOf (m : Machine) (list w targets : List ℕ) (g h : ℕ) : Type 0 where
  pub rules : Rules m list
  pub holds : Prepared m list w targets
  pub stores : (q : ℕ) → In g q ↔ (buffering m.marks q ≡ true)
  pub matches : (q : ℕ) → In h q ↔ (matching m.marks q ≡ true)

module _ {m : Machine} {list w targets : List ℕ} {g h : ℕ} (t : TableOf m list w targets g h) where
  pub edge_listed : {T : Mode} {y p q : ℕ} → Read w y → Edge (graph targets m.states g h) T y p q → Listed list m.transitions p y q
  edge_listed {y = y} {p = p} {q = q} r e = ((row_read t.holds r).listed p q e.state).0 e.target

  pub listed_edge : {T : Mode} {y p q : ℕ} → Read w y → Listed list m.transitions p y q → May g h T p q → Edge (graph targets m.states g h) T y p q
  listed_edge {y = y} {p = p} {q = q} r d a =
      let small = t.rules.from_below d.number d.listed in
      let e = d.from in
      let state : p < m.states = omega arith in
      record { state = state; target = ((row_read t.holds r).listed p q state).1 d; may = a }
