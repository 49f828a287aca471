-- The ways through the functions of src/table.rt.
--
-- filling_placed               == the positions from p on, once the rows of p were put into the tables
-- onward_best, begins_some     == what fill_position hands on
-- blank_best, unreached_best   == the rows of a position that no run reaches
-- zero_at                      == the counts that fill begins with
use Prim.Native.Nat.{ℕ, zero, suc, ◌+◌, ◌-◌, ◌*◌, ◌≤◌, ◌<◌}
use mathlib.Core.Path.{◌≡◌, refl, sym, ap, ◌∙◌, subst}
use mathlib.Core.Logic.{◌⊎◌, inl, inr}
use mathlib.Core.Bool.{false, false≢true}
use mathlib.Core.List.{List, []}
use native.Mathlib.Omega.{arith}
use native.Mathlib.Decide.{ℕ_discrete, dec_lt}
use lib.ListN.{length, get_or, set, drop, length-set, replicate, get_or-replicate, get_or-eq_default}
use lib.Bits.{bit_and}
use lib.Seq.{slice, get_or-set_same, get_or-set_other}
use Rattle.stateset.specs.Set.{In, below, SetIs}
use Rattle.stateset.specs.Set.Laws.{empty_in}
use Rattle.fsbm.specs.declared.machine.Machine.{Machine}
use Rattle.fsbm.specs.declared.config.Mode.TheVariants.{Normal, Emptying}
use Rattle.fsbm.specs.Rules.{Rules, rules}
use Rattle.layers.specs.Costs.{RowBest}
use Rattle.layers.specs.Rows.{Given}
use Rattle.layers.specs.Layers.{blank_row, NoneBelow, Begins, PositionBest}
use Rattle.layers.specs.declared.layer.Position.{Position}
use Rattle.layers.specs.Layers.Laws.{blank_position, none_best}
use Rattle.tables.specs.declared.ends.Left.{Left}
use Rattle.tables.specs.declared.ends.Left.TheVariants.{Kept, Blank}
use Rattle.tables.specs.Halves.{SharedFrom}
use Rattle.tables.specs.Tables.{near_of, row_at, PositionRows, EmptyRow, EndRow, EndRows, put_position, Placed, Filling}
use Rattle.tables.specs.Tables.Laws.{empty_start, blank_on, nears, position_before}
use Rattle.tables.proofs.CopyCases.{row_same, row_other}

module _ (t : List (List ℕ)) (p : ℕ) (position : Position) (l : p * 3 + 3 ≤ length t) where
  put_size : length (put_position t p position) ≡ length t
  put_size = length-set (set (set t (p * 3) position.normal) (p * 3 + 1) position.buffering) (p * 3 + 2) position.emptying ∙ length-set (set t (p * 3) position.normal) (p * 3 + 1) position.buffering ∙ length-set t (p * 3) position.normal

  put_other : (j : ℕ) → (j ≡ p * 3 → ⊥) → (j ≡ p * 3 + 1 → ⊥) → (j ≡ p * 3 + 2 → ⊥) → row_at (put_position t p position) j ≡ row_at t j
  put_other j a b c =
      get_or-set_other (set (set t (p * 3) position.normal) (p * 3 + 1) position.buffering) (p * 3 + 2) j position.emptying [] c
      ∙ get_or-set_other (set t (p * 3) position.normal) (p * 3 + 1) j position.buffering [] b ∙ get_or-set_other t (p * 3) j position.normal [] a

  put_emptying : row_at (put_position t p position) (p * 3 + 2) ≡ position.emptying
  put_emptying =
      let a = length-set t (p * 3) position.normal in
      let b = length-set (set t (p * 3) position.normal) (p * 3 + 1) position.buffering in
      get_or-set_same (set (set t (p * 3) position.normal) (p * 3 + 1) position.buffering) (p * 3 + 2) position.emptying [] (omega arith)

  put_buffering : row_at (put_position t p position) (p * 3 + 1) ≡ position.buffering
  put_buffering =
      let a = length-set t (p * 3) position.normal in
      get_or-set_other (set (set t (p * 3) position.normal) (p * 3 + 1) position.buffering) (p * 3 + 2) (p * 3 + 1) position.emptying [] (λ (z : p * 3 + 1 ≡ p * 3 + 2). absurd (omega arith))
      ∙ get_or-set_same (set t (p * 3) position.normal) (p * 3 + 1) position.buffering [] (omega arith)

  put_normal : row_at (put_position t p position) (p * 3) ≡ position.normal
  put_normal =
      get_or-set_other (set (set t (p * 3) position.normal) (p * 3 + 1) position.buffering) (p * 3 + 2) (p * 3) position.emptying [] (λ (z : p * 3 ≡ p * 3 + 2). absurd (omega arith))
      ∙ (get_or-set_other (set t (p * 3) position.normal) (p * 3 + 1) (p * 3) position.buffering [] (λ (z : p * 3 ≡ p * 3 + 1). absurd (omega arith)) ∙ get_or-set_same t (p * 3) position.normal [] (omega arith))

  module _ (m : Machine) (list sets w : List ℕ) (t' : List (List ℕ)) (is : t' ≡ put_position t p position) where
    placed_here : PositionBest m list (near_of m w sets) (drop p w) position.normal position.buffering position.emptying → PositionRows m list sets w t' p
    unfolding PositionRows
    placed_here best = rw (is, put_normal, put_buffering, put_emptying) best

    placed_other : (k : ℕ) → p < k → PositionRows m list sets w t k → PositionRows m list sets w t' k
    unfolding PositionRows
    placed_other k lt best =
        let a = put_other (k * 3) (λ (z : k * 3 ≡ p * 3). absurd (omega arith)) (λ (z : k * 3 ≡ p * 3 + 1). absurd (omega arith)) (λ (z : k * 3 ≡ p * 3 + 2). absurd (omega arith)) in
        let b = put_other (k * 3 + 1) (λ (z : k * 3 + 1 ≡ p * 3). absurd (omega arith)) (λ (z : k * 3 + 1 ≡ p * 3 + 1). absurd (omega arith)) (λ (z : k * 3 + 1 ≡ p * 3 + 2). absurd (omega arith)) in
        let c = put_other (k * 3 + 2) (λ (z : k * 3 + 2 ≡ p * 3). absurd (omega arith)) (λ (z : k * 3 + 2 ≡ p * 3 + 1). absurd (omega arith)) (λ (z : k * 3 + 2 ≡ p * 3 + 2). absurd (omega arith)) in
        rw (is, a, b, c) best

module _ (m : Machine) (list sets w : List ℕ) (p : ℕ) (position : Position) (t t' : List (List ℕ)) (le : p ≤ length w) (positions : length w * 3 + 3 ≤ length t) (is : t' ≡ put_position t p position) where
  room : p * 3 + 3 ≤ length t
  room = omega arith

  long : length w * 3 + 3 ≤ length t'
  long = let s = ap length is ∙ put_size t p position room in omega arith

  each_position : PositionBest m list (near_of m w sets) (drop p w) position.normal position.buffering position.emptying → ((k : ℕ) → p + 1 ≤ k → k ≤ length w → PositionRows m list sets w t k)
      → (k : ℕ) → p ≤ k → k ≤ length w → PositionRows m list sets w t' k
  each_position best after k a b = at (ℕ_discrete k p)
    where
      at : Dec (k ≡ p) → PositionRows m list sets w t' k
      at (yes z) = subst (PositionRows m list sets w t') (sym z) (placed_here t p position room m list sets w t' is best)
      at (no z) = placed_other t p position room m list sets w t' is k (omega arith) (after k (omega arith) b)

  end_here : PositionBest m list (near_of m w sets) (drop p w) position.normal position.buffering position.emptying → EmptyRow m list sets w p 0 position.emptying
  end_here best =
      subst (EmptyRow m list sets w p 0) (ap (λ (z : List (List ℕ)). row_at z (p * 3 + 2)) is ∙ put_emptying t p position room) (empty_start m list sets w t' p (placed_here t p position room m list sets w t' is best))

  -- the ends from p on, from those after p
  ends_from : (ends ends' : List (List ℕ)) (left left' : List Left) (k : Left) → length w < length ends → length w < length left → length ends' ≡ length ends
      → ((j : ℕ) → (j ≡ p → ⊥) → row_at ends' j ≡ row_at ends j) → left' ≡ set left p k → EndRow m list sets w p (row_at ends' p) k
      → ((e : ℕ) → p + 1 ≤ e → e ≤ length w → EndRow m list sets w e (row_at ends e) (get_or left e (Kept 0))) → EndRows m list sets w p ends' left'
  ends_from ends ends' left left' k in-ends in_left size others left_is row after =
      record {
        rows = omega arith;
        counts = let s = ap length left_is ∙ length-set left p k in omega arith;
        each = λ j a b. at j a b (ℕ_discrete j p);
      }
    where
      at : (j : ℕ) → p ≤ j → j ≤ length w → Dec (j ≡ p) → EndRow m list sets w j (row_at ends' j) (get_or left' j (Kept 0))
      at j a b (yes z) =
          let same = ap (λ (l : List Left). get_or l p (Kept 0)) left_is ∙ get_or-set_same left p k (Kept 0) (omega arith) in
          subst (λ (i : ℕ). EndRow m list sets w i (row_at ends' i) (get_or left' i (Kept 0))) (sym z) (subst (EndRow m list sets w p (row_at ends' p)) (sym same) row)
      at j a b (no z) =
          let same = ap (λ (l : List Left). get_or l j (Kept 0)) left_is ∙ get_or-set_other left p j k (Kept 0) z in
          subst (EndRow m list sets w j (row_at ends' j)) (sym same) (subst (λ (r : List ℕ). EndRow m list sets w j r (get_or left j (Kept 0))) (sym (others j z)) (after j (omega arith) b))

  blank_row_lem : Rules m list → PositionBest m list (near_of m w sets) (drop p w) position.normal position.buffering position.emptying → NoneBelow m.states position.emptying → EmptyRow m list sets w p 0 blank_row
  unfolding EmptyRow
  blank_row_lem rules best none = none_best m list rules (near_of m w sets) (drop (p - 0) w) (slice (p - 0) p w) Emptying position.emptying none (end_here best)

  pub filling_placed : Rules m list → (ends ends' : List (List ℕ)) (left left' : List Left) (counts : List ℕ) → length w < length ends → length w < length left
      → ((k : ℕ) → p + 1 ≤ k → k ≤ length w → PositionRows m list sets w t k) → ((e : ℕ) → p + 1 ≤ e → e ≤ length w → EndRow m list sets w e (row_at ends e) (get_or left e (Kept 0)))
      → SharedFrom w p counts → PositionBest m list (near_of m w sets) (drop p w) position.normal position.buffering position.emptying
      → Placed m.states p position t t' ends ends' left left' → Filling m list sets w p t' ends' left' counts
  filling_placed rules ends ends' left left' counts in-ends in_left after after-ends counted best placed =
      record { positions = long; each = each_position best after; ending = on placed.ending; counted = counted }
    where
      on : ((ends' ≡ set ends p position.emptying) × (left' ≡ set left p (Kept 0))) ⊎ (NoneBelow m.states position.emptying × (ends' ≡ ends) × (left' ≡ set left p (Blank 0))) → EndRows m list sets w p ends' left'
      on (inl (ends_is, left_is)) =
          let here = row_same ends ends' p position.emptying (omega arith) ends_is in
          let row : EmptyRow m list sets w p 0 (row_at ends' p) = subst (EmptyRow m list sets w p 0) (sym here) (end_here best) in
          ends_from ends ends' left left' (Kept 0) in-ends in_left (ap length ends_is ∙ length-set ends p position.emptying) (λ j n. row_other ends ends' p j position.emptying n ends_is) left_is
          (omega arith, row) after-ends
      on (inr (none, ends_is, left_is)) =
          ends_from ends ends' left left' (Blank 0) in-ends in_left (ap length ends_is) (λ j n. ap (λ (z : List (List ℕ)). row_at z j) ends_is) left_is
          (blank_on m list sets w rules p 0 le (blank_row_lem rules best none)) after-ends

module _ (m : Machine) (list sets w : List ℕ) where
  pub onward_best : (t : List (List ℕ)) (p : ℕ) → PositionRows m list sets w t p → (row : List ℕ) → row ≡ row_at t (p * 3) → RowBest m list (near_of m w sets) (drop p w) [] Normal row
  unfolding PositionRows
  onward_best t p h row e = subst (RowBest m list (near_of m w sets) (drop p w) [] Normal) (sym e) h.normal

  -- the rows of a position that no run reaches
  pub blank_best : (targets : List ℕ) (g h : ℕ) → Given m list targets g h → (t : List (List ℕ)) (p near : ℕ) → p < length w → near ≡ bit_and (get_or sets p 0) (below m.states) → near ≡ 0
      → PositionRows m list sets w t (p + 1) → PositionBest m list (near_of m w sets) (drop p w) blank_row blank_row blank_row
  blank_best targets g h given t p near lt is z next =
      position_before m list sets w p near (get_or w p 0) (row_at t ((p + 1) * 3)) blank_row blank_row blank_row blank_row lt is refl (onward_best t (p + 1) next (row_at t ((p + 1) * 3)) refl)
      (λ some. absurd (empty_in some.state (subst (λ (n : ℕ). In n some.state) z ((nears m list sets w p near (omega arith) is some.state).0 some.kept))))
      false (λ f. false≢true f) (blank_position m list (rules m list given.good) h given.matchings near z (get_or w p 0) (row_at t ((p + 1) * 3)) blank_row)

  -- where a copy begins, it begins in some states
  pub begins_some : (targets : List ℕ) (g h : ℕ) → Given m list targets g h → (p near starts : ℕ) {v : ℕ} → p < length w → near ≡ bit_and (get_or sets p 0) (below m.states)
      → SetIs starts v (λ q. In near q × In g q) → Begins m (near_of m w sets) (drop p w) → 0 < starts
  begins_some targets g h given p near starts lt is s some = on starts ((s.members some.state).1 ((nears m list sets w p near (omega arith) is some.state).0 some.kept, (given.bufferings some.state).1 some.is))
    where
      on : (x : ℕ) → In x some.state → 0 < x
      on zero i = absurd (empty_in some.state i)
      on (suc x) i = omega arith

-- the rows that unreached hands back
pub unreached_best : (m : Machine) (list sets w : List ℕ) (p : ℕ) {position : Position} → position ≡ record { normal = blank_row; buffering = blank_row; emptying = blank_row }
    → PositionBest m list (near_of m w sets) (drop p w) blank_row blank_row blank_row → PositionBest m list (near_of m w sets) (drop p w) position.normal position.buffering position.emptying
unreached_best m list sets w p e best = subst (λ (z : Position). PositionBest m list (near_of m w sets) (drop p w) z.normal z.buffering z.emptying) (sym e) best

abbrev zeros : List ℕ
zeros = replicate 128 0

pub zero_at : (d : ℕ) → get_or zeros d 0 ≡ 0
zero_at d = at (dec_lt d 128)
  where
    at : Dec (d < 128) → get_or zeros d 0 ≡ 0
    at (yes l) = get_or-replicate 128 d 0 0 l
    at (no l) = let s : length zeros ≡ 128 = refl in get_or-eq_default zeros 0 {n = d} (omega arith)
