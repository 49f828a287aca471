-- A test that a machine accepts no word of any length: the spots that runs reach piece by piece, with the two halves of a copy walked side by side, as a
-- list. The laws stand in specs/Spots/Laws.antt.
--
-- Spot                 == a state in normal mode; or in a copy: the state where storing will end, the storing half's state, the matching half's state
-- same_spot u v         == u and v agree (a Bool)
-- may_read, may_store, may_match == the marks let transition t be taken in normal mode, in buffering mode, in emptying mode
-- read_spots, begin_spots == the spots after a normal move, after a copy has begun
-- store_spots, match_spots, letter_spots, end_spots == in a copy, those after a move of one half, after a letter of both, and after its end
-- next_spots m list u   == the spots that follow u
-- spots m list         == every spot that is reached
-- no_copy_word m list    == what is reached is closed, and no final state is there in normal mode
use Rattle.std.specs.Prelude.{ℕ, ◌*◌, Bool, false, not, ◌&&◌, eqb}
use mathlib.Core.List.{List, [], ◌∷◌, ◌++◌, flat_map}
use Rattle.std.proofs.Math.Bool.{cond}
use Rattle.basics.specs.Search.{all_in}
use Rattle.graphs.specs.Reach.{reach, is_closed}
use Rattle.fsbm.specs.Machine.{initial, final, buffering, matching, both_matching, transition_at}
use Rattle.fsbm.specs.declared.machine.Machine.{Machine}
use Rattle.fsbm.specs.declared.machine.Transition.{Transition}
use Rattle.language.specs.Chosen.{numbers, chosen}

pub data Spot : Type 0 where
  normally : ℕ → Spot
  copying : ℕ → ℕ → ℕ → Spot

unfoldable pub same_spot : Spot → Spot → Bool
same_spot (normally p) (normally q) = eqb p q
same_spot (normally p) (copying h s t) = false
same_spot (copying h s t) (normally q) = false
same_spot (copying h s t) (copying h' s' t') = eqb h h' && (eqb s s' && eqb t t')

unfoldable pub may_read : List ℕ → ℕ → Transition → Bool
may_read marks q t = eqb t.from q && (not (both_matching marks t) && not (buffering marks t.from))

unfoldable pub may_store : List ℕ → ℕ → ℕ → Transition → Bool
may_store marks s x t = eqb t.from s && (eqb t.letter x && (not (both_matching marks t) && not (buffering marks t.to)))

unfoldable pub may_match : List ℕ → ℕ → ℕ → Transition → Bool
may_match marks s x t = eqb t.from s && (eqb t.letter x && both_matching marks t)

module _ (m : Machine) (list : List ℕ) where
  -- by a normal move; by beginning a copy, with every guess of where storing will end
  unfoldable pub read_spots : ℕ → List Spot
  unfolding may_read chosen numbers
  read_spots q = chosen (λ k. may_read m.marks q (transition_at list k)) (λ k. normally (transition_at list k).to) (numbers m.transitions)

  unfoldable pub begin_spots : ℕ → List Spot
  unfolding chosen numbers
  begin_spots q = cond (buffering m.marks q) (chosen (matching m.marks) (λ h. copying h q h) (numbers m.states)) []

  -- in a copy: the storing half moves by epsilon, the matching half moves by x while the storing half is in s, both move by a letter, the copy ends
  unfoldable pub store_spots : ℕ → ℕ → ℕ → List Spot
  unfolding may_store chosen numbers
  store_spots h s t = chosen (λ k. may_store m.marks s 0 (transition_at list k)) (λ k. copying h (transition_at list k).to t) (numbers m.transitions)

  unfoldable pub match_spots : ℕ → ℕ → ℕ → ℕ → List Spot
  unfolding may_match chosen numbers
  match_spots h t x s = chosen (λ k. may_match m.marks t x (transition_at list k)) (λ k. copying h s (transition_at list k).to) (numbers m.transitions)

  unfoldable pub both_spots : ℕ → ℕ → ℕ → ℕ → List Spot
  unfolding may_store match_spots
  both_spots h s t k =
      let x = (transition_at list k).letter in
      let moved = match_spots h t x (transition_at list k).to in
      cond (not (eqb x 0) && may_store m.marks s x (transition_at list k)) moved []

  unfoldable pub letter_spots : ℕ → ℕ → ℕ → List Spot
  unfolding both_spots numbers flat_map
  letter_spots h s t = flat_map (both_spots h s t) (numbers m.transitions)

  unfoldable pub end_spots : ℕ → ℕ → ℕ → List Spot
  end_spots h s t = cond (eqb s h) (normally t ∷ []) []

  unfoldable pub next_spots : Spot → List Spot
  unfolding read_spots begin_spots store_spots match_spots letter_spots end_spots
  next_spots (normally q) = read_spots q ++ begin_spots q
  next_spots (copying h s t) = store_spots h s t ++ (match_spots h t 0 s ++ (letter_spots h s t ++ end_spots h s t))

  unfoldable pub spots : List Spot
  unfolding reach next_spots same_spot chosen numbers
  spots = reach next_spots same_spot (m.states * m.states * m.states) (chosen (initial m.marks) normally (numbers m.states))

-- a final state in normal mode
unfoldable pub ends_at : List ℕ → Spot → Bool
ends_at marks (normally q) = final marks q
ends_at marks (copying h s t) = false

unfoldable pub no_copy_word : Machine → List ℕ → Bool
unfolding spots is_closed all_in next_spots same_spot ends_at
no_copy_word m list =
    let all = spots m list in
    is_closed (next_spots m list) same_spot all && all_in (λ u. not (ends_at m.marks u)) all
