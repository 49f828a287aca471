-- The laws of specs/Spots.antt.
--
-- same_spot_law         == same_spot is true exactly of equal spots
-- piece_spots          == a piece leads from spot to spot
-- no_copy_published    == a machine that passes the test has an empty language
-- no_copy_word_lem         == and no word is accepted
use Rattle.std.specs.Prelude.{ℕ, zero, suc, ◌+◌, ◌*◌, ◌≡◌, ◌↔◌, Bool, false, cond, ◌&&◌, eqb}
use Rattle.std.proofs.Math.Path.{refl, ap, subst}
use Rattle.std.proofs.Common.{sym, ◌∙◌, arith, eqb-true, eq-eqb, ne_eqb}
use Rattle.std.proofs.Math.Bool.{true, not}
use Rattle.std.proofs.lemmas.Bool.{false≢true}
use mathlib.Core.List.Memᴰ
use mathlib.Core.List.{List, [], ◌++◌, flat_map, Memᴰ}
use Rattle.basics.specs.Bools.{false_iff, not_says, says_not, says_not_and}
use Rattle.basics.specs.Search.{all_in}
use Rattle.basics.specs.Search.Laws.{and_true, and_both_true, all_in_true}
use Rattle.graphs.specs.Paths.{Path, here, step}
use Rattle.graphs.specs.Paths.Laws.{append}
use Rattle.graphs.specs.Reach.{Edges, is_closed}
use Rattle.graphs.specs.Reach.Laws.{reach_complete, is_closed_all}
use Rattle.graphs.specs.Cost.{Route, stop, via}
use Rattle.fsbm.specs.Machine.{initial, final, buffering, matching, both_matching, transition_at, well_formed}
use Rattle.fsbm.specs.Accepted.{accepted}
use Rattle.fsbm.specs.Published.{fsbm_of, InLanguage}
use Rattle.fsbm.specs.Rules.{Rules, rules, matching_below}
use Rattle.fsbm.specs.declared.machine.Machine.{Machine}
use Rattle.language.specs.Agreement.{run_path}
use Rattle.language.specs.Bound.{accepted_iff_published}
use Rattle.language.specs.Chosen.{numbers, numbers_of, chosen, chosen_of}
use Rattle.pieces.specs.Pieces.Laws.{path_leads}
use Rattle.pieces.specs.Pairs.{Pair, PairMove, stores_none, matches_none, letter, moves, Piece, moved, copied}
use Rattle.pieces.proofs.PairsLaws.{leads_route}
use Rattle.pieces.specs.Spots.{Spot, normally, copying, same_spot, may_read, may_store, may_match, read_spots, begin_spots, store_spots, match_spots, both_spots, letter_spots, end_spots, next_spots, spots, ends_at, no_copy_word}

spot_to : (u v : Spot) → same_spot u v ≡ true → u ≡ v
unfolding same_spot
spot_to (normally p) (normally q) e = ap normally (eqb-true p q e)
spot_to (normally p) (copying h s t) e = absurd (false≢true e)
spot_to (copying h s t) (normally q) e = absurd (false≢true e)
spot_to (copying h s t) (copying h' s' t') e =
    let (a, rest) = and_true (eqb h h') (eqb s s' && eqb t t') e in
    let (b, c) = and_true (eqb s s') (eqb t t') rest in
    λ i. copying (eqb-true h h' a i) (eqb-true s s' b i) (eqb-true t t' c i)

spot_same : (u : Spot) → same_spot u u ≡ true
unfolding same_spot
spot_same (normally p) = eq-eqb p p refl
spot_same (copying h s t) = and_both_true (eqb h h) (eqb s s && eqb t t) (eq-eqb h h refl) (and_both_true (eqb s s) (eqb t t) (eq-eqb s s refl) (eq-eqb t t refl))

pub same_spot_law : (u v : Spot) → (same_spot u v ≡ true) ↔ (u ≡ v)
same_spot_law u v = (spot_to u v, λ e. subst (λ (x : Spot). same_spot u x ≡ true) e (spot_same u))

flat_of : {A B : Type 0} (f : A → List B) {x : B} {k : A} {l : List A} → Memᴰ k l → Memᴰ x (f k) → Memᴰ x (flat_map f l)
unfolding flat_map
flat_of f {x} (Memᴰ.head {x = y} {xs = l} e) h = Memᴰ.append_left (flat_map f l) (subst (λ z. Memᴰ x (f z)) e h)
flat_of f (Memᴰ.tail {x = y} {xs = l} m) h = Memᴰ.append_right (f y) (flat_of f m h)

-- An element of the part that a test chooses

if_chosen : {A : Type 0} {x : A} {b : Bool} {l : List A} → b ≡ true → Memᴰ x l → Memᴰ x (cond b l [])
if_chosen {x = x} {l = l} e m = subst (λ (b : Bool). Memᴰ x (cond b l [])) (sym e) m

module _ (m : Machine) (list : List ℕ) where
  -- a test of a mark at the state that a transition names, and at its end
  named : {y z : ℕ} → y ≡ z → (test : List ℕ → ℕ → Bool) → test m.marks y ≡ true → test m.marks z ≡ true
  named e test h = subst (λ (n : ℕ). test m.marks n ≡ true) e h

  module _ {p x q : ℕ} (d : (fsbm_of m list).δ p x q) where
    not_both : ((fsbm_of m list).H p × (fsbm_of m list).H q → ⊥) → not (both_matching m.marks (transition_at list d.number)) ≡ true
    not_both none =
        let t = transition_at list d.number in
        says_not_and (matching m.marks t.from) (matching m.marks t.to) (λ z. none (named d.from matching z.0, named d.to matching z.1))

    may_read_lem : ((fsbm_of m list).H p × (fsbm_of m list).H q → ⊥) → ((fsbm_of m list).G p → ⊥) → may_read m.marks p (transition_at list d.number) ≡ true
    unfolding may_read
    may_read_lem none n =
        let t = transition_at list d.number in
        and_both_true (eqb t.from p) (not (both_matching m.marks t) && not (buffering m.marks t.from)) (eq-eqb t.from p d.from)
        (and_both_true (not (both_matching m.marks t)) (not (buffering m.marks t.from)) (not_both none) (says_not (buffering m.marks t.from) (λ z. n (named d.from buffering z))))

    may_store_lem : ((fsbm_of m list).H p × (fsbm_of m list).H q → ⊥) → ((fsbm_of m list).G q → ⊥) → may_store m.marks p x (transition_at list d.number) ≡ true
    unfolding may_store
    may_store_lem none n =
        let t = transition_at list d.number in
        and_both_true (eqb t.from p) (eqb t.letter x && (not (both_matching m.marks t) && not (buffering m.marks t.to))) (eq-eqb t.from p d.from)
        (and_both_true (eqb t.letter x) (not (both_matching m.marks t) && not (buffering m.marks t.to)) (eq-eqb t.letter x d.letter)
        (and_both_true (not (both_matching m.marks t)) (not (buffering m.marks t.to)) (not_both none) (says_not (buffering m.marks t.to) (λ z. n (named d.to buffering z)))))

    may_match_lem : (y : ℕ) → x ≡ y → (fsbm_of m list).H p → (fsbm_of m list).H q → may_match m.marks p y (transition_at list d.number) ≡ true
    unfolding may_match
    may_match_lem y same from to =
        let t = transition_at list d.number in
        and_both_true (eqb t.from p) (eqb t.letter y && both_matching m.marks t) (eq-eqb t.from p d.from)
        (and_both_true (eqb t.letter y) (both_matching m.marks t) (eq-eqb t.letter y (d.letter ∙ same))
        (and_both_true (matching m.marks t.from) (matching m.marks t.to) (named (sym d.from) matching from) (named (sym d.to) matching to)))

  -- Edges between spots

  abbrev Next : Spot → Spot → Type 0
  Next = Edges (next_spots m list)

  stores_next : (h t : ℕ) {s s' : ℕ} → (fsbm_of m list).δ s 0 s' → ((fsbm_of m list).H s × (fsbm_of m list).H s' → ⊥) → ((fsbm_of m list).G s' → ⊥) → Memᴰ (copying h s' t) (store_spots m list h s t)
  unfolding store_spots
  stores_next h t {s} d none n =
      subst (λ (y : ℕ). Memᴰ (copying h y t) (store_spots m list h s t)) d.to
      (chosen_of (λ k. may_store m.marks s 0 (transition_at list k)) (λ k. copying h (transition_at list k).to t) (numbers_of m.transitions d.number d.listed) (may_store_lem d none n))

  matches_next : (h s y : ℕ) {x t t' : ℕ} → (fsbm_of m list).δ t x t' → x ≡ y → (fsbm_of m list).H t → (fsbm_of m list).H t' → Memᴰ (copying h s t') (match_spots m list h t y s)
  unfolding match_spots
  matches_next h s y {t = t} d same from to =
      subst (λ (z : ℕ). Memᴰ (copying h s z) (match_spots m list h t y s)) d.to
      (chosen_of (λ k. may_match m.marks t y (transition_at list k)) (λ k. copying h s (transition_at list k).to) (numbers_of m.transitions d.number d.listed) (may_match_lem d y same from to))

  letters_next : (h : ℕ) {s s' t t' a : ℕ} → (fsbm_of m list).δ s (suc a) s' → ((fsbm_of m list).H s × (fsbm_of m list).H s' → ⊥) → ((fsbm_of m list).G s' → ⊥)
      → (fsbm_of m list).δ t (suc a) t' → (fsbm_of m list).H t → (fsbm_of m list).H t' → Memᴰ (copying h s' t') (letter_spots m list h s t)
  unfolding letter_spots both_spots
  letters_next h {s} {s'} {t} {t'} {a} d none n d' from to =
      let tr = transition_at list d.number in
      let some : not (eqb tr.letter 0) ≡ true = ap not (ne_eqb tr.letter 0 (λ (z : tr.letter ≡ 0). let l = d.letter in omega arith)) in
      let may = subst (λ (x : ℕ). may_store m.marks s x tr ≡ true) (sym d.letter) (may_store_lem d none n) in
      flat_of (both_spots m list h s t) (numbers_of m.transitions d.number d.listed)
      (if_chosen (and_both_true (not (eqb tr.letter 0)) (may_store m.marks s tr.letter tr) some may)
      (subst (λ (y : ℕ). Memᴰ (copying h y t') (match_spots m list h t tr.letter tr.to)) d.to (matches_next h tr.to tr.letter d' (sym d.letter) from to)))

  move_spots : (h : ℕ) (u v : Pair) (w : ℕ) → PairMove (fsbm_of m list) u v w → Next (copying h u.storing u.matching) (copying h v.storing v.matching)
  unfolding next_spots
  move_spots h u v w (stores_none {s = s} {t = t} d none n) =
      Memᴰ.append_left (match_spots m list h t 0 s ++ (letter_spots m list h s t ++ end_spots m list h s t)) (stores_next h t d none n)
  move_spots h u v w (matches_none {s = s} {t = t} d from to) =
      Memᴰ.append_right (store_spots m list h s t) (Memᴰ.append_left (letter_spots m list h s t ++ end_spots m list h s t) (matches_next h s 0 d refl from to))
  move_spots h u v w (letter {s = s} {t = t} d none n d' from to) =
      Memᴰ.append_right (store_spots m list h s t)
      (Memᴰ.append_right (match_spots m list h t 0 s) (Memᴰ.append_left (end_spots m list h s t) (letters_next h d none n d' from to)))

  route_spots : (h : ℕ) {u v : Pair} {n : ℕ} → Route Pair (PairMove (fsbm_of m list)) u v n → (k : ℕ) × Path Spot Next (copying h u.storing u.matching) (copying h v.storing v.matching) k
  route_spots h stop = (zero, here)
  route_spots h (via {u = u} {v = v} {w = w} e r) = let (k, p) = route_spots h r in (suc k, step (move_spots h u v w e) p)

  begin_spots_lem : Rules m list → (g h : ℕ) → (fsbm_of m list).G g → (fsbm_of m list).H h → Next (normally g) (copying h g h)
  unfolding next_spots begin_spots
  begin_spots_lem r g h buffers turns =
      Memᴰ.append_right (read_spots m list g)
      (if_chosen buffers (chosen_of (matching m.marks) (λ h. copying h g h) (numbers_of m.states h (matching_below m list r h turns)) turns))

  end_spots_lem : (h z : ℕ) → Next (copying h h z) (normally z)
  unfolding next_spots end_spots
  end_spots_lem h z =
      Memᴰ.append_right (store_spots m list h h z)
      (Memᴰ.append_right (match_spots m list h z 0 h) (Memᴰ.append_right (letter_spots m list h h z) (if_chosen (eq-eqb h h refl) (Memᴰ.head refl))))

  read_spots_lem : {p x q : ℕ} → (fsbm_of m list).δ p x q → ((fsbm_of m list).H p × (fsbm_of m list).H q → ⊥) → ((fsbm_of m list).G p → ⊥) → Next (normally p) (normally q)
  unfolding next_spots read_spots
  read_spots_lem {p} d none n =
      Memᴰ.append_left (begin_spots m list p)
      (subst (λ (y : ℕ). Memᴰ (normally y) (read_spots m list p)) d.to
      (chosen_of (λ k. may_read m.marks p (transition_at list k)) (λ k. normally (transition_at list k).to) (numbers_of m.transitions d.number d.listed) (may_read_lem d none n)))

  pub piece_spots : Rules m list → (p q w : ℕ) → Piece (fsbm_of m list) p q w → (k : ℕ) × Path Spot Next (normally p) (normally q) k
  piece_spots r p q w (moved (moves d none n)) = (1, step (read_spots_lem d none n) here)
  piece_spots r p q w (copied {h = h} buffers turns ends route) =
      let (k, on) = route_spots h route in
      (suc (k + 1), step (begin_spots_lem r p h buffers turns) (append on (step (end_spots_lem h q) here)))

  pieces_spots : Rules m list → {p q n : ℕ} → Route ℕ (Piece (fsbm_of m list)) p q n → (k : ℕ) × Path Spot Next (normally p) (normally q) k
  pieces_spots r stop = (zero, here)
  pieces_spots r (via {u = p} {v = q} {w = w} e route) = let (i, a) = piece_spots r p q w e in let (k, b) = pieces_spots r route in (i + k, append a b)

  -- The test

  module _ (good : well_formed m list ≡ true) where
    pub no_copy_published : no_copy_word m list ≡ true → (w : List ℕ) → InLanguage (fsbm_of m list) w → ⊥
    unfolding no_copy_word spots ends_at
    no_copy_published h w l =
        let (shut, none) = and_true (is_closed (next_spots m list) same_spot (spots m list)) (all_in (λ u. not (ends_at m.marks u)) (spots m list)) h in
        let (n, p) = pieces_spots (rules m list good) (leads_route (path_leads (run_path m list l.run))) in
        let begin = reach_complete (next_spots m list) same_spot same_spot_law (m.states * m.states * m.states) (chosen (initial m.marks) normally (numbers m.states)) (omega arith)
        (chosen_of (initial m.marks) normally (numbers_of m.states l.first l.first_initial.0) l.first_initial.1) here in
        let end = is_closed_all (next_spots m list) same_spot same_spot_law (spots m list) shut begin p in
        not_says (final m.marks l.last) ((all_in_true (λ u. not (ends_at m.marks u)) (spots m list)).0 none (normally l.last) end) l.last_final

    pub no_copy_word_lem : no_copy_word m list ≡ true → (w : List ℕ) → accepted m list w ≡ false
    no_copy_word_lem h w = (false_iff (accepted m list w) (accepted_iff_published m list w good)).1 (no_copy_published h w)
