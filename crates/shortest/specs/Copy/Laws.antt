-- The laws of specs/Copy.antt: the loop that walks the two halves of a copy back.
--
-- After ..                == the pair before (s, t) on the way, with what is written from there on
-- walk_start, walk_states, matched_ready, kept_below, stored_ready, walk_turn, walk_end == the loop of walk_back
use Rattle.std.specs.Prelude.{ℕ, suc, ◌+◌, ◌*◌, ◌-◌, ◌≤◌, ◌<◌, ◌≡◌, ◌⊎◌, true, false, ◌&&◌, length, get_or, set, drop, Option}
use Rattle.std.proofs.Math.Path.{refl, ap}
use Rattle.std.proofs.Common.{Some, None, sym, ◌∙◌, subst, inl, inr, arith, length-set, length-append}
use mathlib.Core.List.Memᴰ
use mathlib.Core.List.{List, [], ◌∷◌, ◌++◌, append_assoc, Memᴰ}
use Rattle.std.proofs.Math.Decide.{dec_lt}
use Rattle.std.proofs.Math.Dec.{eqb}
use borrow.Author.Tests.{eq-eqb, eqb-true}
use Rattle.basics.specs.Search.{none, more}
use Rattle.basics.specs.Search.Laws.{and_true, and_both_true, not_both}
use Rattle.basics.specs.Counting.{Distinct, empty, new, counting}
use Rattle.fsbm.specs.Machine.{transition_at, buffering, matching, well_formed}
use Rattle.fsbm.specs.Published.{fsbm_of, symbol}
use Rattle.fsbm.specs.Rules.{Rules, rules}
use Rattle.fsbm.specs.declared.machine.Machine.{Machine}
use Rattle.stateset.specs.Set.{In}
use Rattle.pieces.specs.Pairs.{Pair, both, PairMove}
use Rattle.pieces.proofs.PairsLaws.{pair_weight}
use Rattle.pieces.specs.Blocks.{nothing, cost_of, cell, block_of}
use Rattle.pieces.proofs.BlocksLaws.{cell_inside, cell_past, block_back}
use Rattle.pieces.specs.Written.{Takes, StoresBy, stored, store, MatchesBy, matched, match}
use Rattle.pieces.specs.Written.Laws.{stores_counted, matches_counted}
use Rattle.shortest.specs.Find.{pair_unit, StoreFits, MatchFits, Storing, Backs, by_storing, by_matching, by_both, by_none}
use Rattle.shortest.specs.Find.Tests.{store_says, match_says, NoBack, back_there}
use Rattle.shortest.specs.Put.{PutReady, Put, later_list}
use Rattle.shortest.specs.Put.Laws.{some_symbol, later_more}
use Rattle.shortest.specs.Copy.{begun_test, place, MatchedReady, Same, Written, Matched, StoredReady, Unkept, Kept, KeptOrNot, Walking, Going, Gone}
use Rattle.shortest.specs.declared.copy.Walk.{Walk}

module _ (m : Machine) (list d b : List ℕ) (h z : ℕ) (word₀ : List ℕ) (i₀ : ℕ) (run₀ : List ℕ) (r₀ : ℕ) (good : well_formed m list ≡ true) (g : Going m list d b h z word₀ i₀ run₀ r₀) where
  obeys : Rules m list
  obeys = rules m list good

  abbrev from : ℕ → ℕ
  from k = (transition_at list k).from

  abbrev by : ℕ → ℕ
  by k = (transition_at list k).letter

  pub walk_start : (later : List ℕ) → length later ≡ 4096 → Walking m list b h z word₀ i₀ run₀ r₀ word₀ run₀ later (place h z i₀ r₀ 0)
  unfolding later_list
  walk_start later size =
      record {
        read = [];
        storing = [];
        matching = [];
        stores = stored;
        matches = matched;
        weight = omega arith;
        word_size = refl;
        word_is = refl;
        word_place = omega arith;
        run_size = refl;
        run_is = refl;
        run_place = omega arith;
        later_size = size;
        later_is = refl;
        passed = [];
        distinct = empty;
        below = none;
        larger = λ k e. absurd (Memᴰ.not-nil e);
        count = omega arith;
      }

  module _ (word run later : List ℕ) (w : Walk) (W : Walking m list b h z word₀ i₀ run₀ r₀ word run later w) where
    abbrev s : ℕ
    s = w.storing

    abbrev t : ℕ
    t = w.matching

    here_low : cell b s t < nothing
    here_low = let e = W.weight in let l = g.low in omega arith

    pub walk_states : (s < 64) × (t < 64)
    walk_states = at (dec_lt s 64) (dec_lt t 64)
      where
        at : Dec (s < 64) → Dec (t < 64) → (s < 64) × (t < 64)
        at (yes x) (yes y) = (x, y)
        at (no x) y = let e = cell_past b s t (inl (omega arith)) in let l = here_low in absurd (omega arith)
        at (yes x) (no y) = let e = cell_past b s t (inr (omega arith)) in let l = here_low in absurd (omega arith)

    abbrev key : ℕ
    key = s * 64 + t

    key_number : cell b s t ≡ get_or b key 0
    key_number = cell_inside b s t walk_states.0 walk_states.1

    key_below : key < 4096
    key_below = let (x, y) = walk_states in omega arith

    passed_distinct : Distinct (key ∷ W.passed)
    passed_distinct = new (λ e. let l = W.larger key e in let n = key_number in omega arith) W.distinct

    pub kept_below : w.kept < 4096
    kept_below = let l = counting 4096 (key ∷ W.passed) passed_distinct (more key_below W.below) in let c = W.count in omega arith

    -- The pair before (s, t)

    pub record After (s' t' : ℕ) (read' storing' matching' : List ℕ) : Type 0 where
      pub stores : StoresBy m list s' read' storing' h
      pub matches : MatchesBy m list t' read' matching' z
      pub weight : cell b s' t' + pair_weight read' (length storing') (length matching') ≡ cell b h z
      pub falls : cell b s' t' < cell b s t

    room_after : (s' t' : ℕ) (read' storing' matching' : List ℕ) → After s' t' read' storing' matching' → (length read' + length read' ≤ i₀) × (length storing' + length matching' + 2 ≤ r₀)
    room_after s' t' read' storing' matching' a =
        g.room s' t' read' (length storing') (length matching') (stores_counted a.stores) (matches_counted a.matches) a.weight

    module _ (k : ℕ) (below : k < m.transitions) (fits : StoreFits m list b s t (cell b s t) k) where
      after_storing : After (from k) t W.read (k ∷ W.storing) W.matching
      after_storing =
          let (apart, free, zero_letter, tight) = store_says m list b t (cell b s t) k fits.1 in
          let takes : Takes m list k (from k) 0 s = record { listed = below; from = refl; letter = zero_letter; to = fits.0 } in
          record {
            stores = store takes (λ h. apart (h.0, subst (λ (q : ℕ). matching m.marks q ≡ true) (sym fits.0) h.1)) (λ h. free (subst (λ (q : ℕ). buffering m.marks q ≡ true) (sym fits.0) h)) W.stores;
            matches = W.matches;
            weight = let e = W.weight in omega arith;
            falls = omega arith;
          }

    matches_on : (k row x w want : ℕ) → k < m.transitions → MatchFits m list b row t x w want k → MatchesBy m list (from k) (symbol x ++ W.read) (k ∷ W.matching) z × (cell b row (from k) + w ≡ want)
    matches_on k row x w want below fits =
        let (p, q, letter, tight) = match_says m list b row x w want k fits.1 in
        let takes : Takes m list k (from k) x t = record { listed = below; from = refl; letter = letter; to = fits.0 } in
        (match takes p (subst (λ (o : ℕ). matching m.marks o ≡ true) fits.0 q) W.matches, tight)

    module _ (j : ℕ) (below : j < m.transitions) (fits : MatchFits m list b s t 0 1 (cell b s t) j) where
      after_matching : After s (from j) (symbol (by j) ++ W.read) W.storing (j ∷ W.matching)
      after_matching =
          let (on, tight) = matches_on j s 0 1 (cell b s t) below fits in
          let zero_letter : 0 ≡ by j = sym (match_says m list b s 0 1 (cell b s t) j fits.1).2 in
          let same : W.read ≡ symbol (by j) ++ W.read = ap (λ (a : ℕ). symbol a ++ W.read) zero_letter in
          record {
            stores = subst (λ (y : List ℕ). StoresBy m list s y W.storing h) same W.stores;
            matches = subst (λ (y : List ℕ). MatchesBy m list (from j) y (j ∷ W.matching) z) same on;
            weight = let e = W.weight in let l = ap length same in omega arith;
            falls = omega arith;
          }

    module _ (k j : ℕ) (below-k : k < m.transitions) (below-j : j < m.transitions) (enters : (transition_at list k).to ≡ s) (storing : Storing m list k)
        (fits : MatchFits m list b (from k) t (by k) pair_unit (cell b s t) j) where
      after_both : After (from k) (from j) (symbol (by j) ++ W.read) (k ∷ W.storing) (j ∷ W.matching)
      after_both =
          let (on, tight) = matches_on j (from k) (by k) pair_unit (cell b s t) below-j fits in
          let letter : by k ≡ by j = sym (match_says m list b (from k) (by k) pair_unit (cell b s t) j fits.1).2 in
          let same : symbol (by k) ++ W.read ≡ symbol (by j) ++ W.read = ap (λ (a : ℕ). symbol a ++ W.read) letter in
          let takes : Takes m list k (from k) (by k) s = record { listed = below-k; from = refl; letter = refl; to = enters } in
          let stores : StoresBy m list (from k) (symbol (by k) ++ W.read) (k ∷ W.storing) h =
          store takes
          (λ h. not_both (and_both_true (matching m.marks (from k)) (matching m.marks (transition_at list k).to) h.0 (subst (λ (q : ℕ). matching m.marks q ≡ true) (sym enters) h.1)) storing.apart)
          (λ h. not_both (subst (λ (q : ℕ). buffering m.marks q ≡ true) (sym enters) h) storing.free)
          W.stores in
          let one : length (symbol (by j) ++ W.read) ≡ suc (length W.read) =
          let l = length-append (symbol (by j)) W.read in let o = ap length (some_symbol (by j) (λ e. storing.letter (letter ∙ e))) in omega arith in
          record {
            stores = subst (λ (y : List ℕ). StoresBy m list (from k) y (k ∷ W.storing) h) same stores;
            matches = subst (λ (y : List ℕ). MatchesBy m list (from j) y (j ∷ W.matching) z) same on;
            weight = let e = W.weight in omega arith;
            falls = omega arith;
          }

    -- One step of the walk

    on_step : (s' t' i' r' c' : ℕ) (read' storing' matching' : List ℕ) → After s' t' read' storing' matching' → (word' run' later' : List ℕ)
        → length word' ≡ length word₀ → drop i' word' ≡ read' ++ drop i₀ word₀ → i' + length read' ≡ i₀
        → length run' ≡ length run₀ → drop r' run' ≡ matching' ++ drop r₀ run₀ → r' + length matching' ≡ r₀
        → length later' ≡ 4096 → later_list later' c' ≡ storing' → c' ≤ suc w.kept → Walking m list b h z word₀ i₀ run₀ r₀ word' run' later' (place s' t' i' r' c')
    on_step s' t' i' r' c' read' storing' matching' a word' run' later' ws wi wp rs ri rp ls li count =
        record {
          read = read';
          storing = storing';
          matching = matching';
          stores = a.stores;
          matches = a.matches;
          weight = a.weight;
          word_size = ws;
          word_is = wi;
          word_place = wp;
          run_size = rs;
          run_is = ri;
          run_place = rp;
          later_size = ls;
          later_is = li;
          passed = key ∷ W.passed;
          distinct = passed_distinct;
          below = more key_below W.below;
          larger = λ k e. at k (Memᴰ.cases_cons e);
          count = let c = W.count in omega arith;
        }
      where
        at : (k : ℕ) → (k ≡ key) ⊎ Memᴰ k W.passed → cell b s' t' < get_or b k 0
        at k (inl e) = let f = a.falls in let n = key_number in let x = ap (λ (q : ℕ). get_or b q 0) e in omega arith
        at k (inr e) = let f = a.falls in let l = W.larger k e in omega arith

    word_on : (j i' : ℕ) (word' run' : List ℕ) → Put list j word w.letter run w.entry word' i' run' → drop i' word' ≡ (symbol (by j) ++ W.read) ++ drop i₀ word₀
    word_on j i' word' run' p =
        p.word_is ∙ (ap (λ (y : List ℕ). symbol (by j) ++ y) W.word_is ∙ sym (append_assoc (symbol (by j)) W.read (drop i₀ word₀)))

    module _ (not-begun : begun_test m.marks d b h s t ≡ false) where
      no_end : NoBack m list b s t → ⊥
      unfolding block_of begun_test
      no_end nb = at (block_back g.settles (both s t) here_low)
        where
          at : ((q : ℕ) × In g.set q × (buffering m.marks q ≡ true) × (both s t ≡ both q h) × (cell b s t ≡ cost_of d q + 1)) ⊎ ((u : Pair) × (v : ℕ) × PairMove (fsbm_of m list) u (both s t) v × (cell b s t ≡ v + cell b u.storing u.matching)) → ⊥
          at (inl (q, member, buffers, is, tight)) =
              let es : s ≡ q = ap (λ (o : Pair). o.storing) is in
              let et : t ≡ h = ap (λ (o : Pair). o.matching) is in
              not_both
              (and_both_true (eqb t h) (buffering m.marks s && eqb (cost_of d s + 1) (cell b s t)) (eq-eqb t h et)
              (and_both_true (buffering m.marks s) (eqb (cost_of d s + 1) (cell b s t)) (subst (λ (o : ℕ). buffering m.marks o ≡ true) (sym es) buffers)
              (eq-eqb (cost_of d s + 1) (cell b s t) (let e = ap (cost_of d) es in omega arith))))
              not-begun
          at (inr (u, v, move, tight)) = back_there m list b s t nb move refl tight

      few : (q : ℕ) → q < m.transitions → q < 65536
      few q l = let e = obeys.transitions_fit in omega arith

      -- what the matching half writes has room
      put_ready : (j : ℕ) (s' : ℕ) (storing' : List ℕ) → j < m.transitions → After s' (from j) (symbol (by j) ++ W.read) storing' (j ∷ W.matching) → PutReady list j word w.letter run w.entry
      put_ready j s' storing' below a =
          let (x, y) = room_after s' (from j) (symbol (by j) ++ W.read) storing' (j ∷ W.matching) a in
          let size = length-append (symbol (by j)) W.read in
          let wp = W.word_place in
          let rp = W.run_place in
          record {
            small = few j below;
            letter_small = let l = obeys.letter_below j below in let f = obeys.letters_fit in omega arith;
            run_room = omega arith;
            run_fits = let f = g.run_fits in let e = W.run_size in omega arith;
            word_room = λ some. let o = ap length (some_symbol (by j) some) in omega arith;
            word_fits = let f = g.word_fits in let e = W.word_size in omega arith;
          }

      pub matched_ready : (k j : Option ℕ) → Backs m list b s t k j → MatchedReady list j word run w
      matched_ready (Some k) None (by_storing x f) = tt
      matched_ready None (Some j) (by_matching y f) = put_ready j s W.storing y (after_matching j y f)
      matched_ready (Some k) (Some j) (by_both x y e o f) = put_ready j (from k) (k ∷ W.storing) y (after_both k j x y e o f)
      matched_ready k j (by_none x y o) = absurd (no_end (record { storing = x; matching = y; by_letter = o }))

      module _ (word' run' : List ℕ) (w₁ : Walk) where
        kept_same : (j : Option ℕ) → Matched list j word run w word' run' w₁ → w₁.kept ≡ w.kept
        kept_same None e = ap (λ (v : Walk). v.kept) e.walk_same
        kept_same (Some j) e = ap (λ (v : Walk). v.kept) e.is

        pub stored_ready : (k j : Option ℕ) → Backs m list b s t k j → Matched list j word run w word' run' w₁ → StoredReady k w₁
        stored_ready (Some k) None (by_storing x f) M = (few k x, let e = kept_same None M in let c = kept_below in omega arith)
        stored_ready None (Some j) (by_matching y f) M = tt
        stored_ready (Some k) (Some j) (by_both x y e o f) M = (few k x, let e = kept_same (Some j) M in let c = kept_below in omega arith)
        stored_ready k j (by_none x y o) M = absurd (no_end (record { storing = x; matching = y; by_letter = o }))

        module _ (later' : List ℕ) (w₂ : Walk) where
          abbrev Goes : Walk → Type 0
          Goes v = Walking m list b h z word₀ i₀ run₀ r₀ word' run' later' v × (cell b v.storing v.matching < cell b s t)

          -- the three ways to go on

          on_storing : (k : ℕ) → k < m.transitions → Same word run w word' run' w₁ → Kept list k later w₁ later' w₂ → StoreFits m list b s t (cell b s t) k → Goes w₂
          on_storing k below e o fits =
              let a = after_storing k below fits in
              let is : w₂ ≡ place (from k) t w.letter w.entry (w.kept + 1) = o.is ∙ ap (λ (v : Walk). place (from k) v.matching v.letter v.entry (v.kept + 1)) e.walk_same in
              let kept : later' ≡ set later w.kept k = o.later_is ∙ ap (λ (v : Walk). set later v.kept k) e.walk_same in
              subst Goes (sym is) (
                on_step (from k) t w.letter w.entry (w.kept + 1) W.read (k ∷ W.storing) W.matching a word' run' later'
                    (ap length e.word_same ∙ W.word_size) (ap (drop w.letter) e.word_same ∙ W.word_is) W.word_place
                    (ap length e.run_same ∙ W.run_size) (ap (drop w.entry) e.run_same ∙ W.run_is) W.run_place
                    (ap length kept ∙ (length-set later w.kept k ∙ W.later_size))
                    (ap (λ (l : List ℕ). later_list l (w.kept + 1)) kept ∙ (later_more later w.kept k (let c = kept_below in let l = W.later_size in omega arith) ∙ ap (λ (l : List ℕ). k ∷ l) W.later_is))
                    (omega arith),
                a.falls,
              )

          on_matching : (j : ℕ) → j < m.transitions → Written list j word run w word' run' w₁ → Unkept later w₁ later' w₂ → MatchFits m list b s t 0 1 (cell b s t) j → Goes w₂
          on_matching j below e o fits =
              let a = after_matching j below fits in
              let is : w₂ ≡ place s (from j) w₁.letter (w.entry - 1) w.kept = o.walk_same ∙ e.is in
              let p = e.put in
              let ready = put_ready j s W.storing below a in
              let size = length-append (symbol (by j)) W.read in
              subst Goes (sym is) (
                on_step s (from j) w₁.letter (w.entry - 1) w.kept (symbol (by j) ++ W.read) W.storing (j ∷ W.matching) a word' run' later'
                    (p.word_size ∙ W.word_size) (word_on j w₁.letter word' run' p) (let x = p.place in let y = W.word_place in omega arith)
                    (p.run_size ∙ W.run_size) (p.run_is ∙ ap (λ (l : List ℕ). j ∷ l) W.run_is) (let x = ready.run_room in let y = W.run_place in omega arith)
                    (ap length o.later_same ∙ W.later_size) (ap (λ (l : List ℕ). later_list l w.kept) o.later_same ∙ W.later_is)
                    (omega arith),
                a.falls,
              )

          on_both : (k j : ℕ) → k < m.transitions → j < m.transitions → Written list j word run w word' run' w₁ → Kept list k later w₁ later' w₂ → (transition_at list k).to ≡ s → Storing m list k
              → MatchFits m list b (from k) t (by k) pair_unit (cell b s t) j → Goes w₂
          on_both k j below below_j e o enters storing fits =
              let a = after_both k j below below_j enters storing fits in
              let is : w₂ ≡ place (from k) (from j) w₁.letter (w.entry - 1) (w.kept + 1) = o.is ∙ ap (λ (v : Walk). place (from k) v.matching v.letter v.entry (v.kept + 1)) e.is in
              let kept : later' ≡ set later w.kept k = o.later_is ∙ ap (λ (v : Walk). set later v.kept k) e.is in
              let p = e.put in
              let ready = put_ready j (from k) (k ∷ W.storing) below_j a in
              let size = length-append (symbol (by j)) W.read in
              subst Goes (sym is) (
                on_step (from k) (from j) w₁.letter (w.entry - 1) (w.kept + 1) (symbol (by j) ++ W.read) (k ∷ W.storing) (j ∷ W.matching) a word' run' later'
                    (p.word_size ∙ W.word_size) (word_on j w₁.letter word' run' p) (let x = p.place in let y = W.word_place in omega arith)
                    (p.run_size ∙ W.run_size) (p.run_is ∙ ap (λ (l : List ℕ). j ∷ l) W.run_is) (let x = ready.run_room in let y = W.run_place in omega arith)
                    (ap length kept ∙ (length-set later w.kept k ∙ W.later_size))
                    (ap (λ (l : List ℕ). later_list l (w.kept + 1)) kept ∙ (later_more later w.kept k (let c = kept_below in let l = W.later_size in omega arith) ∙ ap (λ (l : List ℕ). k ∷ l) W.later_is))
                    (omega arith),
                a.falls,
              )

          pub walk_turn : (k j : Option ℕ) → Backs m list b s t k j → Matched list j word run w word' run' w₁ → KeptOrNot list k later w₁ later' w₂ → Goes w₂
          walk_turn (Some k) None (by_storing x f) e o = on_storing k x e o f
          walk_turn None (Some j) (by_matching y f) e o = on_matching j y e o f
          walk_turn (Some k) (Some j) (by_both x y a s f) e o = on_both k j x y e o a s f
          walk_turn k j (by_none x y n) e o = absurd (no_end (record { storing = x; matching = y; by_letter = n }))

    pub walk_end : begun_test m.marks d b h s t ≡ true → Gone m list d b h z word₀ i₀ run₀ r₀ word run later w
    unfolding begun_test
    walk_end e =
        let (at-h, rest) = and_true (eqb t h) (buffering m.marks s && eqb (cost_of d s + 1) (cell b s t)) e in
        let (buffers, tight) = and_true (buffering m.marks s) (eqb (cost_of d s + 1) (cell b s t)) rest in
        record {
          walking = W;
          arrived = eqb-true t h at-h;
          buffers = buffers;
          begins = eqb-true (cost_of d s + 1) (cell b s t) tight ∙ ap (cell b s) (eqb-true t h at-h);
        }
