-- Every state that is reached at a position in a mode is reached there by a run of the published definition.
--
-- run_join          == a run and a run from its end
-- reads_letter_lem      == a letter of the word passes the test of a letter
-- storing_run, emptying_run == the run of a walk; the letters taken from the buffer are those that are read
-- turn_run          == the run that stores letters and begins to match
-- reach_run         == the run to a reached state
-- at_run            == the run to a state that is reached in a mode
use Prim.Native.Nat.{ℕ, suc, ◌+◌, ◌-◌, ◌≤◌, ◌<◌}
use mathlib.Core.Path.{◌≡◌, refl, sym, ap, ◌∙◌, subst, subst₂}
use mathlib.Core.Logic.{inl, inr}
use mathlib.Core.Bool.{true, false, ◌&&◌}
use mathlib.Core.List.{List, [], ◌++◌, append-nil}
use native.Mathlib.Omega.{arith}
use lib.ListN.{length, get_or, drop}
use lib.Seq.{slice, slice_empty}
use lib.Dec.{ltb, eqb}
use borrow.Author.Tests.{lt-ltb, eq-eqb, ne_eqb}
use Rattle.basics.specs.Search.Laws.{or_true_right, and_both_true}
use Rattle.stateset.specs.Set.{In}
use Rattle.fsbm.specs.Moves.{reads_letter, advanced}
use Rattle.fsbm.specs.Published.{FSBM, fsbm_of, Configuration, config, symbol, Yields, normal, buffer, empty, begins_buffering, begins_emptying, returns_to_normal, Run, done}
use Rattle.fsbm.specs.declared.machine.Machine.{Machine}
use Rattle.fsbm.specs.declared.config.Mode.{Mode}
use Rattle.fsbm.specs.declared.config.Mode.TheVariants.{Normal, Buffering, Emptying}
use Rattle.language.specs.Strings.{reads_drop, reads_slice, slice_grows}
use Rattle.images.specs.Graph.{here, more, graph, Edge, Free}
use Rattle.decide.specs.Reach.{Walk, still, reads, Square, Reach, begins, passes, moves, copies, At}
use Rattle.decide.proofs.CopyCases.{walk_forward, walk_matching}
use Rattle.decide.proofs.Tables.{Read, TableOf, edge_listed}

pub run_join : {M : FSBM} {A B C : Configuration} → Run M A B → Run M B C → Run M A C
run_join done r = r
run_join (Run.more y q) r = Run.more y (run_join q r)

pub run_one : {M : FSBM} {A B C : Configuration} → Run M A B → Yields M B C → Run M A C
run_one r y = run_join r (Run.more y done)

pub reads_letter_lem : (w : List ℕ) (p e x : ℕ) → p < e → get_or w p 0 ≡ x → reads_letter w p e x ≡ true
unfolding reads_letter
reads_letter_lem w p e x lt same =
    or_true_right (eqb x 0) (ltb p e && eqb (get_or w p 0) x) (and_both_true (ltb p e) (eqb (get_or w p 0) x) (lt-ltb p e lt) (eq-eqb (get_or w p 0) x same))

pub advanced_some : (p x : ℕ) → 0 < x → advanced p x ≡ suc p
advanced_some p x lt = let n : eqb x 0 ≡ false = ne_eqb x 0 (λ (e : x ≡ 0). absurd (omega arith)) in rw n (let e : p + 1 ≡ suc p = omega arith in e)

-- a letter at p that is not epsilon stands at the front of the rest of the word, and of a stretch
drop_letter : (w : List ℕ) (p x : ℕ) → p < length w → get_or w p 0 ≡ x → 0 < x → drop p w ≡ symbol x ++ drop (suc p) w
drop_letter w p x lt same some = reads_drop w p x (reads_letter_lem w p (length w) x lt same) ∙ ap (λ (n : ℕ). symbol x ++ drop n w) (advanced_some p x some)

slice_letter : (w : List ℕ) (p e x : ℕ) → p < e → e ≤ length w → get_or w p 0 ≡ x → 0 < x → slice p e w ≡ symbol x ++ slice (suc p) e w
slice_letter w p e x lt le same some = reads_slice w p e x le (reads_letter_lem w p e x lt same) ∙ ap (λ (n : ℕ). symbol x ++ slice n e w) (advanced_some p x some)

slice_more : (w : List ℕ) (i e x : ℕ) → i ≤ e → e < length w → get_or w e 0 ≡ x → 0 < x → slice i (suc e) w ≡ slice i e w ++ symbol x
slice_more w i e x le lt same some = sym (ap (λ (n : ℕ). slice i n w) (advanced_some e x some)) ∙ slice_grows w i e x le (reads_letter_lem w e (length w) x lt same)

module _ {m : Machine} {list targets : List ℕ} {g h : ℕ} (w : List ℕ) (t : TableOf m list w targets g h) where
  -- a buffering move, and an emptying move, that reads x
  store_one : {x p q : ℕ} → Read w x → Edge (graph targets m.states g h) Buffering x p q → (u v : List ℕ) → Yields (fsbm_of m list) (config (symbol x ++ u) p v Buffering) (config u q (v ++ symbol x) Buffering)
  store_one {x} {p} {q} i e u v =
      buffer (edge_listed t i e)
      (λ z. e.may.0 ((t.matches p).1 z.0, (t.matches q).1 z.1))
      (λ z. e.may.1 ((t.stores q).1 z))

  empty_one : {x p q : ℕ} → Read w x → Edge (graph targets m.states g h) Emptying x p q → (u v : List ℕ) → Yields (fsbm_of m list) (config (symbol x ++ u) p (symbol x ++ v) Emptying) (config u q v Emptying)
  empty_one {x} {p} {q} i e u v = empty (edge_listed t i e) ((t.matches p).0 e.may.0) ((t.matches q).0 e.may.1)

  normal_one : {x p q : ℕ} → Read w x → Edge (graph targets m.states g h) Normal x p q → (u : List ℕ) → Yields (fsbm_of m list) (config (symbol x ++ u) p [] Normal) (config u q [] Normal)
  normal_one {x} {p} {q} i e u =
      normal (edge_listed t i e)
      (λ z. e.may.0 ((t.matches p).1 z.0, (t.matches q).1 z.1))
      (λ z. e.may.1 ((t.stores p).1 z))

  store_free : {p q : ℕ} → Free (graph targets m.states g h) Buffering p q → (u v : List ℕ) → Run (fsbm_of m list) (config u p v Buffering) (config u q v Buffering)
  store_free here u v = done
  store_free (more {r = r} f e) u v =
      run_one (store_free f u v) (subst (λ (z : List ℕ). Yields (fsbm_of m list) (config u _ v Buffering) (config u r z Buffering)) (append-nil v) (store_one (inl refl) e u v))

  empty_free : {p q : ℕ} → Free (graph targets m.states g h) Emptying p q → (u v : List ℕ) → Run (fsbm_of m list) (config u p v Emptying) (config u q v Emptying)
  empty_free here u v = done
  empty_free (more f e) u v = run_one (empty_free f u v) (empty_one (inl refl) e u v)

  storing_run : {i p j q : ℕ} → Walk (graph targets m.states g h) w Buffering i p j q → Run (fsbm_of m list) (config (drop i w) p [] Buffering) (config (drop j w) q (slice i j w) Buffering)
  storing_run {i} {p} {j} {q} (still e f) =
      subst₂ (λ (u v : List ℕ). Run (fsbm_of m list) (config (drop i w) p [] Buffering) (config u q v Buffering))
      (ap (λ (n : ℕ). drop n w) (sym e)) (sym (ap (λ (n : ℕ). slice i n w) e ∙ slice_empty i w)) (store_free f (drop i w) [])
  storing_run {i} {p} {j} {q} (reads {j = k} {q = r} v lt a e) =
      let x = get_or w k 0 in
      let le = walk_forward v in
      let step = subst₂ (λ (u z : List ℕ). Yields (fsbm_of m list) (config u r (slice i k w) Buffering) (config (drop (suc k) w) a.middle z Buffering))
      (sym (drop_letter w k x lt refl a.letter)) (sym (slice_more w i k x le lt refl a.letter)) (store_one (inr (k, lt, refl, a.letter)) a.edge (drop (suc k) w) (slice i k w)) in
      subst (λ (n : ℕ). Run (fsbm_of m list) (config (drop i w) p [] Buffering) (config (drop n w) q (slice i n w) Buffering)) (sym e)
      (run_join (run_one (storing_run v) step) (store_free a.free (drop (suc k) w) (slice i (suc k) w)))

  -- the letters from i up to k are taken from the buffer, and stand in the word from j on
  emptying_run : (i j : ℕ) → i ≤ j → {s k q : ℕ} → Walk (graph targets m.states g h) w Emptying i s k q → k ≤ j → j + (k - i) ≤ length w
      → ((t : ℕ) → t < k - i → get_or w (i + t) 0 ≡ get_or w (j + t) 0)
      → Run (fsbm_of m list) (config (drop j w) s (slice i j w) Emptying) (config (drop (j + (k - i)) w) q (slice k j w) Emptying)
  emptying_run i j ij {s} {k} {q} (still e f) le room same =
      let at : j ≡ j + (k - i) = omega arith in
      subst₂ (λ (u v : List ℕ). Run (fsbm_of m list) (config (drop j w) s (slice i j w) Emptying) (config u q v Emptying))
      (ap (λ (n : ℕ). drop n w) at) (ap (λ (n : ℕ). slice n j w) (sym e)) (empty_free f (drop j w) (slice i j w))
  emptying_run i j ij {s} {k} {q} (reads {j = o} {q = r} v lt a e) le room same =
      let x = get_or w o 0 in
      let ge = walk_forward v in
      let back : i + (o - i) ≡ o = omega arith in
      let letter : get_or w (j + (o - i)) 0 ≡ x = sym (same (o - i) (omega arith)) ∙ ap (λ (n : ℕ). get_or w n 0) back in
      let next : suc (j + (o - i)) ≡ j + (k - i) = omega arith in
      let input = drop_letter w (j + (o - i)) x (omega arith) letter a.letter in
      let stored = slice_letter w o j x (omega arith) (omega arith) refl a.letter in
      let step = subst₂ (λ (u z : List ℕ). Yields (fsbm_of m list) (config u r z Emptying) (config (drop (suc (j + (o - i))) w) a.middle (slice (suc o) j w) Emptying))
      (sym input) (sym stored) (empty_one (inr (o, lt, refl, a.letter)) a.edge (drop (suc (j + (o - i))) w) (slice (suc o) j w)) in
      subst₂ (λ (u v : List ℕ). Run (fsbm_of m list) (config (drop j w) s (slice i j w) Emptying) (config u q v Emptying))
      (ap (λ (n : ℕ). drop n w) next) (ap (λ (n : ℕ). slice n j w) (sym e))
      (run_join (run_one (emptying_run i j ij v (omega arith) (omega arith) (λ t (l : t < o - i). same t (omega arith))) step) (empty_free a.free (drop (suc (j + (o - i))) w) (slice (suc o) j w)))

  -- storing from i up to j in a buffering state, and the turn to matching
  turn_run : {i j p s : ℕ} → In g p → Walk (graph targets m.states g h) w Buffering i p j s → In h s
      → Run (fsbm_of m list) (config (drop i w) p [] Normal) (config (drop j w) s (slice i j w) Emptying)
  turn_run {p = p} {s = s} gp v hs = run_one (Run.more (begins_buffering ((t.stores p).0 gp)) (storing_run v)) (begins_emptying ((t.matches s).0 hs))

  copy_run : {i j k p s q : ℕ} → In g p → i ≤ j → Walk (graph targets m.states g h) w Buffering i p j s → In h s → Walk (graph targets m.states g h) w Emptying i s j q
      → Square w i j → k ≡ j + (j - i) → k ≤ length w → Run (fsbm_of m list) (config (drop i w) p [] Normal) (config (drop k w) q [] Normal)
  copy_run {i} {j} {k} {p} {s} {q} gp le v hs y same position in_word =
      let whole = run_join (turn_run gp v hs) (emptying_run i j le y (omega arith) (omega arith) same) in
      let ended = subst (λ (z : List ℕ). Run (fsbm_of m list) (config (drop i w) p [] Normal) (config (drop (j + (j - i)) w) q z Emptying)) (slice_empty j w) whole in
      subst (λ (n : ℕ). Run (fsbm_of m list) (config (drop i w) p [] Normal) (config (drop n w) q [] Normal)) (sym position)
      (run_one ended (returns_to_normal ((t.matches q).0 (walk_matching hs y))))

  pub reach_run : {start k q : ℕ} → Reach (graph targets m.states g h) w start k q → (o : ℕ) × In start o × Run (fsbm_of m list) (config w o [] Normal) (config (drop k w) q [] Normal)
  reach_run {q = q} (begins e i) = (q, i, subst (λ (n : ℕ). Run (fsbm_of m list) (config w q [] Normal) (config (drop n w) q [] Normal)) (sym e) done)
  reach_run {k = k} (passes r e) = let (o, i, run) = reach_run r in (o, i, run_one run (normal_one (inl refl) e (drop k w)))
  reach_run {q = q} (moves {i = k} {p = p} r lt some e position) =
      let (o, i, run) = reach_run r in
      let x = get_or w k 0 in
      let step = subst (λ (u : List ℕ). Yields (fsbm_of m list) (config u p [] Normal) (config (drop (suc k) w) q [] Normal)) (sym (drop_letter w k x lt refl some)) (normal_one (inr (k, lt, refl, some)) e (drop (suc k) w)) in
      (o, i, subst (λ (n : ℕ). Run (fsbm_of m list) (config w o [] Normal) (config (drop n w) q [] Normal)) (sym position) (run_one run step))
  reach_run (copies r gp le v hs y same position in_word) =
      let (o, i, run) = reach_run r in
      (o, i, run_join run (copy_run gp le v hs y same position in_word))

  -- whatever is in the buffer there
  pub at_run : (start : ℕ) (T : Mode) (p q : ℕ) → At (graph targets m.states g h) w start T p q
      → (o : ℕ) × In start o × (v : List ℕ) × Run (fsbm_of m list) (config w o [] Normal) (config (drop p w) q v T)
  at_run start Normal p q r = let (o, i, run) = reach_run r in (o, i, [], run)
  at_run start Buffering p q a =
      let (o, i, run) = reach_run a.reach in
      (o, i, slice a.from p w, run_join run (Run.more (begins_buffering ((t.stores a.first).0 a.stores)) (storing_run a.storing)))
  at_run start Emptying p q a =
      let (o, i, run) = reach_run a.reach in
      let d = a.matching in
      let room : a.end + (d.taken - a.from) ≤ length w = let e = d.position in let z = d.inside in omega arith in
      let read = emptying_run a.from a.end (walk_forward a.storing) d.emptying d.behind room d.same in (
        o,
        i,
        slice d.taken a.end w,
        subst (λ (n : ℕ). Run (fsbm_of m list) (config w o [] Normal) (config (drop n w) q (slice d.taken a.end w) Emptying)) (sym d.position)
            (run_join run (run_join (turn_run a.stores a.storing d.turns) read)),
      )
