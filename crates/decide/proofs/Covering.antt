-- Every configuration of a run of the published definition is covered by the states reached in normal mode: the closed-set argument.
--
-- Covered T D      == the configuration D, in mode T, is one that the reached states lead to
-- covers           == a move from a covered configuration leads to a covered one
-- run_covers       == so does a run
-- run_at           == the state at the end of a run is reached at its position in its mode
use Prim.Native.Nat.{ℕ, suc, ◌+◌, ◌-◌, ◌≤◌, ◌<◌}
use mathlib.Core.Path.{◌≡◌, refl, sym, ap, ◌∙◌, subst}
use mathlib.Core.Logic.{◌⊎◌, inl, inr}
use mathlib.Core.Bool.{true, ◌&&◌}
use mathlib.Core.List.{List, [], ◌++◌}
use native.Mathlib.Omega.{arith}
use native.Mathlib.Decide.{ℕ_discrete}
use lib.ListN.{length, get_or, drop, length-drop}
use lib.Seq.{slice, slice_empty}
use lib.Dec.{ltb, eqb}
use borrow.Author.Tests.{ltb-true, eqb-true, eq-eqb}
use Rattle.basics.specs.Search.Laws.{or_true, and_true}
use Rattle.stateset.specs.Set.{In}
use Rattle.fsbm.specs.Moves.{reads_letter, advanced}
use Rattle.fsbm.specs.Published.{fsbm_of, Configuration, config, symbol, Yields, normal, buffer, empty, begins_buffering, begins_emptying, returns_to_normal, Run, done}
use Rattle.fsbm.specs.declared.machine.Machine.{Machine}
use Rattle.fsbm.specs.declared.config.Mode.{Mode}
use Rattle.fsbm.specs.declared.config.Mode.TheVariants.{Normal, Buffering, Emptying}
use Rattle.fsbm.specs.Moves.Laws.{advanced_fits}
use Rattle.language.specs.Strings.{drop_reads, slice_reads, slice_grows, slice_none}
use Rattle.images.specs.Graph.{here, more, Graph, graph, Edge}
use Rattle.decide.specs.Reach.{Walk, still, reads, Reach, begins, passes, moves, copies, At}
use Rattle.decide.proofs.CopyCases.{walk_forward}
use Rattle.decide.proofs.StageCases.{reach_inside}
use Rattle.decide.proofs.Runs.{advanced_some}
use Rattle.decide.proofs.Tables.{Read, TableOf, listed_edge}

-- the test of a letter: it is epsilon, or it stands there
pub reads_says : (w : List ℕ) (p e x : ℕ) → reads_letter w p e x ≡ true → (x ≡ 0) ⊎ ((0 < x) × (p < e) × (get_or w p 0 ≡ x))
unfolding reads_letter
reads_says w p e x h = zeroed (ℕ_discrete x 0) (or_true (eqb x 0) (ltb p e && eqb (get_or w p 0) x) h)
  where
    zeroed : Dec (x ≡ 0) → (eqb x 0 ≡ true) ⊎ ((ltb p e && eqb (get_or w p 0) x) ≡ true) → (x ≡ 0) ⊎ ((0 < x) × (p < e) × (get_or w p 0 ≡ x))
    zeroed (yes z) y = inl z
    zeroed (no n) (inl z) = inl (eqb-true x 0 z)
    zeroed (no n) (inr y) = let b = and_true (ltb p e) (eqb (get_or w p 0) x) y in inr (omega arith, ltb-true p e b.0, eqb-true (get_or w p 0) x b.1)

-- such a letter is one that the table has
read_of : (w : List ℕ) (p x : ℕ) → (x ≡ 0) ⊎ ((0 < x) × (p < length w) × (get_or w p 0 ≡ x)) → Read w x
read_of w p x (inl z) = inl z
read_of w p x (inr (some, lt, same)) = inr (p, lt, same, some)

pub advanced_zero : (p x : ℕ) → x ≡ 0 → advanced p x ≡ p
advanced_zero p x e = let z : eqb x 0 ≡ true = eq-eqb x 0 e in rw z

-- one epsilon move more
walk_more : {G : Graph} {w : List ℕ} {T : Mode} {i p j q r : ℕ} → Walk G w T i p j q → Edge G T 0 q r → Walk G w T i p j r
walk_more (still e f) y = still e (more f y)
walk_more (reads v lt a e) y = reads v lt (record { letter = a.letter; middle = a.middle; edge = a.edge; free = more a.free y }) e

-- one move more that reads x, which is epsilon or the letter at j
walk_reads : {G : Graph} {w : List ℕ} {T : Mode} {i p j q r : ℕ} (x : ℕ) → Walk G w T i p j q → Edge G T x q r → (x ≡ 0) ⊎ ((0 < x) × (j < length w) × (get_or w j 0 ≡ x)) → Walk G w T i p (advanced j x) r
walk_reads {G} {w} {T} {i} {p} {j} {q} {r} x v e (inl z) =
    subst (λ (n : ℕ). Walk G w T i p n r) (sym (advanced_zero j x z)) (walk_more v (subst (λ (y : ℕ). Edge G T y q r) z e))
walk_reads {G} {w} {T} {i} {p} {j} {q} {r} x v e (inr (some, lt, same)) =
    reads v lt (record {
      letter = omega arith;
      middle = r;
      edge = subst (λ (y : ℕ). Edge G T y q r) (sym same) e;
      free = here;
    }) (advanced_some j x some)

reach_reads : {G : Graph} {w : List ℕ} {start k p q : ℕ} (x : ℕ) → Reach G w start k p → Edge G Normal x p q → (x ≡ 0) ⊎ ((0 < x) × (k < length w) × (get_or w k 0 ≡ x)) → Reach G w start (advanced k x) q
reach_reads {G} {w} {start} {k} {p} {q} x r e (inl z) =
    subst (λ (n : ℕ). Reach G w start n q) (sym (advanced_zero k x z)) (passes r (subst (λ (y : ℕ). Edge G Normal y p q) z e))
reach_reads {G} {w} {start} {k} {p} {q} x r e (inr (some, lt, same)) =
    moves r lt (let z = same in omega arith) (subst (λ (y : ℕ). Edge G Normal y p q) (sym same) e) (advanced_some k x some)

pub record CoverNormal (G : Graph) (w : List ℕ) (start : ℕ) (D : Configuration) : Type 0 where
  pub position : ℕ
  pub reach : Reach G w start position D.state
  pub input : D.input ≡ drop position w

pub record CoverBuffering (G : Graph) (w : List ℕ) (start : ℕ) (D : Configuration) : Type 0 where
  pub from : ℕ
  pub position : ℕ
  pub first : ℕ
  pub reach : Reach G w start from first
  pub stores : In G.buffering first
  pub walk : Walk G w Buffering from first position D.state
  pub inside : position ≤ length w
  pub input : D.input ≡ drop position w
  pub stored : D.buffer ≡ slice from position w

pub record CoverEmptying (G : Graph) (w : List ℕ) (start : ℕ) (D : Configuration) : Type 0 where
  pub from : ℕ
  pub end : ℕ
  pub position : ℕ
  pub first : ℕ
  pub middle : ℕ
  pub reach : Reach G w start from first
  pub stores : In G.buffering first
  pub storing : Walk G w Buffering from first end middle
  pub turns : In G.matching middle
  pub emptying : Walk G w Emptying from middle position D.state
  pub behind : position ≤ end
  pub inside : end + (position - from) ≤ length w
  pub same : (t : ℕ) → t < position - from → get_or w (from + t) 0 ≡ get_or w (end + t) 0
  pub input : D.input ≡ drop (end + (position - from)) w
  pub stored : D.buffer ≡ slice position end w

abbrev pub Covered : Graph → List ℕ → ℕ → Mode → Configuration → Type 0
Covered G w start Normal D = CoverNormal G w start D
Covered G w start Buffering D = CoverBuffering G w start D
Covered G w start Emptying D = CoverEmptying G w start D

module _ {m : Machine} {list targets : List ℕ} {g h : ℕ} (w : List ℕ) (t : TableOf m list w targets g h) (start : ℕ) where
  cover_normal : {x p q : ℕ} (u : List ℕ) → (Read w x → Edge (graph targets m.states g h) Normal x p q) → CoverNormal (graph targets m.states g h) w start (config (symbol x ++ u) p [] Normal)
      → CoverNormal (graph targets m.states g h) w start (config u q [] Normal)
  cover_normal {x} u e c =
      let (reading, rest) = drop_reads w c.position x u (sym c.input) in
      record { position = advanced c.position x; reach = let r = reads_says w c.position (length w) x reading in reach_reads x c.reach (e (read_of w c.position x r)) r; input = sym rest }

  cover_buffering : {x p q : ℕ} (u v : List ℕ) → (Read w x → Edge (graph targets m.states g h) Buffering x p q) → CoverBuffering (graph targets m.states g h) w start (config (symbol x ++ u) p v Buffering)
      → CoverBuffering (graph targets m.states g h) w start (config u q (v ++ symbol x) Buffering)
  cover_buffering {x} u v e c =
      let (reading, rest) = drop_reads w c.position x u (sym c.input) in
      record {
        from = c.from;
        position = advanced c.position x;
        first = c.first;
        reach = c.reach;
        stores = c.stores;
        walk = let r = reads_says w c.position (length w) x reading in walk_reads x c.walk (e (read_of w c.position x r)) r;
        inside = (advanced_fits w c.position (length w) x c.inside reading).1;
        input = sym rest;
        stored = ap (λ (y : List ℕ). y ++ symbol x) c.stored ∙ sym (slice_grows w c.from c.position x (walk_forward c.walk) reading);
      }

  cover_emptying : {x p q : ℕ} (u v : List ℕ) → (Read w x → Edge (graph targets m.states g h) Emptying x p q) → CoverEmptying (graph targets m.states g h) w start (config (symbol x ++ u) p (symbol x ++ v) Emptying)
      → CoverEmptying (graph targets m.states g h) w start (config u q v Emptying)
  cover_emptying {x} {p} {q} u v e c = at (reads_says w (c.end + (c.position - c.from)) (length w) x input.0) (reads_says w c.position c.end x stored.0)
    where
      input : (reads_letter w (c.end + (c.position - c.from)) (length w) x ≡ true) × (drop (advanced (c.end + (c.position - c.from)) x) w ≡ u)
      input = drop_reads w (c.end + (c.position - c.from)) x u (sym c.input)

      stored : (reads_letter w c.position c.end x ≡ true) × (slice (advanced c.position x) c.end w ≡ v)
      stored = slice_reads w c.position c.end x v (let z = c.inside in omega arith) (sym c.stored)

      stays : x ≡ 0 → CoverEmptying (graph targets m.states g h) w start (config u q v Emptying)
      stays z =
          record {
            from = c.from;
            end = c.end;
            position = c.position;
            first = c.first;
            middle = c.middle;
            reach = c.reach;
            stores = c.stores;
            storing = c.storing;
            turns = c.turns;
            emptying = walk_more c.emptying (subst (λ (y : ℕ). Edge (graph targets m.states g h) Emptying y p q) z (e (inl z)));
            behind = c.behind;
            inside = c.inside;
            same = c.same;
            input = sym input.1 ∙ ap (λ (n : ℕ). drop n w) (advanced_zero (c.end + (c.position - c.from)) x z);
            stored = sym stored.1 ∙ ap (λ (n : ℕ). slice n c.end w) (advanced_zero c.position x z);
          }

      goes : 0 < x → c.end + (c.position - c.from) < length w → get_or w (c.end + (c.position - c.from)) 0 ≡ x → c.position < c.end → get_or w c.position 0 ≡ x
          → CoverEmptying (graph targets m.states g h) w start (config u q v Emptying)
      goes some lt there before here' =
          let ge = walk_forward c.emptying in
          let next : suc (c.end + (c.position - c.from)) ≡ c.end + (suc c.position - c.from) = omega arith in
          record {
            from = c.from;
            end = c.end;
            position = suc c.position;
            first = c.first;
            middle = c.middle;
            reach = c.reach;
            stores = c.stores;
            storing = c.storing;
            turns = c.turns;
            emptying = subst (λ (n : ℕ). Walk (graph targets m.states g h) w Emptying c.from c.middle n q) (advanced_some c.position x some) (walk_reads x c.emptying (e (inr (c.position, omega arith, here', some))) (inr (some, omega arith, here')));
            behind = omega arith;
            inside = omega arith;
            same = λ (t : ℕ) (l : t < suc c.position - c.from). one ge there here' t (ℕ_discrete t (c.position - c.from)) l;
            input = sym input.1 ∙ ap (λ (n : ℕ). drop n w) (advanced_some (c.end + (c.position - c.from)) x some ∙ next);
            stored = sym stored.1 ∙ ap (λ (n : ℕ). slice n c.end w) (advanced_some c.position x some);
          }
        where
          one : c.from ≤ c.position → get_or w (c.end + (c.position - c.from)) 0 ≡ x → get_or w c.position 0 ≡ x → (t : ℕ) → Dec (t ≡ c.position - c.from) → t < suc c.position - c.from → get_or w (c.from + t) 0 ≡ get_or w (c.end + t) 0
          one ge there here' t (yes y) l =
              let at : c.from + t ≡ c.position = omega arith in
              ap (λ (n : ℕ). get_or w n 0) at ∙ (here' ∙ (sym there ∙ ap (λ (n : ℕ). get_or w (c.end + n) 0) (sym y)))
          one ge there here' t (no n) l = c.same t (omega arith)

      at : (x ≡ 0) ⊎ ((0 < x) × (c.end + (c.position - c.from) < length w) × (get_or w (c.end + (c.position - c.from)) 0 ≡ x))
          → (x ≡ 0) ⊎ ((0 < x) × (c.position < c.end) × (get_or w c.position 0 ≡ x)) → CoverEmptying (graph targets m.states g h) w start (config u q v Emptying)
      at (inl z) b = stays z
      at (inr a) (inl z) = stays z
      at (inr a) (inr b) = goes a.0 a.1 a.2 b.1 b.2

  covers : {D D' : Configuration} → Yields (fsbm_of m list) D D' → Covered (graph targets m.states g h) w start D.mode D → Covered (graph targets m.states g h) w start D'.mode D'
  covers (normal {p = p} {x = x} {q = q} {u = u} δ apart calm) c =
      cover_normal {x = x} {p = p} {q = q} u (λ i. listed_edge t i δ (λ z. apart ((t.matches p).0 z.0, (t.matches q).0 z.1), λ z. calm ((t.stores p).0 z))) c
  covers (buffer {p = p} {x = x} {q = q} {u = u} {v = v} δ apart calm) c =
      cover_buffering {x = x} {p = p} {q = q} u v (λ i. listed_edge t i δ (λ z. apart ((t.matches p).0 z.0, (t.matches q).0 z.1), λ z. calm ((t.stores q).0 z))) c
  covers (empty {p = p} {x = x} {q = q} {u = u} {v = v} δ hp hq) c =
      cover_emptying {x = x} {p = p} {q = q} u v (λ i. listed_edge t i δ ((t.matches p).1 hp, (t.matches q).1 hq)) c
  covers (begins_buffering {q = q} {u = u} gq) c =
      record {
        from = c.position;
        position = c.position;
        first = q;
        reach = c.reach;
        stores = (t.stores q).1 gq;
        walk = still refl here;
        inside = reach_inside (graph targets m.states g h) w start c.reach;
        input = c.input;
        stored = sym (slice_empty c.position w);
      }
  covers (begins_emptying {q = q} {u = u} {v = v} hq) c =
      let none : c.position + (c.from - c.from) ≡ c.position = omega arith in
      record {
        from = c.from;
        end = c.position;
        position = c.from;
        first = c.first;
        middle = q;
        reach = c.reach;
        stores = c.stores;
        storing = c.walk;
        turns = (t.matches q).1 hq;
        emptying = still refl here;
        behind = walk_forward c.walk;
        inside = let z = c.inside in omega arith;
        same = λ n (lt : n < c.from - c.from). absurd (omega arith);
        input = c.input ∙ ap (λ (n : ℕ). drop n w) (sym none);
        stored = c.stored;
      }
  covers (returns_to_normal {q = q} {u = u} hq) c =
      let room : c.end ≤ length w = let z = c.inside in omega arith in
      let used : c.position ≡ c.end = slice_none w c.position c.end c.behind room (sym c.stored) in
      record {
        position = c.end + (c.position - c.from);
        reach = copies {j = c.end} c.reach c.stores (walk_forward c.storing) c.storing c.turns
            (subst (λ (n : ℕ). Walk (graph targets m.states g h) w Emptying c.from c.middle n q) used c.emptying)
            (subst (λ (n : ℕ). (k : ℕ) → k < n - c.from → get_or w (c.from + k) 0 ≡ get_or w (c.end + k) 0) used c.same)
            (ap (λ (n : ℕ). c.end + (n - c.from)) used) c.inside;
        input = c.input;
      }

  run_covers : {D D' : Configuration} → Run (fsbm_of m list) D D' → Covered (graph targets m.states g h) w start D.mode D → Covered (graph targets m.states g h) w start D'.mode D'
  run_covers done c = c
  run_covers (Run.more y r) c = run_covers r (covers y c)

  -- the rest of the input tells the position
  told : (p k : ℕ) → p ≤ length w → k ≤ length w → drop p w ≡ drop k w → p ≡ k
  told p k le le' e =
      let z = length-drop p w in
      let y = length-drop k w in
      let l : length (drop p w) ≡ length (drop k w) = ap length e in
      omega arith

  covered_at : (T : Mode) (p q : ℕ) (v : List ℕ) → p ≤ length w → Covered (graph targets m.states g h) w start T (config (drop p w) q v T) → At (graph targets m.states g h) w start T p q
  covered_at Normal p q v le c =
      subst (λ (n : ℕ). Reach (graph targets m.states g h) w start n q)
      (sym (told p c.position le (reach_inside (graph targets m.states g h) w start c.reach) c.input)) c.reach
  covered_at Buffering p q v le c =
      record {
        from = c.from;
        first = c.first;
        reach = c.reach;
        stores = c.stores;
        storing = subst (λ (n : ℕ). Walk (graph targets m.states g h) w Buffering c.from c.first n q) (sym (told p c.position le c.inside c.input)) c.walk;
        inside = le;
      }
  covered_at Emptying p q v le c =
      record {
        from = c.from;
        first = c.first;
        reach = c.reach;
        stores = c.stores;
        end = c.end;
        middle = c.middle;
        storing = c.storing;
        matching = record {
          turns = c.turns;
          taken = c.position;
          behind = c.behind;
          emptying = c.emptying;
          same = c.same;
          position = told p (c.end + (c.position - c.from)) le c.inside c.input;
          inside = le;
        };
      }

  pub run_at : {o : ℕ} (T : Mode) (p q : ℕ) (v : List ℕ) → In start o → p ≤ length w → Run (fsbm_of m list) (config w o [] Normal) (config (drop p w) q v T)
      → At (graph targets m.states g h) w start T p q
  run_at T p q v i le r = covered_at T p q v le (run_covers r (record { position = 0; reach = begins refl i; input = refl }))
