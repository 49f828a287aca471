-- The laws of specs/Layers.antt.
--
-- rows_least        == rows that no move would lower have least numbers
-- emptying_best, buffering_best, position_best == and so the rows of each kind of layer are Best
-- some_start        == where a copy begins there are states that begin one
-- blank_at, blank_size, blank_none == the numbers of a blank row
-- none_best         == a row that says none is as good as a blank one
-- blank_emptying, blank_buffering == where the rows after it are blank, so is a layer
-- blank_position       == where no state is kept, the rows of a position are blank
use Prim.Native.Nat.{ℕ, zero, suc, ◌≤◌, ◌<◌}
use Rattle.std.specs.Prelude.{◌≡◌, ◌⊎◌, ◌↔◌, true, false, length}
use Rattle.std.proofs.Math.Path.{refl, ap}
use Rattle.std.proofs.Common.{sym, ◌∙◌, subst, inl, inr}
use Rattle.std.proofs.lemmas.Bool.{false≢true}
use mathlib.Core.List.{List, [], ◌∷◌, ◌++◌}
use native.Mathlib.Omega.{arith}
use Rattle.std.proofs.Math.Decide.{dec_lt}
use Rattle.std.proofs.lemmas.List.{length-replicate, get_or-replicate}
use Rattle.std.proofs.Math.ListN.{get_or-eq_default}
use Rattle.stateset.specs.Set.{In}
use Rattle.stateset.specs.Set.Laws.{empty_in}
use Rattle.fsbm.specs.Machine.{transition_at, final, buffering, matching}
use Rattle.fsbm.specs.Published.{fsbm_of, Configuration, config}
use Rattle.fsbm.specs.declared.machine.Machine.{Machine}
use Rattle.fsbm.specs.declared.config.Mode.{Mode}
use Rattle.fsbm.specs.declared.config.Mode.TheVariants.{Normal, Buffering, Emptying}
use Rattle.fsbm.specs.Rules.{Rules, matching_below}
use Rattle.layers.specs.Costs.{none, Near, Go, at, RowReal, RowBest, Leads, Bounded, ChangeBound}
use Rattle.layers.specs.Costs.Laws.{Cases, silent, normal_letter, buffer_letter, empty_letter, to_buffering, to_emptying, to_normal, layer_least}
use Rattle.layers.specs.Layers.{head_of, tail_of, blank_row, NoneBelow, EmptyingLayer, BufferingLayer, Begins, Sets, Settled, PositionReal, PositionBest, PositionLayer}

never_mode : {A : Type 0} (n : ℕ) → ◌≡◌ {A = ℕ} 0 1 → A
never_mode n z = absurd (omega arith)

module _ (m : Machine) (list : List ℕ) (r : Rules m list) (N : ℕ → ℕ) (u v : List ℕ) (rows : Mode → List ℕ) (live : Mode → Type 0) where
  from_state : (t : Mode) (k q d : ℕ) → (transition_at list k).from ≡ q → at (rows t) (transition_at list k).from ≤ d → at (rows t) q ≤ d
  from_state t k q d e h = subst (λ (p : ℕ). at (rows t) p ≤ d) e h

  pub record InRows (C : Configuration) (d : ℕ) : Type 0 where
    pub mode : Mode
    pub lives : live mode
    pub state : ℕ
    pub below : state < m.states
    pub config_is : C ≡ config u state v mode
    pub number_is : d ≡ at (rows mode) state

  pub record Unlowered : Type 0 where
    pub silents : (t : Mode) → live t → Bounded m list (λ q. t ≡ Normal → Near N u q) t 0 (rows t) (rows t)
    pub goals : live Normal → u ≡ [] → v ≡ [] → (q : ℕ) → q < m.states → final m.marks q ≡ true → at (rows Normal) q ≡ 0
    pub normals : live Normal → (x : ℕ) (u' : List ℕ) → u ≡ suc x ∷ u' → (k : ℕ) → Leads m list Normal (suc x) k → Near N u (transition_at list k).from → (n : ℕ) → Go m list N (config u' (transition_at list k).to [] Normal) n
        → at (rows Normal) (transition_at list k).from ≤ suc n
    pub buffers : live Buffering → (x : ℕ) (u' : List ℕ) → u ≡ suc x ∷ u' → (k : ℕ) → Leads m list Buffering (suc x) k → (n : ℕ)
        → Go m list N (config u' (transition_at list k).to (v ++ (suc x ∷ [])) Buffering) n → at (rows Buffering) (transition_at list k).from ≤ suc n
    pub empties : live Emptying → (x : ℕ) (u' v' : List ℕ) → u ≡ suc x ∷ u' → v ≡ suc x ∷ v' → (k : ℕ) → Leads m list Emptying (suc x) k → (n : ℕ)
        → Go m list N (config u' (transition_at list k).to v' Emptying) n → at (rows Emptying) (transition_at list k).from ≤ suc n
    pub buffering_begins : live Normal → (q : ℕ) → Near N u q → buffering m.marks q ≡ true → (n : ℕ) → Go m list N (config u q [] Buffering) n
        → ((v ≡ []) × live Buffering × (at (rows Normal) q ≤ suc (at (rows Buffering) q))) ⊎ (at (rows Normal) q ≤ suc n)
    pub emptying_begins : live Buffering → (q : ℕ) → q < m.states → matching m.marks q ≡ true → (n : ℕ) → Go m list N (config u q v Emptying) n
        → (live Emptying × (at (rows Buffering) q ≤ suc (at (rows Emptying) q))) ⊎ (at (rows Buffering) q ≤ suc n)
    pub normal_again : live Emptying → v ≡ [] → (q : ℕ) → matching m.marks q ≡ true → (n : ℕ) → Go m list N (config u q [] Normal) n
        → (live Normal × (at (rows Emptying) q ≤ suc (at (rows Normal) q))) ⊎ (at (rows Emptying) q ≤ suc n)

  module _ (h : Unlowered) where
    edges : (t : Mode) → live t → (q : ℕ) → q < m.states → (t ≡ Normal → Near N u q) → (C' : Configuration) (n : ℕ) → Cases m list (config u q v t) C' → Go m list N C' n
        → ((d' : ℕ) × InRows C' d' × (at (rows t) q ≤ suc d')) ⊎ (at (rows t) q ≤ suc n)
    edges t l q lt kept C' n (silent k leads from e) g =
        inl (
          at (rows t) (transition_at list k).to,
          record { mode = t; lives = l; state = (transition_at list k).to; below = r.to_below k leads.listed; config_is = e; number_is = refl },
          from_state t k q _ from (h.silents t l k leads (λ z. subst (Near N u) (sym from) (kept z))),
        )
    edges t l q lt kept C' n (normal_letter k x u' leads from mode input e) g =
        inr (subst (λ (s : Mode). at (rows s) q ≤ suc n) (sym mode)
        (from_state Normal k q _ from (h.normals (subst live mode l) x u' input k leads (subst (Near N u) (sym from) (kept mode)) n (subst (λ (C : Configuration). Go m list N C n) e g))))
    edges t l q lt kept C' n (buffer_letter k x u' leads from mode input e) g =
        inr (subst (λ (s : Mode). at (rows s) q ≤ suc n) (sym mode)
        (from_state Buffering k q _ from (h.buffers (subst live mode l) x u' input k leads n (subst (λ (C : Configuration). Go m list N C n) e g))))
    edges t l q lt kept C' n (empty_letter k x u' v' leads from mode input stored e) g =
        inr (subst (λ (s : Mode). at (rows s) q ≤ suc n) (sym mode)
        (from_state Emptying k q _ from (h.empties (subst live mode l) x u' v' input stored k leads n (subst (λ (C : Configuration). Go m list N C n) e g))))
    edges t l q lt kept C' n (to_buffering mode is e) g = on (h.buffering_begins (subst live mode l) q (kept mode) is n (subst (λ (C : Configuration). Go m list N C n) e g))
      where
        on : ((v ≡ []) × live Buffering × (at (rows Normal) q ≤ suc (at (rows Buffering) q))) ⊎ (at (rows Normal) q ≤ suc n)
            → ((d' : ℕ) × InRows C' d' × (at (rows t) q ≤ suc d')) ⊎ (at (rows t) q ≤ suc n)
        on (inl z) = inl (
          at (rows Buffering) q,
          record { mode = Buffering; lives = z.1; state = q; below = lt; config_is = e ∙ ap (λ (s : List ℕ). config u q s Buffering) (sym z.0); number_is = refl },
          subst (λ (s : Mode). at (rows s) q ≤ suc (at (rows Buffering) q)) (sym mode) z.2,
        )
        on (inr z) = inr (subst (λ (s : Mode). at (rows s) q ≤ suc n) (sym mode) z)
    edges t l q lt kept C' n (to_emptying mode is e) g = on (h.emptying_begins (subst live mode l) q lt is n (subst (λ (C : Configuration). Go m list N C n) e g))
      where
        on : (live Emptying × (at (rows Buffering) q ≤ suc (at (rows Emptying) q))) ⊎ (at (rows Buffering) q ≤ suc n)
            → ((d' : ℕ) × InRows C' d' × (at (rows t) q ≤ suc d')) ⊎ (at (rows t) q ≤ suc n)
        on (inl z) = inl (
          at (rows Emptying) q,
          record { mode = Emptying; lives = z.0; state = q; below = lt; config_is = e; number_is = refl },
          subst (λ (s : Mode). at (rows s) q ≤ suc (at (rows Emptying) q)) (sym mode) z.1,
        )
        on (inr z) = inr (subst (λ (s : Mode). at (rows s) q ≤ suc n) (sym mode) z)
    edges t l q lt kept C' n (to_normal mode stored is e) g = on (h.normal_again (subst live mode l) stored q is n (subst (λ (C : Configuration). Go m list N C n) e g))
      where
        on : (live Normal × (at (rows Emptying) q ≤ suc (at (rows Normal) q))) ⊎ (at (rows Emptying) q ≤ suc n)
            → ((d' : ℕ) × InRows C' d' × (at (rows t) q ≤ suc d')) ⊎ (at (rows t) q ≤ suc n)
        on (inl z) = inl (
          at (rows Normal) q,
          record { mode = Normal; lives = z.0; state = q; below = lt; config_is = e ∙ ap (λ (s : List ℕ). config u q s Normal) (sym stored); number_is = refl },
          subst (λ (s : Mode). at (rows s) q ≤ suc (at (rows Normal) q)) (sym mode) z.1,
        )
        on (inr z) = inr (subst (λ (s : Mode). at (rows s) q ≤ suc n) (sym mode) z)

    edge : (C C' : Configuration) (d n : ℕ) → InRows C d → (C.mode ≡ Normal → Near N C.input C.state) → Cases m list C C' → Go m list N C' n → ((d' : ℕ) × InRows C' d' × (d ≤ suc d')) ⊎ (d ≤ suc n)
    edge C C' d n i kept c g =
        let z = i.number_is in
        let kept' : i.mode ≡ Normal → Near N u i.state = subst (λ (X : Configuration). X.mode ≡ Normal → Near N X.input X.state) i.config_is kept in
        rw z (edges i.mode i.lives i.state i.below kept' C' n (subst (λ (X : Configuration). Cases m list X C') i.config_is c) g)

    goal : (q d : ℕ) → (fsbm_of m list).F q → InRows (config [] q [] Normal) d → d ≡ 0
    goal q d f i =
        let e = i.config_is in
        let mode : i.mode ≡ Normal = ap (λ (D : Configuration). D.mode) (sym e) in
        let state : q ≡ i.state = ap (λ (D : Configuration). D.state) e in
        let input : u ≡ [] = ap (λ (D : Configuration). D.input) (sym e) in
        let stored : v ≡ [] = ap (λ (D : Configuration). D.buffer) (sym e) in
        i.number_is ∙ ap (λ (t : Mode). at (rows t) i.state) mode
        ∙ h.goals (subst live mode i.lives) input stored i.state i.below (subst (λ (p : ℕ). final m.marks p ≡ true) state f)

    pub rows_least : (t : Mode) → live t → (q : ℕ) → q < m.states → (n : ℕ) → Go m list N (config u q v t) n → at (rows t) q ≤ n
    rows_least t l q lt n g = layer_least m list N InRows goal edge g (at (rows t) q) (record { mode = t; lives = l; state = q; below = lt; config_is = refl; number_is = refl })

-- The three kinds of layers

first_letter : {x y : ℕ} {u v : List ℕ} → x ∷ u ≡ y ∷ v → (x ≡ y) × (u ≡ v)
first_letter e = (ap head_of' e, ap tail_of' e)
  where
    head_of' : List ℕ → ℕ
    head_of' [] = 0
    head_of' (x ∷ u) = x

    tail_of' : List ℕ → List ℕ
    tail_of' [] = []
    tail_of' (x ∷ u) = u

module _ (m : Machine) (list : List ℕ) (r : Rules m list) (N : ℕ → ℕ) where
  pub emptying_best : (x : ℕ) (u v next row : List ℕ) → RowBest m list N u v Emptying next → RowReal m list N (x ∷ u) (x ∷ v) Emptying row
      → (0 < x → Bounded m list (λ q. q < m.states) Emptying x row next) → Bounded m list (λ q. q < m.states) Emptying 0 row row
      → RowBest m list N (x ∷ u) (x ∷ v) Emptying row
  emptying_best x u v next row best real exits silents q lt =
      record { realised = real q lt; least = rows_least m list r N (x ∷ u) (x ∷ v) (λ t. row) (λ t. t ≡ Emptying) unlowered Emptying refl q lt }
    where
      left : (x' : ℕ) (u' v' : List ℕ) → x ∷ u ≡ suc x' ∷ u' → x ∷ v ≡ suc x' ∷ v' → (k : ℕ) → Leads m list Emptying (suc x') k → (n : ℕ)
          → Go m list N (config u' (transition_at list k).to v' Emptying) n → at row (transition_at list k).from ≤ suc n
      left x' u' v' e f k leads n g =
          let x_is : x ≡ suc x' = (first_letter e).0 in
          let bound : at row (transition_at list k).from ≤ suc (at next (transition_at list k).to) = exits (omega arith) k (subst (λ (y : ℕ). Leads m list Emptying y k) (sym x_is) leads) (r.from_below k leads.listed) in
          let u_is : u ≡ u' = (first_letter e).1 in
          let v_is : v ≡ v' = (first_letter f).1 in
          let g' : Go m list N (config u (transition_at list k).to v Emptying) n = rw (u_is, v_is) g in
          let b = (best (transition_at list k).to (r.to_below k leads.listed)).least n g' in
          omega arith

      unlowered : Unlowered m list r N (x ∷ u) (x ∷ v) (λ t. row) (λ t. t ≡ Emptying)
      unlowered =
          record {
            silents = λ t l. subst (λ (s : Mode). Bounded m list (λ q. s ≡ Normal → Near N (x ∷ u) q) s 0 row row) (sym l) (λ k leads i. silents k leads (r.from_below k leads.listed));
            goals = λ l. let z : ◌≡◌ {A = ℕ} 0 1 = cc in absurd (omega arith);
            normals = λ l. let z : ◌≡◌ {A = ℕ} 0 1 = cc in absurd (omega arith);
            buffers = λ l. let z : ◌≡◌ {A = ℕ} 0 1 = cc in absurd (omega arith);
            empties = λ l. left;
            buffering_begins = λ l. let z : ◌≡◌ {A = ℕ} 0 1 = cc in absurd (omega arith);
            emptying_begins = λ l. let z : ◌≡◌ {A = ℕ} 0 1 = cc in absurd (omega arith);
            normal_again = λ l e. let z : ◌≡◌ {A = ℕ} 0 1 = cc in absurd (omega arith);
          }

  pub buffering_best : (x : ℕ) (u v next emptied row : List ℕ) → x ≡ head_of u → (0 < x → RowBest m list N (tail_of u) (v ++ (x ∷ [])) Buffering next) → RowBest m list N u v Emptying emptied
      → RowReal m list N u v Buffering row → (0 < x → Bounded m list (λ q. q < m.states) Buffering x row next) → ChangeBound (λ q. matching m.marks q ≡ true) row emptied
      → Bounded m list (λ q. q < m.states) Buffering 0 row row → RowBest m list N u v Buffering row
  unfolding head_of tail_of
  buffering_best x u v next emptied row x-head best-next best-emptied real exits marked silents q lt =
      record { realised = real q lt; least = rows_least m list r N u v (λ t. row) (λ t. t ≡ Buffering) unlowered Buffering refl q lt }
    where
      left : (x' : ℕ) (u' : List ℕ) → u ≡ suc x' ∷ u' → (k : ℕ) → Leads m list Buffering (suc x') k → (n : ℕ)
          → Go m list N (config u' (transition_at list k).to (v ++ (suc x' ∷ [])) Buffering) n → at row (transition_at list k).from ≤ suc n
      left x' u' e k leads n g =
          let x_is : x ≡ suc x' = x-head ∙ ap head_of e in
          let bound : at row (transition_at list k).from ≤ suc (at next (transition_at list k).to) = exits (omega arith) k (subst (λ (y : ℕ). Leads m list Buffering y k) (sym x_is) leads) (r.from_below k leads.listed) in
          let u_is : tail_of u ≡ u' = ap tail_of e in
          let g' : Go m list N (config (tail_of u) (transition_at list k).to (v ++ (x ∷ [])) Buffering) n = rw (u_is, x_is) g in
          let b = (best-next (omega arith) (transition_at list k).to (r.to_below k leads.listed)).least n g' in
          omega arith

      change : (p : ℕ) → p < m.states → matching m.marks p ≡ true → (n : ℕ) → Go m list N (config u p v Emptying) n → at row p ≤ suc n
      change p l is n g = let a = marked p is in let b = (best-emptied p l).least n g in omega arith

      unlowered : Unlowered m list r N u v (λ t. row) (λ t. t ≡ Buffering)
      unlowered =
          record {
            silents = λ t l. subst (λ (s : Mode). Bounded m list (λ q. s ≡ Normal → Near N u q) s 0 row row) (sym l) (λ k leads i. silents k leads (r.from_below k leads.listed));
            goals = λ l. let z : ◌≡◌ {A = ℕ} 0 1 = cc in absurd (omega arith);
            normals = λ l. let z : ◌≡◌ {A = ℕ} 0 1 = cc in absurd (omega arith);
            buffers = λ l. left;
            empties = λ l. let z : ◌≡◌ {A = ℕ} 0 1 = cc in absurd (omega arith);
            buffering_begins = λ l. let z : ◌≡◌ {A = ℕ} 0 1 = cc in absurd (omega arith);
            emptying_begins = λ l p lp is n g. inr (change p lp is n g);
            normal_again = λ l e. let z : ◌≡◌ {A = ℕ} 0 1 = cc in absurd (omega arith);
          }

  pick : List ℕ → List ℕ → List ℕ → Mode → List ℕ
  pick n b e Normal = n
  pick n b e Buffering = b
  pick n b e Emptying = e

  pub some_start : (u : List ℕ) (near starts h : ℕ) → Sets m N u near starts h → Begins m N u → 0 < starts
  some_start u near starts h s b = on starts ((s.begins b.state).1 ((s.nears b.state).0 b.kept, b.is))
    where
      on : (x : ℕ) → In x b.state → 0 < x
      on zero i = absurd (empty_in b.state i)
      on (suc x) i = omega arith

  pub position_best : (x : ℕ) (u next-n next-b n b e : List ℕ) (near starts h : ℕ) → Sets m N u near starts h → x ≡ head_of u → (0 < x → RowBest m list N (tail_of u) [] Normal next-n)
      → (Begins m N u → 0 < x → RowBest m list N (tail_of u) (x ∷ []) Buffering next-b)
      → PositionReal m list N u n b e → (u ≡ [] → (q : ℕ) → q < m.states → final m.marks q ≡ true → at n q ≡ 0)
      → (0 < x → Bounded m list (In near) Normal x n next-n) → (0 < starts → 0 < x → Bounded m list (λ q. q < m.states) Buffering x b next-b)
      → Settled m list near starts h n b e → PositionBest m list N u n b e
  unfolding pick head_of tail_of
  position_best x u next-n next-b n b e near starts h sets x-head best-n best-b real goal exits-n exits-b settled =
      record {
        normal = λ q lt. record { realised = real.normal q lt; least = rows_least m list r N u [] (pick n b e) Live unlowered Normal (λ z. never_mode 0 cc) q lt };
        buffering = λ some q lt. record { realised = real.buffering q lt; least = rows_least m list r N u [] (pick n b e) Live unlowered Buffering (λ z. some) q lt };
        emptying = λ q lt. record { realised = real.emptying q lt; least = rows_least m list r N u [] (pick n b e) Live unlowered Emptying (λ z. never_mode 0 cc) q lt };
      }
    where
      Live : Mode → Type 0
      Live t = t ≡ Buffering → Begins m N u

      bounded : (t : Mode) → Live t → Bounded m list (λ q. t ≡ Normal → Near N u q) t 0 (pick n b e t) (pick n b e t)
      bounded Normal l k leads i = settled.in_normal k leads ((sets.nears (transition_at list k).from).0 (i refl))
      bounded Buffering l k leads i = settled.in_buffering (some_start u near starts h sets (l refl)) k leads (r.from_below k leads.listed)
      bounded Emptying l k leads i = settled.in_emptying k leads (r.from_below k leads.listed)

      left_n : (x' : ℕ) (u' : List ℕ) → u ≡ suc x' ∷ u' → (k : ℕ) → Leads m list Normal (suc x') k → Near N u (transition_at list k).from → (i : ℕ)
          → Go m list N (config u' (transition_at list k).to [] Normal) i → at n (transition_at list k).from ≤ suc i
      left_n x' u' f k leads kept i g =
          let x_is : x ≡ suc x' = x-head ∙ ap head_of f in
          let bound : at n (transition_at list k).from ≤ suc (at next-n (transition_at list k).to) = exits-n (omega arith) k (subst (λ (y : ℕ). Leads m list Normal y k) (sym x_is) leads) ((sets.nears (transition_at list k).from).0 kept) in
          let u_is : tail_of u ≡ u' = ap tail_of f in
          let g' : Go m list N (config (tail_of u) (transition_at list k).to [] Normal) i = rw u_is g in
          let c = (best-n (omega arith) (transition_at list k).to (r.to_below k leads.listed)).least i g' in
          omega arith

      left_b : Begins m N u → (x' : ℕ) (u' : List ℕ) → u ≡ suc x' ∷ u' → (k : ℕ) → Leads m list Buffering (suc x') k → (i : ℕ)
          → Go m list N (config u' (transition_at list k).to (suc x' ∷ []) Buffering) i → at b (transition_at list k).from ≤ suc i
      left_b some x' u' f k leads i g =
          let x_is : x ≡ suc x' = x-head ∙ ap head_of f in
          let bound : at b (transition_at list k).from ≤ suc (at next-b (transition_at list k).to) = exits-b (some_start u near starts h sets some) (omega arith) k (subst (λ (y : ℕ). Leads m list Buffering y k) (sym x_is) leads) (r.from_below k leads.listed) in
          let u_is : tail_of u ≡ u' = ap tail_of f in
          let g' : Go m list N (config (tail_of u) (transition_at list k).to (x ∷ []) Buffering) i = rw (u_is, x_is) g in
          let c = (best-b some (omega arith) (transition_at list k).to (r.to_below k leads.listed)).least i g' in
          omega arith

      unlowered : Unlowered m list r N u [] (pick n b e) Live
      unlowered =
          record {
            silents = λ t l. bounded t l;
            goals = λ l input stored. goal input;
            normals = λ l. left_n;
            buffers = λ l. left_b (l refl);
            empties = λ l x' u' v' f g. let z : ◌≡◌ {A = ℕ} 0 1 = cc in absurd (omega arith);
            buffering_begins = λ l q kept is i g. inl (refl, (λ z. record { state = q; kept = kept; is = is }), settled.begin_buffering q ((sets.begins q).1 ((sets.nears q).0 kept, is)));
            emptying_begins = λ l q lt is i g. inl ((λ z. never_mode 0 cc), settled.begin_emptying (some_start u near starts h sets (l refl)) q ((sets.matches q).1 is));
            normal_again = λ l z q is i g. inl ((λ z. never_mode 0 cc), settled.back_to_normal q ((sets.matches q).1 is));
          }

-- Blank rows

pub blank_at : (q : ℕ) → q < 64 → at blank_row q ≡ none
unfolding blank_row
blank_at q l = get_or-replicate 64 q none 0 l

pub blank_size : length blank_row ≡ 64
unfolding blank_row
blank_size = length-replicate 64 none

blank_most : (q : ℕ) → at blank_row q ≤ none
blank_most q = on (dec_lt q 64)
  where
    on : Dec (q < 64) → at blank_row q ≤ none
    on (yes l) = let e = blank_at q l in omega arith
    on (no l) = let s = blank_size in let e = get_or-eq_default blank_row 0 {n = q} (omega arith) in omega arith

module _ (m : Machine) (list : List ℕ) (r : Rules m list) where
  pub blank_none : NoneBelow m.states blank_row
  blank_none q l = let e = blank_at q (omega (arith, r.states_fit)) in omega arith

  -- a row that says none where the blank row does is as good
  pub none_best : (N : ℕ → ℕ) (u v : List ℕ) (t : Mode) (row : List ℕ) → NoneBelow m.states row → RowBest m list N u v t row → RowBest m list N u v t blank_row
  none_best N u v t row h best q lt =
      let z = blank_at q (omega (arith, r.states_fit)) in
      record { realised = λ l. absurd (omega arith); least = λ n g. omega (arith, h q lt, (best q lt).least n g) }

  pub blank_real : (N : ℕ → ℕ) (u v : List ℕ) (t : Mode) → RowReal m list N u v t blank_row
  blank_real N u v t q lt l = let z = blank_none q lt in absurd (omega arith)

  pub blank_bounded : (S : ℕ → Type 0) (t : Mode) (x : ℕ) (next : List ℕ) → NoneBelow m.states next → Bounded m list S t x blank_row next
  blank_bounded S t x next h k l i = omega (arith, blank_most (transition_at list k).from, h (transition_at list k).to (r.to_below k l.listed))

  pub blank_marked : (S : ℕ → Type 0) → ((q : ℕ) → S q → q < m.states) → (next : List ℕ) → NoneBelow m.states next → ChangeBound S blank_row next
  blank_marked S below next h q i = omega (arith, blank_most q, h q (below q i))

  -- where the rows after it say none, so does a layer
  pub blank_emptying : (x : ℕ) → EmptyingLayer m list x blank_row blank_row
  blank_emptying x =
      record {
        best = λ N u v best. emptying_best m list r N x u v blank_row blank_row best (blank_real N (x ∷ u) (x ∷ v) Emptying) (λ l. blank_bounded (λ q. q < m.states) Emptying x blank_row blank_none)
            (blank_bounded (λ q. q < m.states) Emptying 0 blank_row blank_none);
      }

  pub blank_buffering : (x : ℕ) → BufferingLayer m list x blank_row blank_row blank_row
  blank_buffering x =
      record {
        best = λ N u v head best-next best. buffering_best m list r N x u v blank_row blank_row blank_row head best-next best (blank_real N u v Buffering)
            (λ l. blank_bounded (λ q. q < m.states) Buffering x blank_row blank_none)
            (blank_marked (λ q. matching m.marks q ≡ true) (matching_below m list r) blank_row blank_none) (blank_bounded (λ q. q < m.states) Buffering 0 blank_row blank_none);
      }

  -- where no state is kept in normal mode, and the input is not empty
  pub blank_position : (h : ℕ) → ((q : ℕ) → In h q ↔ (matching m.marks q ≡ true)) → (near : ℕ) → near ≡ 0 → (x : ℕ) (next-n next-b : List ℕ) → PositionLayer m list near false x next-n next-b blank_row blank_row blank_row
  blank_position h matches near z x next-n next-b =
      record {
        best = λ N u nears iff head best-n best-b. position_best m list r N x u next-n next-b blank_row blank_row blank_row near 0 h
            (record { nears = nears; begins = λ q. (λ i. absurd (empty_in q i), λ i. absurd (nothing q i.0)); matches = matches }) head best-n best-b
            (record { normal = blank_real N u [] Normal; buffering = blank_real N u [] Buffering; emptying = blank_real N u [] Emptying })
            (λ e. absurd (false≢true (iff.1 e))) (λ l k leads i. absurd (nothing (transition_at list k).from i)) (λ (l : 0 < 0). absurd (omega arith))
            (record {
              in_normal = λ k leads i. absurd (nothing (transition_at list k).from i);
              in_buffering = λ (l : 0 < 0). absurd (omega arith);
              in_emptying = blank_bounded (λ q. q < m.states) Emptying 0 blank_row blank_none;
              begin_buffering = λ q i. absurd (empty_in q i);
              begin_emptying = λ (l : 0 < 0). absurd (omega arith);
              back_to_normal = blank_marked (In h) (λ q i. matching_below m list r q ((matches q).0 i)) blank_row blank_none;
            });
      }
    where
      nothing : (q : ℕ) → In near q → ⊥
      nothing q i = empty_in q (subst (λ (n : ℕ). In n q) z i)
