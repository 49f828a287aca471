-- The ways through the functions of src/layer.rt.
--
-- blank_is                     == a blank row
-- seed_start, seed_joined, first_last, first_not == the row of the end of the word
-- closed_buffering, closed_emptying == the rows of these modes, closed along the transitions from all states
-- emptying_made, emptying_none, buffering_made, buffering_none == the layers, and where no number fell
-- round_made                   == one round over a position
-- lower_then                   == rounds one after the other
-- shut_made                    == a position where no copy begins
-- none_storing, all_storing    == the returns of storing_states
-- position_made, end_made         == the rows of a position, and of the end
use Prim.Native.Nat.{ℕ, zero, suc, ◌+◌, ◌≤◌, ◌<◌}
use mathlib.Core.Path.{◌≡◌, refl, sym, ap, ◌∙◌, subst}
use mathlib.Core.Logic.{◌⊎◌, inl, inr, ◌↔◌}
use mathlib.Core.Bool.{false≢true, Bool, true, false, cond, ◌||◌}
use mathlib.Core.List.{List, [], ◌∷◌, ◌++◌}
use native.Mathlib.Omega.{arith}
use native.Mathlib.Decide.{ℕ_discrete, dec_lt}
use lib.ListN.{set, replicate, length-set}
use lib.Count.{count_trailing_zeros}
use lib.Seq.{get_or-set_same, get_or-set_other}
use Rattle.basics.specs.Search.Laws.{not_both, true_or_false, or_true, or_false}
use Rattle.graphs.specs.Paths.{here}
use Rattle.stateset.specs.Set.{width, In, SetIs, below}
use Rattle.stateset.specs.Set.Laws.{empty_in, lowest_in, below_is}
use Rattle.fsbm.specs.Machine.{transition_at, final}
use Rattle.fsbm.specs.Published.{config, begins_buffering, begins_emptying, returns_to_normal}
use Rattle.fsbm.specs.declared.machine.Machine.{Machine}
use Rattle.fsbm.specs.declared.config.Mode.{Mode}
use Rattle.fsbm.specs.declared.config.Mode.TheVariants.{Normal, Buffering, Emptying}
use Rattle.fsbm.specs.Rules.{Rules, rules, matching_below}
use Rattle.layers.specs.Costs.{none, Near, Go, at, Leads, RowReal, RowBest, Bounded, ChangeBound}
use Rattle.layers.specs.Costs.Laws.{normal_yields, buffer_yields, empty_yields}
use Rattle.layers.specs.Rows.{Given, weight, Lowering, Reads, Beside, Within, Closed}
use Rattle.layers.specs.Rows.Laws.{through_bounded, through_real, reads_through, reads_none, reads_same, beside_marked, beside_real, emptying_from}
use Rattle.layers.specs.Layers.{head_of, tail_of, blank_row, Seeded, FirstRow, EmptyingLayer, BufferingLayer, Begins, Sets, Storing, PositionReal, PositionBest, Settled, LowerPlace, Round, ClosedPlace, PositionLayer}
use Rattle.layers.specs.Layers.Laws.{emptying_best, buffering_best, position_best, blank_at, blank_size, blank_none, blank_real, blank_bounded}

pub blank_is : replicate 64 none ≡ blank_row
unfolding blank_row
blank_is = refl

pub seed_start : (m : Machine) (row : List ℕ) → row ≡ blank_row → Seeded m 0 row
seed_start m row e = rw e (record { size = blank_size; done = λ (q : ℕ) (l : q < 0). absurd (omega arith); rest = λ q a l. blank_at q l })

module _ (m : Machine) (k : ℕ) (row : List ℕ) (l : k < 64) (s : Seeded m k row) (b : Bool) (is : b ≡ final m.marks k) where
  pub seed_final : b ≡ true → Seeded m (k + 1) (set row k 0)
  seed_final t =
      record {
        size = length-set row k 0 ∙ s.size;
        done = λ q h. done q h (ℕ_discrete q k);
        rest = λ q (g : k + 1 ≤ q) h. get_or-set_other row k q 0 0 (λ (e : q ≡ k). absurd (omega arith)) ∙ s.rest q (omega arith) h;
      }
    where
      done : (q : ℕ) → q < k + 1 → Dec (q ≡ k) → at (set row k 0) q ≡ cond (final m.marks q) 0 none
      done q h (yes e) =
          ap (at (set row k 0)) e ∙ get_or-set_same row k 0 0 (omega (arith, s.size)) ∙ ap (λ (z : Bool). cond z 0 none) (sym (sym is ∙ t)) ∙ ap (λ (p : ℕ). cond (final m.marks p) 0 none) (sym e)
      done q h (no n) = get_or-set_other row k q 0 0 n ∙ s.done q (omega arith)

  pub seed_other : b ≡ false → Seeded m (k + 1) row
  seed_other f =
      record {
        size = s.size;
        done = λ q h. done q h (ℕ_discrete q k);
        rest = λ q g h. s.rest q (omega arith) h;
      }
    where
      done : (q : ℕ) → q < k + 1 → Dec (q ≡ k) → at row q ≡ cond (final m.marks q) 0 none
      done q h (yes e) =
          ap (at row) e ∙ s.rest k (omega arith) l ∙ ap (λ (z : Bool). cond z 0 none) (sym (sym is ∙ f)) ∙ ap (λ (p : ℕ). cond (final m.marks p) 0 none) (sym e)
      done q h (no n) = s.done q (omega arith)

pub seed_joined : (m : Machine) (k : ℕ) (row : List ℕ) → k < 64 → Seeded m k row → (b : Bool) → b ≡ final m.marks k
    → (b ≡ true → (row' : List ℕ) → row' ≡ set row k 0 → Seeded m (k + 1) row') × (b ≡ false → (row' : List ℕ) → row' ≡ row → Seeded m (k + 1) row')
seed_joined m k row l s b is = (λ t row' e. subst (Seeded m (k + 1)) (sym e) (seed_final m k row l s b is t), λ f row' e. subst (Seeded m (k + 1)) (sym e) (seed_other m k row l s b is f))

pub first_last : (m : Machine) (last : Bool) (row : List ℕ) → last ≡ true → Seeded m m.states row → FirstRow m last row
first_last m last row t s = record { at_end = λ h. s; before = λ h. absurd (not_both t h) }

pub first_not : (m : Machine) (last : Bool) (row : List ℕ) → last ≡ false → row ≡ blank_row → FirstRow m last row
first_not m last row f e = record { at_end = λ h. absurd (not_both h f); before = λ h. e }

pub none_storing : (starts n : ℕ) → starts ≡ 0 → Storing starts n 0
none_storing starts n z = record { inside = λ q i. absurd (empty_in q i); all = λ l. absurd (omega arith) }

pub all_storing : (starts n r : ℕ) {v : ℕ} → (starts ≡ 0 → ⊥) → SetIs r v (λ p. (p < n) × (p < width)) → Storing starts n r
all_storing starts n r some s = record { inside = λ q i. (((s.members q).0 i).0, omega arith); all = λ l q a b. (s.members q).1 (a, b) }

-- where a number fell, nothing is said of a blank row
pub lives : {A B : Type 0} → A → A × (true ≡ false → B)
lives a = (a, λ h. absurd (false≢true (sym h)))

bounded_lower : {m : Machine} {list : List ℕ} {t : Mode} {x : ℕ} (S : ℕ → Type 0) (row row' next : List ℕ) → ((q : ℕ) → at row' q ≤ at row q) → Bounded m list S t x row next → Bounded m list S t x row' next
bounded_lower {list = list} S row row' next down h k l i = omega (arith, down (transition_at list k).from, h k l i)

marked_lower : {S : ℕ → Type 0} (row row' next : List ℕ) → ((q : ℕ) → at row' q ≤ at row q) → ChangeBound S row next → ChangeBound S row' next
marked_lower row row' next down h q is = omega (arith, down q, h q is)

-- closed along the transitions from some states, where those from all are among them
closed_all : (m : Machine) (list : List ℕ) (S S' : ℕ → Type 0) (t : Mode) (row row' : List ℕ) → (t ≡ Normal → ⊥) → ((k : ℕ) → Leads m list t 0 k → S (transition_at list k).from) → Closed m list S t row row' → Closed m list S' t row row'
closed_all m list S S' t row row' other from f =
    record { real = λ N u v z kept. f.real N u v z (λ n. absurd (other n)); bounded = λ k l i. f.bounded k l (from k l); lower = f.lower; fewer = f.fewer }

module _ (m : Machine) (list targets : List ℕ) (g h : ℕ) (given : Given m list targets g h) where
  r : Rules m list
  r = rules m list given.good

  pub matching_inside : (q : ℕ) → In h q → q < m.states
  matching_inside q i = matching_below m list r q ((given.matchings q).0 i)

  pub closed_buffering : (all : ℕ) {v : ℕ} → SetIs all v (λ p. (p < m.states) × (p < width)) → (row row' : List ℕ) → Closed m list (In all) Buffering row row' → Closed m list (λ q. q < m.states) Buffering row row'
  closed_buffering all s row row' =
      closed_all m list (In all) (λ q. q < m.states) Buffering row row' (λ e. let z : ◌≡◌ {A = ℕ} 0 1 = cc in absurd (omega arith))
      (λ k l. (s.members (transition_at list k).from).1 (r.from_below k l.listed, omega (arith, r.from_below k l.listed, r.states_fit)))

  pub closed_emptying : (row row' : List ℕ) → Closed m list (In h) Emptying row row' → Closed m list (λ q. q < m.states) Emptying row row'
  closed_emptying row row' =
      closed_all m list (In h) (λ q. q < m.states) Emptying row row' (λ e. let z : ◌≡◌ {A = ℕ} 0 1 = cc in absurd (omega arith)) (λ k l. emptying_from m list targets g h given l)

  -- a blank row stays blank
  blank_closed : (t : Mode) (row : List ℕ) → row ≡ blank_row → Closed m list (λ q. q < m.states) t row row
  blank_closed t row e =
      subst (λ (s : List ℕ). Closed m list (λ q. q < m.states) t s s) (sym e)
      (record { real = λ N u v z kept real. real; bounded = blank_bounded m list r (λ q. q < m.states) t 0 blank_row (blank_none m list r); lower = λ q. omega arith; fewer = omega arith })

  start_real : (N : ℕ → ℕ) (u v : List ℕ) (t : Mode) (row : List ℕ) → row ≡ blank_row → RowReal m list N u v t row
  start_real N u v t row e = subst (RowReal m list N u v t) (sym e) (blank_real m list r N u v t)

  -- along a letter

  read_bounded : (S : ℕ → Type 0) (set : ℕ) (t : Mode) (x : ℕ) (next row row₁ row₂ : List ℕ) (b : Bool) → Lowering (Within (Reads m list t x next) set) row row₁ b → ((q : ℕ) → at row₂ q ≤ at row₁ q)
      → ((k : ℕ) → Leads m list t x k → S (transition_at list k).from → In set (transition_at list k).from) → 0 < x → Bounded m list S t x row₂ next
  read_bounded S set t x next row row₁ row₂ b f down inside pos =
      bounded_lower S row₁ row₂ next down (λ k l i. through_bounded (reads_through pos f) k l (inside k l i))

  empty_real : (N : ℕ → ℕ) (set x : ℕ) (u v next row row₁ : List ℕ) (b : Bool) → RowBest m list N u v Emptying next → Lowering (Within (Reads m list Emptying x next) set) row row₁ b
      → RowReal m list N (x ∷ u) (x ∷ v) Emptying row → RowReal m list N (x ∷ u) (x ∷ v) Emptying row₁
  empty_real N set zero u v next row row₁ b best f real = λ q lt l. let e = reads_same refl f q in rw e (real q lt (omega arith))
  empty_real N set (suc x) u v next row row₁ b best f real =
      through_real (λ q. config (suc x ∷ u) q (suc x ∷ v) Emptying) (λ q. config u q v Emptying) (λ k l. (r.to_below k l.listed, empty_yields m list u v l))
      (λ q i n. let z : ◌≡◌ {A = ℕ} 0 1 = cc in absurd (omega arith)) (λ q lt. (best q lt).realised) real (reads_through (omega arith) f)

  buffer_real : (N : ℕ → ℕ) (set x : ℕ) (u v next row row₁ : List ℕ) (b : Bool) → x ≡ head_of u → (0 < x → RowBest m list N (tail_of u) (v ++ (x ∷ [])) Buffering next)
      → Lowering (Within (Reads m list Buffering x next) set) row row₁ b → RowReal m list N u v Buffering row → RowReal m list N u v Buffering row₁
  unfolding head_of tail_of
  buffer_real N set zero u v next row row₁ b head best f real = λ q lt l. let e = reads_same refl f q in rw e (real q lt (omega arith))
  buffer_real N set (suc x) [] v next row row₁ b head best f real = absurd (omega arith)
  buffer_real N set (suc x) (y ∷ u) v next row row₁ b head best f real =
      subst (λ (a : ℕ). RowReal m list N (a ∷ u) v Buffering row₁) head
      (through_real (λ q. config (suc x ∷ u) q v Buffering) (λ q. config u q (v ++ (suc x ∷ [])) Buffering) (λ k l. (r.to_below k l.listed, buffer_yields m list u v l))
      (λ q i n. let z : ◌≡◌ {A = ℕ} 0 1 = cc in absurd (omega arith)) (λ q lt. (best (omega arith) q lt).realised)
      (subst (λ (a : ℕ). RowReal m list N (a ∷ u) v Buffering row) (sym head) real) (reads_through (omega arith) f))

  normal_real : (N : ℕ → ℕ) (set x : ℕ) (u next row row₁ : List ℕ) (b : Bool) → ((q : ℕ) → In set q → Near N u q) → x ≡ head_of u → (0 < x → RowBest m list N (tail_of u) [] Normal next)
      → Lowering (Within (Reads m list Normal x next) set) row row₁ b → RowReal m list N u [] Normal row → RowReal m list N u [] Normal row₁
  unfolding head_of tail_of
  normal_real N set zero u next row row₁ b near head best f real = λ q lt l. let e = reads_same refl f q in rw e (real q lt (omega arith))
  normal_real N set (suc x) [] next row row₁ b near head best f real = absurd (omega arith)
  normal_real N set (suc x) (y ∷ u) next row row₁ b near head best f real =
      subst (λ (a : ℕ). RowReal m list N (a ∷ u) [] Normal row₁) head
      (through_real (λ q. config (suc x ∷ u) q [] Normal) (λ q. config u q [] Normal) (λ k l. (r.to_below k l.listed, normal_yields m list u l))
      (λ q i n. near q i) (λ q lt. (best (omega arith) q lt).realised)
      (subst (λ (a : ℕ). RowReal m list N (a ∷ u) [] Normal row) (sym head) real) (reads_through (omega arith) f))

  -- The layer of emptying mode

  module _ (x : ℕ) (next row₀ row₁ : List ℕ) (blank : row₀ ≡ blank_row) (b : Bool) (p : Lowering (Within (Reads m list Emptying x next) h) row₀ row₁ b) where
    pub emptying_made : (row : List ℕ) → Closed m list (λ q. q < m.states) Emptying row₁ row → EmptyingLayer m list x next row
    emptying_made row f =
        record {
          best = λ N u v best. emptying_best m list r N x u v next row best
              (f.real N (x ∷ u) (x ∷ v) (λ c. let d : ◌≡◌ {A = ℕ} 0 1 = cc in absurd (omega arith)) (λ c. let d : ◌≡◌ {A = ℕ} 0 1 = cc in absurd (omega arith))
              (empty_real N h x u v next row₀ row₁ b best p (start_real N (x ∷ u) (x ∷ v) Emptying row₀ blank)))
              (read_bounded (λ q. q < m.states) h Emptying x next row₀ row₁ row b p f.lower (λ k l i. emptying_from m list targets g h given l)) f.bounded;
        }

    pub emptying_none : b ≡ false → EmptyingLayer m list x next row₁ × (false ≡ false → row₁ ≡ blank_row)
    emptying_none none_fell = let e : row₁ ≡ blank_row = p.same none_fell ∙ blank in (emptying_made row₁ (blank_closed Emptying row₁ e), λ z. e)

  -- The layer of buffering mode

  module _ (x : ℕ) (next emptied row₀ row₁ row₂ : List ℕ) (blank : row₀ ≡ blank_row) (b c : Bool) (all : ℕ) {w : ℕ} (every : SetIs all w (λ p. (p < m.states) × (p < width)))
      (e : Lowering (Within (Beside emptied) h) row₀ row₁ b) (p : Lowering (Within (Reads m list Buffering x next) all) row₁ row₂ c) where
    pub buffering_made : (row : List ℕ) → Closed m list (λ q. q < m.states) Buffering row₂ row → BufferingLayer m list x next emptied row
    buffering_made row f =
        record {
          best = λ N u v head best-next best. buffering_best m list r N x u v next emptied row head best-next best
              (f.real N u v (λ c. let d : ◌≡◌ {A = ℕ} 0 1 = cc in absurd (omega arith)) (λ c. let d : ◌≡◌ {A = ℕ} 0 1 = cc in absurd (omega arith))
              (buffer_real N all x u v next row₁ row₂ c head best-next p
              (beside_real (λ q. config u q v Buffering) (λ q. config u q v Emptying) (λ q i. begins_emptying ((given.matchings q).0 i)) (λ q i n. let z : ◌≡◌ {A = ℕ} 0 1 = cc in absurd (omega arith))
              (λ q lt. (best q lt).realised) (start_real N u v Buffering row₀ blank) e)))
              (read_bounded (λ q. q < m.states) all Buffering x next row₁ row₂ row c p f.lower (λ k l i. (every.members (transition_at list k).from).1 (i, omega (arith, i, r.states_fit))))
              (λ q is. omega (arith, f.lower q, p.lower q, beside_marked e q ((given.matchings q).1 is))) f.bounded;
        }

    pub buffering_none : b ≡ false → c ≡ false → BufferingLayer m list x next emptied row₂ × (false ≡ false → row₂ ≡ blank_row)
    buffering_none nb nc = let z : row₂ ≡ blank_row = p.same nc ∙ e.same nb ∙ blank in (buffering_made row₂ (blank_closed Buffering row₂ z), λ y. z)

  -- Rounds

  module _ (near starts : ℕ) (n b e n₁ b₁ e₁ n₂ b₂ e₂ : List ℕ) (x y z : Bool) (fn : Closed m list (In near) Normal n n₁) (fb : Closed m list (λ q. q < m.states) Buffering b b₁)
      (fe : Closed m list (λ q. q < m.states) Emptying e e₁) (gn : Lowering (Within (Beside b₁) starts) n₁ n₂ x) (gb : Lowering (Within (Beside e₁) h) b₁ b₂ y) (ge : Lowering (Within (Beside n₂) h) e₁ e₂ z) where
    round_real : (N : ℕ → ℕ) (u : List ℕ) → Sets m N u near starts h → PositionReal m list N u n b e → PositionReal m list N u n₂ b₂ e₂
    round_real N u sets real =
        let rn : RowReal m list N u [] Normal n₁ = fn.real N u [] (λ c. refl) (λ c q i. (sets.nears q).1 i) real.normal in
        let rb : RowReal m list N u [] Buffering b₁ = fb.real N u [] (λ c. refl) (λ c. let d : ◌≡◌ {A = ℕ} 0 1 = cc in absurd (omega arith)) real.buffering in
        let re : RowReal m list N u [] Emptying e₁ = fe.real N u [] (λ c. refl) (λ c. let d : ◌≡◌ {A = ℕ} 0 1 = cc in absurd (omega arith)) real.emptying in
        let rn₂ : RowReal m list N u [] Normal n₂ = beside_real (λ q. config u q [] Normal) (λ q. config u q [] Buffering) (λ q i. begins_buffering ((sets.begins q).0 i).1) (λ q i c. (sets.nears q).1 ((sets.begins q).0 i).0) rb rn gn in
        let rb₂ : RowReal m list N u [] Buffering b₂ = beside_real (λ q. config u q [] Buffering) (λ q. config u q [] Emptying) (λ q i. begins_emptying ((sets.matches q).0 i)) (λ q i c. let d : ◌≡◌ {A = ℕ} 0 1 = cc in absurd (omega arith)) re rb gb in
        let re₂ : RowReal m list N u [] Emptying e₂ = beside_real (λ q. config u q [] Emptying) (λ q. config u q [] Normal) (λ q i. returns_to_normal ((sets.matches q).0 i)) (λ q i c. let d : ◌≡◌ {A = ℕ} 0 1 = cc in absurd (omega arith)) rn₂ re ge in
        record { normal = rn₂; buffering = rb₂; emptying = re₂ }

    round_lower : LowerPlace m list near starts h n b e n₂ b₂ e₂
    round_lower =
        record {
          real = round_real;
          normal = λ q. omega (arith, fn.lower q, gn.lower q);
          buffering = λ q. omega (arith, fb.lower q, gb.lower q);
          emptying = λ q. omega (arith, fe.lower q, ge.lower q);
        }

    round_settled : x ≡ false → y ≡ false → z ≡ false → Settled m list near starts h n₂ b₂ e₂
    round_settled ex ey ez =
        let en = sym (gn.same ex) in
        let eb = sym (gb.same ey) in
        let ee = sym (ge.same ez) in
        record {
          in_normal = subst (λ (s : List ℕ). Bounded m list (In near) Normal 0 s s) en fn.bounded;
          in_buffering = λ some. subst (λ (s : List ℕ). Bounded m list (λ q. q < m.states) Buffering 0 s s) eb fb.bounded;
          in_emptying = subst (λ (s : List ℕ). Bounded m list (λ q. q < m.states) Emptying 0 s s) ee fe.bounded;
          begin_buffering = subst (λ (s : List ℕ). ChangeBound (In starts) n₂ s) eb (beside_marked gn);
          begin_emptying = λ some. subst (λ (s : List ℕ). ChangeBound (In h) b₂ s) ee (beside_marked gb);
          back_to_normal = beside_marked ge;
        }

    pub round_made : Round m list near starts h n b e n₂ b₂ e₂ ((x || y) || z)
    round_made =
        record {
          lower = round_lower;
          settled = λ i. let (a, c) = or_false (x || y) z i in let (a, b) = or_false x y a in round_settled a b c;
          less = λ i. on (or_true (x || y) z i);
        }
      where
        first : (x ≡ true) ⊎ (y ≡ true) → weight n₂ + weight b₂ + weight e₂ < weight n + weight b + weight e
        first (inl t) = omega (arith, gn.less t, gb.fewer, ge.fewer, fn.fewer, fb.fewer, fe.fewer)
        first (inr t) = omega (arith, gn.fewer, gb.less t, ge.fewer, fn.fewer, fb.fewer, fe.fewer)

        on : ((x || y) ≡ true) ⊎ (z ≡ true) → weight n₂ + weight b₂ + weight e₂ < weight n + weight b + weight e
        on (inl t) = first (or_true x y t)
        on (inr t) = omega (arith, gn.fewer, gb.fewer, ge.less t, fn.fewer, fb.fewer, fe.fewer)

  module _ (near starts : ℕ) where
    pub lower_then : (n b e n₁ b₁ e₁ n₂ b₂ e₂ : List ℕ) → LowerPlace m list near starts h n b e n₁ b₁ e₁ → LowerPlace m list near starts h n₁ b₁ e₁ n₂ b₂ e₂ → LowerPlace m list near starts h n b e n₂ b₂ e₂
    lower_then n b e n₁ b₁ e₁ n₂ b₂ e₂ f g =
        record {
          real = λ N u sets real. g.real N u sets (f.real N u sets real);
          normal = λ q. omega (arith, f.normal q, g.normal q);
          buffering = λ q. omega (arith, f.buffering q, g.buffering q);
          emptying = λ q. omega (arith, f.emptying q, g.emptying q);
        }

  -- A position where no copy begins

  module _ (near : ℕ) (n e n₁ e₁ e₂ : List ℕ) (z : Bool) (fn : Closed m list (In near) Normal n n₁) (ge : Lowering (Within (Beside n₁) h) e e₁ z)
      (fe : Closed m list (λ q. q < m.states) Emptying e₁ e₂) where
    pub shut_made : (b : List ℕ) → ClosedPlace m list near 0 h n b e n₁ b e₂
    shut_made b =
        record {
          lower = record {
            real = λ N u sets real.
                let rn : RowReal m list N u [] Normal n₁ = fn.real N u [] (λ c. refl) (λ c q i. (sets.nears q).1 i) real.normal in
                let re : RowReal m list N u [] Emptying e₁ = beside_real (λ q. config u q [] Emptying) (λ q. config u q [] Normal) (λ q i. returns_to_normal ((sets.matches q).0 i)) (λ q i c. let d : ◌≡◌ {A = ℕ} 0 1 = cc in absurd (omega arith)) rn real.emptying ge in
                record { normal = rn; buffering = real.buffering; emptying = fe.real N u [] (λ c. refl) (λ c. let d : ◌≡◌ {A = ℕ} 0 1 = cc in absurd (omega arith)) re };
            normal = fn.lower;
            buffering = λ q. omega arith;
            emptying = λ q. omega (arith, fe.lower q, ge.lower q);
          };
          settled = record {
            in_normal = fn.bounded;
            in_buffering = λ (l : 0 < 0). absurd (omega arith);
            in_emptying = fe.bounded;
            begin_buffering = λ q i. absurd (empty_in q i);
            begin_emptying = λ (l : 0 < 0). absurd (omega arith);
            back_to_normal = marked_lower e₁ e₂ n₁ fe.lower (beside_marked ge);
          };
        }

  -- A position

  first_real : (N : ℕ → ℕ) (last : Bool) (row u : List ℕ) → FirstRow m last row → (last ≡ true) ↔ (u ≡ []) → RowReal m list N u [] Normal row
  first_real N true row u f iff q lt l = on (true_or_false (final m.marks q))
    where
      on : (final m.marks q ≡ true) ⊎ (final m.marks q ≡ false) → Go m list N (config u q [] Normal) (at row q)
      on (inl t) =
          let z : at row q ≡ 0 = (f.at_end refl).done q lt ∙ ap (λ (b : Bool). cond b 0 none) t in
          rw (z, iff.0 refl) (record { last = q; last_final = t; path = here })
      on (inr g) = let z : at row q ≡ none = (f.at_end refl).done q lt ∙ ap (λ (b : Bool). cond b 0 none) g in absurd (omega arith)
  first_real N false row u f iff q lt l = start_real N u [] Normal row (f.before refl) q lt l

  first_goal : (last : Bool) (row u : List ℕ) → FirstRow m last row → (last ≡ true) ↔ (u ≡ []) → u ≡ [] → (q : ℕ) → q < m.states → final m.marks q ≡ true → at row q ≡ 0
  first_goal last row u f iff e q lt t = (f.at_end (iff.1 e)).done q lt ∙ ap (λ (b : Bool). cond b 0 none) t

  pub position_made : (near starts all : ℕ) {w : ℕ} (last : Bool) (x : ℕ) (next-n next-b n₀ b₀ e₀ n₁ b₁ n b e : List ℕ) (c d : Bool) → SetIs starts w (λ q. In near q × In g q)
      → Storing starts m.states all → FirstRow m last n₀ → b₀ ≡ blank_row → e₀ ≡ blank_row → Lowering (Within (Reads m list Normal x next-n) near) n₀ n₁ c
      → Lowering (Within (Reads m list Buffering x next-b) all) b₀ b₁ d → ClosedPlace m list near starts h n₁ b₁ e₀ n b e → PositionLayer m list near last x next-n next-b n b e
  position_made near starts all last x next-n next-b n₀ b₀ e₀ n₁ b₁ n b e c d shared every first blank-b blank-e pn pb f =
      record { best = λ N u nears iff head best-n best-b. position N u nears iff head best-n best-b (sets_of N u nears) }
    where
      sets_of : (N : ℕ → ℕ) (u : List ℕ) → ((q : ℕ) → Near N u q ↔ In near q) → Sets m N u near starts h
      sets_of N u nears =
          record {
            nears = nears;
            begins = λ q. (λ i. let z = (shared.members q).0 i in (z.0, (given.bufferings q).0 z.1), λ i. (shared.members q).1 (i.0, (given.bufferings q).1 i.1));
            matches = given.matchings;
          }

      stored : (N : ℕ → ℕ) (u : List ℕ) → ((q : ℕ) → Near N u q ↔ In near q) → x ≡ head_of u → (Begins m N u → 0 < x → RowBest m list N (tail_of u) (x ∷ []) Buffering next-b) → Dec (0 < starts) → RowReal m list N u [] Buffering b₁
      stored N u nears head best-b (yes l) =
          let i = lowest_in width starts l shared.fits in
          let (a, c) = (shared.members (count_trailing_zeros width starts)).0 i in
          buffer_real N all x u [] next-b b₀ b₁ d head (best-b (record { state = count_trailing_zeros width starts; kept = (nears (count_trailing_zeros width starts)).1 a; is = (given.bufferings (count_trailing_zeros width starts)).0 c })) pb
          (start_real N u [] Buffering b₀ blank-b)
      stored N u nears head best-b (no l) = λ q lt k. on q lt k (pb.origin q)
        where
          on : (q : ℕ) → q < m.states → at b₁ q < none → (at b₁ q ≡ at b₀ q) ⊎ Within (Reads m list Buffering x next-b) all q (at b₁ q) → Go m list N (config u q [] Buffering) (at b₁ q)
          on q lt k (inl z) = rw z (start_real N u [] Buffering b₀ blank-b q lt (omega arith))
          on q lt k (inr z) = absurd (l (every.inside q z.inside).1)

      position : (N : ℕ → ℕ) (u : List ℕ) → ((q : ℕ) → Near N u q ↔ In near q) → (last ≡ true) ↔ (u ≡ []) → x ≡ head_of u → (0 < x → RowBest m list N (tail_of u) [] Normal next-n)
          → (Begins m N u → 0 < x → RowBest m list N (tail_of u) (x ∷ []) Buffering next-b) → Sets m N u near starts h → PositionBest m list N u n b e
      position N u nears iff head best-n best-b sets =
          position_best m list r N x u next-n next-b n b e near starts h sets head best-n best-b
          (f.lower.real N u sets (record {
            normal = normal_real N near x u next-n n₀ n₁ c (λ q i. (nears q).1 i) head best-n pn (first_real N last n₀ u first iff);
            buffering = stored N u nears head best-b (dec_lt 0 starts);
            emptying = start_real N u [] Emptying e₀ blank-e;
          }))
          (λ i s lt t. omega (arith, f.lower.normal s, pn.lower s, first_goal last n₀ u first iff i s lt t))
          (read_bounded (In near) near Normal x next-n n₀ n₁ n c pn f.lower.normal (λ k l i. i))
          (λ some. read_bounded (λ q. q < m.states) all Buffering x next-b b₀ b₁ b d pb f.lower.buffering (λ k l i. every.all some (transition_at list k).from i (omega (arith, i, r.states_fit))))
          f.settled

  pub end_made : (near starts : ℕ) {w : ℕ} (n₀ b₀ e₀ n b e : List ℕ) → SetIs starts w (λ q. In near q × In g q) → Seeded m m.states n₀ → b₀ ≡ blank_row → e₀ ≡ blank_row → ClosedPlace m list near starts h n₀ b₀ e₀ n b e
      → (next-n next-b : List ℕ) → PositionLayer m list near true 0 next-n next-b n b e
  end_made near starts n₀ b₀ e₀ n b e shared seeded blank-b blank-e f next-n next-b = on (dec_lt 0 starts)
    where
      made : (all : ℕ) → Storing starts m.states all → PositionLayer m list near true 0 next-n next-b n b e
      made all every = position_made near starts all true 0 next-n next-b n₀ b₀ e₀ n₀ b₀ n b e false false shared every (first_last m true n₀ refl seeded) blank-b blank-e (reads_none n₀ refl) (reads_none b₀ refl) f

      on : Dec (0 < starts) → PositionLayer m list near true 0 next-n next-b n b e
      on (yes l) = made (below m.states) (all_storing starts m.states (below m.states) (λ (z : starts ≡ 0). absurd (omega arith)) (below_is m.states))
      on (no l) = made 0 (none_storing starts m.states (omega arith))
