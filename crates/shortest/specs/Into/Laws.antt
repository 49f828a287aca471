-- The laws of specs/Into.antt.
--
-- next_here, next_back, next_none == the first number with P, one number further back
-- into_start      == where every link says that there is none, the lists have no transition
-- into_turn       == one transition more
use Rattle.std.specs.Prelude.{ℕ, suc, ◌+◌, ◌≤◌, ◌<◌, ◌≡◌, List, length, get_or, set, replicate}
use Rattle.std.proofs.Common.{sym, ◌∙◌, subst, arith, length-set, get_or-set_same, get_or-set_other}
use Rattle.std.proofs.Math.Decide.{ℕ_discrete}
use Rattle.std.proofs.lemmas.List.{length-replicate, get_or-replicate}
use Rattle.fsbm.specs.Machine.{transition_at}
use Rattle.fsbm.specs.Rules.{Rules}
use Rattle.fsbm.specs.declared.machine.Machine.{Machine}
use Rattle.shortest.specs.Into.{NextLink, Enters, IntoFrom}

module _ {P : ℕ → Type 0} {n : ℕ} where
  next_here : (k : ℕ) → P k → NextLink P n k k
  next_here k p = record { on = omega arith; skipped = λ j a b. absurd (omega arith); found = λ l. p }

  next_back : (k r : ℕ) → (P k → ⊥) → NextLink P n (k + 1) r → NextLink P n k r
  next_back k r never h = record { on = omega (arith, h.on); skipped = λ j a b l p. before j a b l p (ℕ_discrete j k); found = h.found }
    where
      before : (j : ℕ) → k ≤ j → j < r → j < n → P j → Dec (j ≡ k) → ⊥
      before j a b l p (yes e) = never (subst P e p)
      before j a b l p (no d) = h.skipped j (omega arith) b l p

  next_none : (k r : ℕ) → n ≤ k → k ≤ r → NextLink P n k r
  next_none k r a b = record { on = b; skipped = λ j c d l p. absurd (omega arith); found = λ l. absurd (omega arith) }

module _ (m : Machine) (list : List ℕ) (t : Rules m list) where
  pub into_start : IntoFrom m.transitions list m.transitions (replicate {A = ℕ} 4064 65535)
  into_start =
      record {
        size = length-replicate {A = ℕ} 4064 65535;
        first = λ q l. next_none m.transitions _ (omega arith) (let e = get_or-replicate {A = ℕ} 4064 q 65535 0 (omega arith) in let h = t.transitions_fit in omega arith);
        link = λ j a b. absurd (omega arith);
      }

  module _ (links : List ℕ) (k' k : ℕ) (is : suc k' ≡ k) (inside : k ≤ m.transitions) (i : IntoFrom m.transitions list k links) where
    abbrev q : ℕ
    q = (transition_at list k').to

    abbrev once : List ℕ
    once = set links (64 + k') (get_or links q 0)

    abbrev pub entered : List ℕ
    entered = set once q k'

    here_below : q < 64
    here_below = let h = t.to_below k' (omega arith) in let s = t.states_fit in omega arith

    once_size : length once ≡ 4064
    once_size = length-set links (64 + k') (get_or links q 0) ∙ i.size

    pub into_turn : IntoFrom m.transitions list k' entered
    into_turn =
        record {
          size = length-set once q k' ∙ once_size;
          first = λ p l. first p l (ℕ_discrete p q);
          link = λ j a b. link j a b (ℕ_discrete j k');
        }
      where
        first : (p : ℕ) → p < 64 → Dec (p ≡ q) → NextLink (Enters list p) m.transitions k' (get_or entered p 0)
        first p l (yes e) =
            subst (λ (z : ℕ). NextLink (Enters list p) m.transitions k' (get_or entered z 0)) (sym e)
            (subst (λ (z : ℕ). NextLink (Enters list p) m.transitions k' z) (sym (get_or-set_same once q k' 0 (let h = here_below in let s = once_size in omega arith))) (next_here k' (sym e)))
        first p l (no d) =
            subst (λ (z : ℕ). NextLink (Enters list p) m.transitions k' z)
            (sym (get_or-set_other once q p k' 0 d ∙ get_or-set_other links (64 + k') p (get_or links q 0) 0 (λ (e : p ≡ 64 + k'). omega arith)))
            (next_back k' (get_or links p 0) (λ e. d (sym e)) (subst (λ (z : ℕ). NextLink (Enters list p) m.transitions z (get_or links p 0)) (omega arith) (i.first p l)))

        link : (j : ℕ) → k' ≤ j → j < m.transitions → Dec (j ≡ k') → NextLink (Enters list (transition_at list j).to) m.transitions (j + 1) (get_or entered (64 + j) 0)
        link j a b (yes e) =
            subst (λ (z : ℕ). NextLink (Enters list (transition_at list z).to) m.transitions (z + 1) (get_or entered (64 + z) 0)) (sym e)
            (subst (λ (z : ℕ). NextLink (Enters list q) m.transitions (k' + 1) z)
            (sym (get_or-set_other once q (64 + k') k' 0 (λ (z : 64 + k' ≡ q). let h = here_below in omega arith)
            ∙ get_or-set_same links (64 + k') (get_or links q 0) 0 (let s = i.size in let h = t.transitions_fit in omega arith)))
            (subst (λ (z : ℕ). NextLink (Enters list q) m.transitions z (get_or links q 0)) (omega arith) (i.first q here_below)))
        link j a b (no d) =
            subst (λ (z : ℕ). NextLink (Enters list (transition_at list j).to) m.transitions (j + 1) z)
            (sym (get_or-set_other once q (64 + j) k' 0 (λ (z : 64 + j ≡ q). let h = here_below in omega arith)
            ∙ get_or-set_other links (64 + k') (64 + j) (get_or links q 0) 0 (λ (z : 64 + j ≡ 64 + k'). d (omega arith))))
            (i.link j (omega arith) b)
