-- The finders of src/find.rt case by case, over plain variables.
--
-- back_storing, back_matching, back_none, back_both == the ways through back
-- letter_none, letter_matching, letter_buffering, letter_finds == the ways through letter_fits
use Prim.Native.Nat.{ℕ, ◌<◌}
use mathlib.Core.Path.{◌≡◌, sym, ap, ◌∙◌, subst}
use mathlib.Core.Bool.{true, false, false≢true, true≢false}
use mathlib.Core.List.{List}
use Rattle.std.specs.Prelude.{Option}
use Rattle.std.specs.Option.{is_some}
use Rattle.std.proofs.Common.{Some, None}
use Rattle.fsbm.specs.Machine.{transition_at, buffering, both_matching}
use Rattle.fsbm.specs.declared.machine.Transition.{Transition}
use Rattle.pieces.specs.Blocks.{cell}
use Rattle.basics.specs.Search.Laws.{not_both}
use Rattle.fsbm.specs.declared.machine.Machine.{Machine}
use Rattle.shortest.specs.Find.{Finds, Tried, pair_unit, StoreFits, MatchFits, LetterStep, LetterFits, Backs, by_storing, by_matching, by_both, by_none}

-- The ways through letter_fits

untrue : {Q : Type 0} → (Q → ⊥) → Tried Q false
untrue never = record { good = λ h. absurd (false≢true h); bad = λ h q. never q }

module _ (m : Machine) (list b : List ℕ) (t want k : ℕ) (u : Transition) (is : u ≡ transition_at list k) where
  pub letter_none : u.letter ≡ 0 → Tried (LetterStep m list b t want k) false
  letter_none h = untrue (λ s. s.storing.letter (ap (λ (z : Transition). z.letter) (sym is) ∙ h))

  pub letter_matching : both_matching m.marks u ≡ true → Tried (LetterStep m list b t want k) false
  letter_matching h = untrue (λ s. not_both (ap (both_matching m.marks) (sym is) ∙ h) s.storing.apart)

  pub letter_buffering : buffering m.marks u.to ≡ true → Tried (LetterStep m list b t want k) false
  letter_buffering h = untrue (λ s. not_both (ap (λ (z : Transition). buffering m.marks z.to) (sym is) ∙ h) s.storing.free)

  pub letter_finds : (u.letter ≡ 0 → ⊥) → both_matching m.marks u ≡ false → buffering m.marks u.to ≡ false → (j : Option ℕ) → Finds m.transitions (MatchFits m list b u.from t u.letter pair_unit want) j
      → Tried (LetterStep m list b t want k) (is_some j)
  letter_finds some apart free j f = at j (subst (λ (z : Transition). Finds m.transitions (MatchFits m list b z.from t z.letter pair_unit want) j) is f)
    where
      at : (j : Option ℕ) → Finds m.transitions (MatchFits m list b (transition_at list k).from t (transition_at list k).letter pair_unit want) j → Tried (LetterStep m list b t want k) (is_some j)
      at None none = untrue (λ s. none s.partner s.partner_below s.partner_fits)
      at (Some j) there =
          record {
            good = λ z. record {
              storing = record {
                letter = λ e. some (ap (λ (z : Transition). z.letter) is ∙ e);
                apart = ap (both_matching m.marks) (sym is) ∙ apart;
                free = ap (λ (z : Transition). buffering m.marks z.to) (sym is) ∙ free;
              };
              partner = j;
              partner_below = there.0;
              partner_fits = there.1;
            };
            bad = λ h. absurd (true≢false h);
          }

-- The ways through back

module _ (m : Machine) (list b : List ℕ) (s t want : ℕ) (is : want ≡ cell b s t) where
  pub back_storing : (k : Option ℕ) → Finds m.transitions (StoreFits m list b s t want) k → is_some k ≡ true → Backs m list b s t k None
  back_storing None f h = absurd (false≢true h)
  back_storing (Some k) f h = by_storing f.0 (subst (λ (v : ℕ). StoreFits m list b s t v k) is f.1)

  pub back_matching : (j : Option ℕ) → Finds m.transitions (MatchFits m list b s t 0 1 want) j → is_some j ≡ true → Backs m list b s t None j
  back_matching None f h = absurd (false≢true h)
  back_matching (Some j) f h = by_matching f.0 (subst (λ (v : ℕ). MatchFits m list b s t 0 1 v j) is f.1)

  nothing_found : (P : ℕ → Type 0) (r : Option ℕ) → Finds m.transitions P r → is_some r ≡ false → (k : ℕ) → k < m.transitions → P k → ⊥
  nothing_found P None f h = f
  nothing_found P (Some r) f h = absurd (true≢false h)

  pub back_none : (k j l : Option ℕ) → Finds m.transitions (StoreFits m list b s t want) k → Finds m.transitions (MatchFits m list b s t 0 1 want) j
      → Finds m.transitions (LetterFits m list b s t want) l → is_some k ≡ false → is_some j ≡ false → l ≡ None → Backs m list b s t None None
  back_none k j l f g h p q r =
      by_none (λ i b' e. nothing_found _ k f p i b' (subst (λ (v : ℕ). StoreFits m list b s t v i) (sym is) e))
      (λ i b' e. nothing_found _ j g q i b' (subst (λ (v : ℕ). MatchFits m list b s t 0 1 v i) (sym is) e))
      (λ i b' e. nothing_found _ l h (ap is_some r) i b' (subst (λ (v : ℕ). LetterFits m list b s t v i) (sym is) e))

  pub back_both : (l : ℕ) (j : Option ℕ) (u : Transition) → u ≡ transition_at list l → (l < m.transitions) × LetterFits m list b s t want l
      → Finds m.transitions (MatchFits m list b u.from t u.letter pair_unit want) j → Backs m list b s t (Some l) j
  back_both l j u e f g = at j (subst (λ (z : Transition). Finds m.transitions (MatchFits m list b z.from t z.letter pair_unit want) j) e g)
    where
      fits : LetterFits m list b s t want l
      fits = f.1

      at : (j : Option ℕ) → Finds m.transitions (MatchFits m list b (transition_at list l).from t (transition_at list l).letter pair_unit want) j → Backs m list b s t (Some l) j
      at None none = absurd (none fits.1.partner fits.1.partner_below fits.1.partner_fits)
      at (Some j) there =
          by_both f.0 there.0 fits.0 fits.1.storing (subst (λ (v : ℕ). MatchFits m list b (transition_at list l).from t (transition_at list l).letter pair_unit v j) is there.1)
