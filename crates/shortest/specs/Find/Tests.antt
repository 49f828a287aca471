-- What the tests of specs/Find.antt say of the machine's moves.
--
-- store_says, match_says, normal_says == a test that is true
-- store_true, match_true, letter-true, normal_true == a listed transition for which a test is true
-- back_there              == a move of a pair along which its number is reached is one that `back` looks for
use Rattle.std.specs.Prelude.{ℕ, suc, ◌+◌, ◌<◌, ◌≡◌, refl, Bool, true, false, ◌&&◌, List}
use Rattle.std.proofs.Common.{sym, ap, ◌∙◌, subst, arith}
use Rattle.std.proofs.Math.Bool.{not}
use Rattle.std.proofs.Math.Dec.{eqb}
use borrow.Author.Tests.{eq-eqb, eqb-true}
use Rattle.basics.specs.Search.Laws.{and_true, and_both_true}
use Rattle.basics.specs.Bools.{not_says, says_not, not_and_says, says_not_and}
use Rattle.fsbm.specs.Machine.{transition_at, buffering, matching}
use Rattle.fsbm.specs.Published.{fsbm_of, Listed}
use Rattle.fsbm.specs.declared.machine.Machine.{Machine}
use Rattle.pieces.specs.Pairs.{weigh, Pair, both, PairMove, stores_none, matches_none, letter}
use Rattle.pieces.specs.Blocks.{cost_of, cell}
use Rattle.shortest.specs.Find.{pair_unit, normal_test, store_test, StoreFits, match_test, MatchFits, Storing, LetterFits}

false_not : (b : Bool) → not b ≡ true → b ≡ false
false_not true h = absurd (not_says true h refl)
false_not false h = refl

module _ (m : Machine) (list : List ℕ) where
  abbrev from : ℕ → ℕ
  from k = (transition_at list k).from

  abbrev to : ℕ → ℕ
  to k = (transition_at list k).to

  abbrev by : ℕ → ℕ
  by k = (transition_at list k).letter

  abbrev H : ℕ → Bool
  H q = matching m.marks q

  abbrev G : ℕ → Bool
  G q = buffering m.marks q

  -- What a test says

  pub store_says : (b : List ℕ) (t want k : ℕ) → store_test m.marks list b t want k ≡ true
      → ((H (from k) ≡ true) × (H (to k) ≡ true) → ⊥) × (G (to k) ≡ true → ⊥) × (by k ≡ 0) × (cell b (from k) t + 1 ≡ want)
  unfolding store_test
  store_says b t want k h =
      let apart = not (H (from k) && H (to k)) in
      let free = not (G (to k)) in
      let none = eqb (by k) 0 in
      let tight = eqb (cell b (from k) t + 1) want in
      let (x, r₁) = and_true apart (free && (none && tight)) h in
      let (y, r₂) = and_true free (none && tight) r₁ in
      let (z, w) = and_true none tight r₂ in
      (not_and_says (H (from k)) (H (to k)) x, not_says (G (to k)) y, eqb-true (by k) 0 z, eqb-true (cell b (from k) t + 1) want w)

  pub match_says : (b : List ℕ) (s x w want k : ℕ) → match_test m.marks list b s x w want k ≡ true
      → (H (from k) ≡ true) × (H (to k) ≡ true) × (by k ≡ x) × (cell b s (from k) + w ≡ want)
  unfolding match_test
  match_says b s x w want k h =
      let together = H (from k) && H (to k) in
      let letter = eqb (by k) x in
      let tight = eqb (cell b s (from k) + w) want in
      let (y, r) = and_true together (letter && tight) h in
      let (z, v) = and_true letter tight r in
      let (p, q) = and_true (H (from k)) (H (to k)) y in
      (p, q, eqb-true (by k) x z, eqb-true (cell b s (from k) + w) want v)

  pub normal_says : (d : List ℕ) (want k : ℕ) → normal_test m.marks list d want k ≡ true
      → ((H (from k) ≡ true) × (H (to k) ≡ true) → ⊥) × (G (from k) ≡ true → ⊥) × (cost_of d (from k) + weigh (by k) ≡ want)
  unfolding normal_test
  normal_says d want k h =
      let apart = not (H (from k) && H (to k)) in
      let free = not (G (from k)) in
      let tight = eqb (cost_of d (from k) + weigh (by k)) want in
      let (x, r) = and_true apart (free && tight) h in
      let (y, w) = and_true free tight r in
      (not_and_says (H (from k)) (H (to k)) x, not_says (G (from k)) y, eqb-true (cost_of d (from k) + weigh (by k)) want w)

  -- The transition for which it is true

  module _ {p a q : ℕ} (δ : Listed list m.transitions p a q) where
    apart_there : ((H p ≡ true) × (H q ≡ true) → ⊥) → not (H (from δ.number) && H (to δ.number)) ≡ true
    apart_there none =
        says_not_and (H (from δ.number)) (H (to δ.number)) (λ h. none (subst (λ (z : ℕ). H z ≡ true) δ.from h.0, subst (λ (z : ℕ). H z ≡ true) δ.to h.1))

    pub store_true : (b : List ℕ) (t want : ℕ) → ((H p ≡ true) × (H q ≡ true) → ⊥) → (G q ≡ true → ⊥) → a ≡ 0 → cell b p t + 1 ≡ want → StoreFits m list b q t want δ.number
    unfolding store_test
    store_true b t want none free is_zero tight =
        let k = δ.number in (
          δ.to,
          and_both_true (not (H (from k) && H (to k))) (not (G (to k)) && (eqb (by k) 0 && eqb (cell b (from k) t + 1) want))
              (apart_there none)
              (and_both_true (not (G (to k))) (eqb (by k) 0 && eqb (cell b (from k) t + 1) want)
              (says_not (G (to k)) (λ g. free (subst (λ (z : ℕ). G z ≡ true) δ.to g)))
              (and_both_true (eqb (by k) 0) (eqb (cell b (from k) t + 1) want) (eq-eqb (by k) 0 (δ.letter ∙ is_zero))
              (eq-eqb (cell b (from k) t + 1) want (ap (λ (z : ℕ). cell b z t + 1) δ.from ∙ tight)))),
        )

    pub match_true : (b : List ℕ) (s x w want : ℕ) → H p ≡ true → H q ≡ true → a ≡ x → cell b s p + w ≡ want → MatchFits m list b s q x w want δ.number
    unfolding match_test
    match_true b s x w want hp hq same tight =
        let k = δ.number in (
          δ.to,
          and_both_true (H (from k) && H (to k)) (eqb (by k) x && eqb (cell b s (from k) + w) want)
              (and_both_true (H (from k)) (H (to k)) (subst (λ (z : ℕ). H z ≡ true) (sym δ.from) hp) (subst (λ (z : ℕ). H z ≡ true) (sym δ.to) hq))
              (and_both_true (eqb (by k) x) (eqb (cell b s (from k) + w) want) (eq-eqb (by k) x (δ.letter ∙ same))
              (eq-eqb (cell b s (from k) + w) want (ap (λ (z : ℕ). cell b s z + w) δ.from ∙ tight))),
        )

    pub normal_true : (d : List ℕ) (want : ℕ) → ((H p ≡ true) × (H q ≡ true) → ⊥) → (G p ≡ true → ⊥) → cost_of d p + weigh a ≡ want
        → normal_test m.marks list d want δ.number ≡ true
    unfolding normal_test
    normal_true d want none free tight =
        let k = δ.number in
        and_both_true (not (H (from k) && H (to k))) (not (G (from k)) && eqb (cost_of d (from k) + weigh (by k)) want)
        (apart_there none)
        (and_both_true (not (G (from k))) (eqb (cost_of d (from k) + weigh (by k)) want)
        (says_not (G (from k)) (λ g. free (subst (λ (z : ℕ). G z ≡ true) δ.from g)))
        (eq-eqb (cost_of d (from k) + weigh (by k)) want (ap (λ (z : ℕ). cost_of d z + weigh (by k)) δ.from ∙ (ap (λ (z : ℕ). cost_of d p + weigh z) δ.letter ∙ tight))))

    storing_there : ((H p ≡ true) × (H q ≡ true) → ⊥) → (G q ≡ true → ⊥) → (a ≡ 0 → ⊥) → Storing m list δ.number
    storing_there none free some =
        let k = δ.number in
        record {
          letter = λ z. some (sym δ.letter ∙ z);
          apart = false_not (H (from k) && H (to k)) (apart_there none);
          free = false_not (G (to k)) (says_not (G (to k)) (λ g. free (subst (λ (z : ℕ). G z ≡ true) δ.to g)));
        }

  -- A move of a pair along which the number of its end is reached

  pub record NoBack (b : List ℕ) (s t : ℕ) : Type 0 where
    pub storing : (i : ℕ) → i < m.transitions → StoreFits m list b s t (cell b s t) i → ⊥
    pub matching : (i : ℕ) → i < m.transitions → MatchFits m list b s t 0 1 (cell b s t) i → ⊥
    pub by_letter : (i : ℕ) → i < m.transitions → LetterFits m list b s t (cell b s t) i → ⊥

  pub back_there : (b : List ℕ) (s t : ℕ) → NoBack b s t → {u v : Pair} {w : ℕ} → PairMove (fsbm_of m list) u v w → v ≡ both s t → cell b s t ≡ w + cell b u.storing u.matching → ⊥
  back_there b s t none (stores_none {s = p} {s' = q} {t = r} δ apart free) is tight =
      let es : q ≡ s = ap (λ (z : Pair). z.storing) is in
      let et : r ≡ t = ap (λ (z : Pair). z.matching) is in
      none.storing δ.number δ.listed
      (subst (λ (z : ℕ). StoreFits m list b z t (cell b s t) δ.number) es
      (store_true δ b t (cell b s t) apart free refl (let e : cell b p t ≡ cell b p r = ap (cell b p) (sym et) in omega arith)))
  back_there b s t none (matches_none {s = p} {t = r} {t' = q} δ hp hq) is tight =
      let es : p ≡ s = ap (λ (z : Pair). z.storing) is in
      let et : q ≡ t = ap (λ (z : Pair). z.matching) is in
      none.matching δ.number δ.listed
      (subst (λ (z : ℕ). MatchFits m list b s z 0 1 (cell b s t) δ.number) et
      (match_true δ b s 0 1 (cell b s t) hp hq refl (let e : cell b s r ≡ cell b p r = ap (λ (z : ℕ). cell b z r) (sym es) in omega arith)))
  back_there b s t none (letter {s = p} {s' = q} {t = r} {t' = o} {a = a} δ apart free δ' hp hq) is tight =
      let es : q ≡ s = ap (λ (z : Pair). z.storing) is in
      let et : o ≡ t = ap (λ (z : Pair). z.matching) is in
      let fits : MatchFits m list b (from δ.number) o (by δ.number) pair_unit (cell b s t) δ'.number =
      match_true δ' b (from δ.number) (by δ.number) pair_unit (cell b s t) hp hq (sym δ.letter) (let e : cell b (from δ.number) r ≡ cell b p r = ap (λ (z : ℕ). cell b z r) δ.from in omega arith) in
      none.by_letter δ.number δ.listed (
        δ.to ∙ es,
        record {
          storing = storing_there δ apart free (λ (z : suc a ≡ 0). omega arith);
          partner = δ'.number;
          partner_below = δ'.listed;
          partner_fits = subst (λ (z : ℕ). MatchFits m list b (from δ.number) z (by δ.number) pair_unit (cell b s t) δ'.number) et fits;
        },
      )
