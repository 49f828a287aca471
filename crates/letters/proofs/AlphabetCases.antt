-- The loops over the 256 letters of a record, by their turns.
--
-- greater, smaller, counted == the larger of two, the smaller, and a count that may rise, as definitions say it
-- largest-..    == the largest letter: of none, of one more, of all
-- lettered-..   == how many bytes have letters, likewise
-- seen-..       == which letters are noted, likewise
-- good-..       == the test of a record: too many letters, another count, the rest
-- seen_gapless  == all from 1 to the largest are noted, exactly if there is no gap
use Prim.Native.Nat.{ℕ, suc, ◌+◌, ◌<◌, ◌≤◌}
use mathlib.Core.Path.{◌≡◌, refl, sym, ap, ◌∙◌, subst}
use mathlib.Core.Logic.{◌⊎◌, inl, inr, ◌↔◌}
use mathlib.Core.List.{List}
use mathlib.Core.Bool.{Bool, true, false, cond, not, ◌||◌, ◌&&◌}
use native.Mathlib.Omega.{arith}
use native.Mathlib.Numerals.{add-one}
use native.Mathlib.Decide.{ℕ_discrete}
use lib.ListN.{length, get_or, set, replicate, length-set, length-replicate}
use lib.Dec.{leb, eqb}
use mir.Val.{bool_byte}
use Rattle.std.specs.Ordering.{nat_cmp, ord_max, ord_min}
use Rattle.std.proofs.lemmas.Bool.Decides.{nat_tests}
use Rattle.std.proofs.lemmas.Grind.{common_steps}
use borrow.Author.Tests.{eq-eqb, ne_eqb, le-leb, lt-leb, leb-true, leb-false}
use Rattle.basics.specs.Bools.{same_truth}
use Rattle.basics.specs.Lists.Laws.{set_cases, zeros_at}
use Rattle.basics.specs.Search.{any_below, all_below}
use Rattle.basics.specs.Search.Laws.{true_or_false, or_true_left, and_both_true, and_false_left, and_false_right, all_below_true}
use Rattle.basics.specs.Search.Loops.{pass, stop}
use Rattle.letters.specs.Alphabet.{byte_values, max_lines, letter_in, largest_of, gapless, lettered, good_alphabet}
use Rattle.letters.specs.declared.alphabet.Alphabet.{Alphabet}
use Rattle.letters.specs.Seen.{noted, Seen}
use Rattle.letters.specs.Alphabet.Laws.{letter_in_lem, largest_more, lettered_more}

pub greater : (a b : ℕ) → ord_max nat_cmp a b ≡ cond (leb a b) b a
greater a b = grind (arith, common_steps, nat_tests)

pub smaller : (a b : ℕ) → ord_min nat_cmp a b ≡ cond (leb a b) a b
smaller a b = grind (arith, common_steps, nat_tests)

pub counted : (m : ℕ) (b : Bool) → m + bool_byte (not b) ≡ cond b m (suc m)
counted m true = omega arith
counted m false = omega arith

pub one_more : (b : Bool) → bool_byte b ≤ 1
one_more true = omega arith
one_more false = omega arith

module _ (l : List ℕ) where
  pub largest_none : 0 ≡ largest_of 0 (letter_in l)
  unfolding largest_of
  largest_none = refl

  pub largest_next : (v m r : ℕ) → v < 256 → m ≡ largest_of v (letter_in l) → r ≡ cond (leb m (get_or l v 0)) (get_or l v 0) m → r ≡ largest_of (v + 1) (letter_in l)
  largest_next v m r h e is = largest_more (letter_in l) v m r e (is ∙ ap (λ (x : ℕ). cond (leb m x) x m) (sym (letter_in_lem l v h)))

  pub largest_end : (v m : ℕ) → v ≤ 256 → 256 ≤ v → m ≡ largest_of v (letter_in l) → m ≡ largest_of byte_values (letter_in l)
  largest_end v m h g e = let q : v ≡ 256 = omega arith in e ∙ ap (λ (k : ℕ). largest_of k (letter_in l)) q

  pub lettered_none : 0 ≡ lettered 0 (letter_in l)
  unfolding lettered
  lettered_none = refl

  pub lettered_next : (v m r : ℕ) → v < 256 → m ≡ lettered v (letter_in l) → r ≡ cond (eqb (get_or l v 0) 0) m (suc m) → r ≡ lettered (v + 1) (letter_in l)
  lettered_next v m r h e is = lettered_more (letter_in l) v m r e (is ∙ ap (λ (x : ℕ). cond (eqb x 0) m (suc m)) (sym (letter_in_lem l v h)))

  pub lettered_end : (v m : ℕ) → v ≤ 256 → 256 ≤ v → m ≡ lettered v (letter_in l) → m ≡ lettered byte_values (letter_in l)
  lettered_end v m h g e = let q : v ≡ 256 = omega arith in e ∙ ap (λ (k : ℕ). lettered k (letter_in l)) q

-- Letters noted

pub seen_none : (f : ℕ → ℕ) (s : List ℕ) → s ≡ replicate byte_values 0 → Seen 0 f s
unfolding any_below
seen_none f s e = record { long = ap length e ∙ length-replicate {A = ℕ} byte_values 0; each = λ x h. ap (λ (l : List ℕ). get_or l x 0) e ∙ zeros_at byte_values x }

pub seen_next : (f : ℕ → ℕ) (s : List ℕ) (v x : ℕ) → Seen v f s → x ≡ f v → x < byte_values → Seen (v + 1) f (set s x 1)
unfolding any_below
seen_next f s v x h e small =
    record {
      long = length-set s x 1 ∙ h.long;
      each = λ y l. subst (λ (n : ℕ). get_or (set s x 1) y 0 ≡ cond (any_below n (λ i. eqb (f i) y)) 1 0) (sym (add-one v))
          (set_cases s x 1 0 (let w = h.long in omega arith) (λ k a. k < byte_values → a ≡ cond (any_below (suc v) (λ i. eqb (f i) k)) 1 0) new old y l);
    }
  where
    new : x < byte_values → ◌≡◌ {A = ℕ} 1 (cond (any_below (suc v) (λ i. eqb (f i) x)) 1 0)
    new l = ap (λ (b : Bool). cond {A = ℕ} b 1 0) (sym (or_true_left (eqb (f v) x) (any_below v (λ i. eqb (f i) x)) (eq-eqb (f v) x (sym e))))

    passed : (k : ℕ) → (k ≡ x → ⊥) → any_below v (λ i. eqb (f i) k) ≡ any_below (suc v) (λ i. eqb (f i) k)
    passed k d = sym (ap (λ (b : Bool). b || any_below v (λ i. eqb (f i) k)) (ne_eqb (f v) k (λ (q : f v ≡ k). d (sym q ∙ sym e))))

    old : (k : ℕ) → (k ≡ x → ⊥) → k < byte_values → get_or s k 0 ≡ cond (any_below (suc v) (λ i. eqb (f i) k)) 1 0
    old k d l = h.each k l ∙ ap (λ (b : Bool). cond b 1 0) (passed k d)

pub seen_end : (f : ℕ → ℕ) (s : List ℕ) (v : ℕ) → v ≤ 256 → 256 ≤ v → Seen v f s → Seen byte_values f s
seen_end f s v h g k = let q : v ≡ 256 = omega arith in subst (λ (n : ℕ). Seen n f s) q k

by_note : (b : Bool) → not (eqb (cond b 1 0) 0) ≡ b
by_note true = refl
by_note false = refl

pub seen_gapless : (f : ℕ → ℕ) (s : List ℕ) (count : ℕ) → Seen byte_values f s → count ≡ largest_of byte_values f → count < byte_values
    → all_below count (noted s) ≡ gapless byte_values f
unfolding gapless
seen_gapless f s count h e small =
    same_truth _ _
    (λ t. all.1 (λ k l. sym (same k (omega arith)) ∙ test.0 t k (omega arith)))
    (λ t. test.1 (λ k l. same k l ∙ all.0 t k (omega arith)))
  where
    test : (all_below count (noted s) ≡ true) ↔ ((k : ℕ) → k < count → noted s k ≡ true)
    test = all_below_true (noted s) count

    all : (all_below (largest_of byte_values f) (λ k. any_below byte_values (λ i. eqb (f i) (suc k))) ≡ true)
        ↔ ((k : ℕ) → k < largest_of byte_values f → any_below byte_values (λ i. eqb (f i) (suc k)) ≡ true)
    all = all_below_true (λ k. any_below byte_values (λ i. eqb (f i) (suc k))) (largest_of byte_values f)

    same : (k : ℕ) → k < count → not (eqb (get_or s (suc k) 0) 0) ≡ any_below byte_values (λ i. eqb (f i) (suc k))
    same k l = ap (λ (x : ℕ). not (eqb x 0)) (h.each (suc k) (omega arith)) ∙ by_note (any_below byte_values (λ i. eqb (f i) (suc k)))

-- a note above 0 among those of the first k numbers
pub seen_start : (s : List ℕ) → not (eqb 1 0) ≡ all_below 0 (noted s)
unfolding all_below
seen_start s = refl

least_above : (a b : ℕ) → not (eqb (cond (leb a b) a b) 0) ≡ (not (eqb b 0) && not (eqb a 0))
least_above a b = at (true_or_false (leb a b)) (ℕ_discrete a 0) (ℕ_discrete b 0)
  where
    zero : (x : ℕ) → x ≡ 0 → not (eqb x 0) ≡ false
    zero x e = ap not (eq-eqb x 0 e)

    above : (x : ℕ) → (x ≡ 0 → ⊥) → not (eqb x 0) ≡ true
    above x d = ap not (ne_eqb x 0 d)

    by : (z : Bool) → leb a b ≡ z → not (eqb (cond (leb a b) a b) 0) ≡ not (eqb (cond z a b) 0)
    by z t = ap (λ (y : Bool). not (eqb (cond y a b) 0)) t

    at : (leb a b ≡ true) ⊎ (leb a b ≡ false) → Dec (a ≡ 0) → Dec (b ≡ 0) → not (eqb (cond (leb a b) a b) 0) ≡ (not (eqb b 0) && not (eqb a 0))
    at (inl t) (yes e) d = by true t ∙ (zero a e ∙ sym (and_false_right (not (eqb b 0)) (not (eqb a 0)) (zero a e)))
    at (inl t) (no e) d =
        let h = leb-true a b t in
        by true t ∙ (above a e ∙ sym (and_both_true (not (eqb b 0)) (not (eqb a 0)) (above b (λ (q : b ≡ 0). e (omega arith))) (above a e)))
    at (inr t) e (yes d) = by false t ∙ (zero b d ∙ sym (and_false_left (not (eqb b 0)) (not (eqb a 0)) (zero b d)))
    at (inr t) e (no d) =
        let h = leb-false a b t in
        by false t ∙ (above b d ∙ sym (and_both_true (not (eqb b 0)) (not (eqb a 0)) (above b d) (above a (λ (q : a ≡ 0). omega arith))))

pub seen_more : (s : List ℕ) (k a r : ℕ) → not (eqb a 0) ≡ all_below k (noted s) → r ≡ cond (leb a (get_or s (k + 1) 0)) a (get_or s (k + 1) 0)
    → not (eqb r 0) ≡ all_below (k + 1) (noted s)
unfolding all_below
seen_more s k a r e is =
    ap (λ (x : ℕ). not (eqb x 0)) is
    ∙ (least_above a (get_or s (k + 1) 0)
    ∙ (ap (λ (z : Bool). not (eqb (get_or s (k + 1) 0) 0) && z) e
    ∙ (ap (λ (j : ℕ). not (eqb (get_or s j 0) 0) && all_below k (noted s)) (add-one k) ∙ ap (λ (j : ℕ). all_below j (noted s)) (sym (add-one k)))))

pub seen_all : (s : List ℕ) (k count a : ℕ) → not (eqb a 0) ≡ all_below k (noted s) → k ≤ count → count ≤ k → not (eqb a 0) ≡ all_below count (noted s)
seen_all s k count a e h g = let q : k ≡ count = omega arith in e ∙ ap (λ (j : ℕ). all_below j (noted s)) q

-- The test of a record

module _ (a : Alphabet) (n : ℕ) (n_is : n ≡ lettered byte_values (letter_in a.letters)) where
  pub good_many : max_lines < n → false ≡ good_alphabet a
  unfolding good_alphabet
  good_many h = stop _ (lt-leb _ _ (subst (λ (k : ℕ). max_lines < k) n_is h))

  module _ (few : n ≤ max_lines) (m : ℕ) (m-is : m ≡ largest_of byte_values (letter_in a.letters)) where
    enough : leb (lettered byte_values (letter_in a.letters)) max_lines ≡ true
    enough = le-leb _ _ (subst (λ (k : ℕ). k ≤ max_lines) n_is few)

    pub good_count : (a.count ≡ m → ⊥) → false ≡ good_alphabet a
    unfolding good_alphabet
    good_count d = pass enough (stop _ (ne_eqb _ _ (λ (e : a.count ≡ largest_of byte_values (letter_in a.letters)). d (e ∙ sym m-is))))

    pub good_rest : a.count ≡ m → (r : Bool) → r ≡ gapless byte_values (letter_in a.letters) → r ≡ good_alphabet a
    unfolding good_alphabet
    good_rest e r is = pass enough (pass (eq-eqb _ _ (e ∙ m-is)) is)
