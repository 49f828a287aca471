-- The laws of specs/Lists.antt, and what stands where after a store. Generic.
--
-- put_none, put_zero   == nothing is put; a part is put at the front
-- put_length           == the list stays as long as it was
-- put_put              == a part, and then another behind it, are the two put as one
-- put_next             == a store behind a part that was put makes it longer
-- put_one, put_three   == one store, and three stores in a row, put a part
-- copied_more, copied  == a loop that copies a list to the front of another
-- set_cases            == what holds of the element that is stored, and of the others as they were, holds of all
-- set_next             == the same of the elements up to the one that is stored
-- drop_set             == the list from an index on, once something is stored at it: that, and what stood behind it
-- zeros_at             == a list of zeros has a 0 everywhere
use Rattle.std.specs.Prelude.{ℕ, zero, suc, ◌+◌, ◌≤◌, ◌<◌, ◌≡◌, refl, get_or, set, replicate}
use Rattle.std.proofs.Math.Path.{sym, ap}
use Rattle.std.proofs.Common.{subst, ◌∙◌, add-zero, zero-add, add-one, length-set, take_at, drop_at, drop-cons, drop-set-lt, get_or-set_same, get_or-set_other, length-take-le, take_all, take-suc}
use mathlib.Core.List.{List, [], ◌∷◌, ◌++◌, append-nil, append_assoc}
use native.Mathlib.Omega.{arith}
use Rattle.std.proofs.Math.Decide.{ℕ_discrete}
use Rattle.std.proofs.Math.Numerals.{add-two}
use Rattle.std.proofs.Math.ListN.{length, take, drop, length-append, length-drop, take-append-drop}
use Rattle.std.proofs.Math.Seq.{drop-drop, sets-eq}
use Rattle.basics.specs.Lists.{put}

module _ {A : Type 0} where
  pub put_none : (at : ℕ) (l : List A) → l ≡ put at l []
  unfolding put
  put_none at l = sym (ap (λ (x : List A). x ++ drop (at + 0) l) (append-nil (take at l)) ∙ (ap (λ (n : ℕ). take at l ++ drop n l) (add-zero at) ∙ take-append-drop at l))

  pub put_zero : (l part : List A) → put 0 l part ≡ part ++ drop (length part) l
  unfolding put
  put_zero l part = ap (λ (n : ℕ). part ++ drop n l) (zero-add (length part))

  front_length : (at : ℕ) (l part : List A) → at ≤ length l → length (take at l ++ part) ≡ at + length part
  front_length at l part h = length-append (take at l) part ∙ ap (λ (n : ℕ). n + length part) (length-take-le at l h)

  pub put_length : (at : ℕ) (l part : List A) → at + length part ≤ length l → length (put at l part) ≡ length l
  unfolding put
  put_length at l part h =
      let front = front_length at l part (omega arith) in
      let back = length-drop (at + length part) l in
      length-append (take at l ++ part) (drop (at + length part) l) ∙ omega arith

  pub put_put : (at next : ℕ) (l a b : List A) → next ≡ at + length a → at + length a + length b ≤ length l → put next (put at l a) b ≡ put at l (a ++ b)
  unfolding put
  put_put at next l a b e h =
      let front : List A = take at l ++ a in
      let rest : List A = drop (at + length a) l in
      let size : length front ≡ next = front_length at l a (omega arith) ∙ sym e in
      let past : next + length b ≡ at + length (a ++ b) = let n = length-append a b in omega arith in
      ap (λ (x : List A). x ++ b ++ drop (next + length b) (front ++ rest)) (take_at front rest next size)
      ∙ (ap (λ (x : List A). front ++ b ++ x) (sym (drop-drop (length b) next (front ++ rest)) ∙ (ap (drop (length b)) (drop_at front rest next size) ∙ drop-drop (length b) (at + length a) l))
      ∙ (ap (λ (n : ℕ). front ++ b ++ drop (n + length b) l) (sym e)
      ∙ (ap (λ (n : ℕ). front ++ b ++ drop n l) past ∙ ap (λ (x : List A). x ++ drop (at + length (a ++ b)) l) (append_assoc (take at l) a b))))

  -- b put right after a
  pub put_more : (l l1 l2 a b : List A) (at next : ℕ) → l1 ≡ put at l a → l2 ≡ put next l1 b → next ≡ at + length a → at + length a + length b ≤ length l → l2 ≡ put at l (a ++ b)
  put_more l l1 l2 a b at next e f n h = f ∙ (ap (λ (x : List A). put next x b) e ∙ put_put at next l a b n h)

  pub put_one : (l : List A) (i : ℕ) (a : A) → i < length l → set l i a ≡ put i l (a ∷ [])
  unfolding put
  put_one l i a h = sets-eq (a ∷ []) l i (omega arith)

  pub put_next : (at : ℕ) (l a : List A) (x : A) → at + length a < length l → set (put at l a) (at + length a) x ≡ put at l (a ++ (x ∷ []))
  put_next at l a x h =
      put_one (put at l a) (at + length a) x (let z = put_length at l a (omega arith) in omega arith) ∙ put_put at (at + length a) l a (x ∷ []) refl (omega arith)

  pub put_three : (l : List A) (i : ℕ) (a b c : A) → i + 3 ≤ length l → set (set (set l i a) (i + 1) b) (i + 2) c ≡ put i l (a ∷ b ∷ c ∷ [])
  unfolding put
  put_three l i a b c h = simp (add-one i, add-two i) (sets-eq (a ∷ b ∷ c ∷ []) l i h)

module _ (from l to : List ℕ) (i : ℕ) (fits : length from ≤ length l) (so_far : to ≡ put 0 l (take i from)) where
  pub copied_more : i < length from → set to i (get_or from i 0) ≡ put 0 l (take (i + 1) from)
  copied_more h =
      ap (λ (z : List ℕ). set z i (get_or from i 0)) so_far
      ∙ (ap (λ (z : ℕ). set (put 0 l (take i from)) z (get_or from i 0)) at_i
      ∙ (put_next 0 l (take i from) (get_or from i 0) inside
      ∙ (ap (put 0 l) (sym (take-suc from i 0 h)) ∙ ap (λ (z : ℕ). put 0 l (take z from)) (sym (add-one i)))))
    where
      long : length (take i from) ≡ i
      long = length-take-le i from (omega arith)

      at_i : i ≡ 0 + length (take i from)
      at_i = omega (arith, long)

      inside : 0 + length (take i from) < length l
      inside = omega (arith, long)

  pub copied : length from ≤ i → to ≡ put 0 l from
  copied h = so_far ∙ ap (put 0 l) (take_all i from h)

module _ {A : Type 0} (l : List A) (i : ℕ) (v d : A) (inside : i < length l) where
  pub set_cases : (P : ℕ → A → Type 0) → P i v → ((k : ℕ) → (k ≡ i → ⊥) → P k (get_or l k d)) → (k : ℕ) → P k (get_or (set l i v) k d)
  set_cases P new old k = at (ℕ_discrete k i)
    where
      at : Dec (k ≡ i) → P k (get_or (set l i v) k d)
      at (yes e) = subst (λ (j : ℕ). P j (get_or (set l i v) j d)) (sym e) (subst (P i) (sym (get_or-set_same l i v d inside)) new)
      at (no n) = subst (P k) (sym (get_or-set_other l i k v d n)) (old k n)

  pub set_next : (P : ℕ → A → Type 0) → P i v → ((k : ℕ) → k < i → P k (get_or l k d)) → (k : ℕ) → k < i + 1 → P k (get_or (set l i v) k d)
  set_next P new old = set_cases (λ k x. k < i + 1 → P k x) (λ lt. new) (λ k n lt. old k (omega arith))

pub drop_set : (l : List ℕ) (i i' a : ℕ) → suc i' ≡ i → i ≤ length l → drop i' (set l i' a) ≡ a ∷ drop i l
drop_set l i i' a is h =
    drop-cons (set l i' a) i' 0 (let s = length-set l i' a in omega arith)
    ∙ (ap (λ (z : ℕ). z ∷ drop (suc i') (set l i' a)) (get_or-set_same l i' a 0 (omega arith))
    ∙ (ap (λ (z : List ℕ). a ∷ z) (drop-set-lt (suc i') l i' a (omega arith)) ∙ ap (λ (z : ℕ). a ∷ drop z l) is))

pub zeros_at : (n p : ℕ) → ◌≡◌ {A = ℕ} (get_or (replicate n 0) p 0) 0
zeros_at zero p = refl
zeros_at (suc n) zero = refl
zeros_at (suc n) (suc p) = zeros_at n p
