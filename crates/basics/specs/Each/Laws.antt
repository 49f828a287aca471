-- The laws of specs/Each.antt, in the form that loops and sheets want.
--
-- each_next             == one more list joined
-- each_length           == n lists of w elements
-- each_same             == the lists agree below n
-- each_drop             == from list k on
-- each_elem             == element j of list k
-- each_parts            == parts of a list, one after the other, joined
-- each_none, each_more, each_done == a loop that puts the lists into another list: at its start, one list more, at its end
use Prim.Native.Nat.{ℕ, zero, suc, ◌+◌, ◌*◌, ◌≤◌, ◌<◌}
use Rattle.std.specs.Prelude.{◌≡◌, refl, take, get_or}
use Rattle.std.proofs.Math.Path.{sym, ap}
use Rattle.std.proofs.Common.{◌∙◌, mul-suc, add-one, drop_at, take-add, drop-drop, get_or-drop}
use mathlib.Core.List.{List, ◌++◌, append_assoc}
use native.Mathlib.Omega.{arith}
use Rattle.std.proofs.Math.Decide.{ℕ_discrete}
use Rattle.std.proofs.Math.ListN.{length, drop, length-append, get_or-append}
use Rattle.basics.specs.Each.{each_below}
use Rattle.basics.specs.Lists.{put}
use Rattle.basics.specs.Lists.Laws.{put_none, put_more}

pub each_next : (k : ℕ) (f : ℕ → List ℕ) → each_below (k + 1) f ≡ each_below k f ++ f k
unfolding each_below
each_next k f = ap (λ (n : ℕ). each_below n f) (add-one k)

pub each_same : (n : ℕ) (f g : ℕ → List ℕ) → ((k : ℕ) → k < n → f k ≡ g k) → each_below n f ≡ each_below n g
unfolding each_below
each_same zero f g h = refl
each_same (suc n) f g h =
    ap (λ (l : List ℕ). l ++ f n) (each_same n f g (λ k l. h k (omega arith))) ∙ ap (λ (l : List ℕ). each_below n g ++ l) (h n (omega arith))

module _ (w : ℕ) (f : ℕ → List ℕ) (wide : (k : ℕ) → length (f k) ≡ w) where
  pub each_length : (n : ℕ) → length (each_below n f) ≡ w * n
  unfolding each_below
  each_length zero = omega arith
  each_length (suc n) = length-append (each_below n f) (f n) ∙ (ap (λ (k : ℕ). k + length (f n)) (each_length n) ∙ (ap (λ (k : ℕ). w * n + k) (wide n) ∙ sym (mul-suc w n)))

  -- what follows list k
  pub each_drop : (n k : ℕ) (rest : List ℕ) → k < n → (tail : List ℕ) × (drop (w * k) (each_below n f ++ rest) ≡ f k ++ tail)
  unfolding each_below
  each_drop zero k rest h = absurd (omega arith)
  each_drop (suc n) k rest h = at (ℕ_discrete k n) (each_drop n k (f n ++ rest))
    where
      at : Dec (k ≡ n) → (k < n → (tail : List ℕ) × (drop (w * k) (each_below n f ++ (f n ++ rest)) ≡ f k ++ tail))
          → (tail : List ℕ) × (drop (w * k) ((each_below n f ++ f n) ++ rest) ≡ f k ++ tail)
      at (yes d) below = (
        rest,
        ap (λ (l : List ℕ). drop (w * k) l) (append_assoc (each_below n f) (f n) rest)
            ∙ (drop_at (each_below n f) (f n ++ rest) (w * k) (each_length n ∙ ap (λ (j : ℕ). w * j) (sym d))
            ∙ ap (λ (j : ℕ). f j ++ rest) (sym d)),
      )
      at (no d) below =
          let t = below (omega arith) in
          (t.0, ap (λ (l : List ℕ). drop (w * k) l) (append_assoc (each_below n f) (f n) rest) ∙ t.1)

  pub each_elem : (n k j : ℕ) (rest : List ℕ) → k < n → j < w → get_or (each_below n f ++ rest) (w * k + j) 0 ≡ get_or (f k) j 0
  each_elem n k j rest h b =
      let d = each_drop n k rest h in
      let l : length (f k) ≡ w = wide k in
      sym (get_or-drop (w * k) (each_below n f ++ rest) j 0)
      ∙ (ap (λ (x : List ℕ). get_or x j 0) d.1 ∙ get_or-append (f k) d.0 0 j (omega arith))

-- lists that are parts of s from byte i on, w bytes each
pub each_parts : (w i : ℕ) (s : List ℕ) (f : ℕ → List ℕ) (n : ℕ) → ((k : ℕ) → k < n → f k ≡ take w (drop (i + w * k) s)) → each_below n f ≡ take (w * n) (drop i s)
unfolding each_below
each_parts w i s f zero h = let z : w * 0 ≡ 0 = omega arith in ap (λ (m : ℕ). take m (drop i s)) (sym z)
each_parts w i s f (suc n) h =
    ap (λ (l : List ℕ). l ++ f n) (each_parts w i s f n (λ k l. h k (omega arith)))
    ∙ (ap (λ (l : List ℕ). take (w * n) (drop i s) ++ l) (h n (omega arith) ∙ ap (λ (l : List ℕ). take w l) (sym (drop-drop (w * n) i s)))
    ∙ (sym (take-add (w * n) w (drop i s)) ∙ ap (λ (m : ℕ). take m (drop i s)) (sym (mul-suc w n))))

pub each_none : (start : ℕ) (l : List ℕ) (f : ℕ → List ℕ) → l ≡ put start l (each_below 0 f)
unfolding each_below
each_none start l f = put_none start l

pub each_more : (w start : ℕ) (f : ℕ → List ℕ) → ((k : ℕ) → length (f k) ≡ w) → (l l1 l2 piece : List ℕ) (k at : ℕ)
    → l1 ≡ put start l (each_below k f) → l2 ≡ put at l1 piece → piece ≡ f k → at ≡ start + w * k → start + w * k + w ≤ length l
    → l2 ≡ put start l (each_below (k + 1) f)
each_more w start f wide l l1 l2 piece k at e g p a h =
    let n = each_length w f wide k in
    let m : length (f k) ≡ w = wide k in
    put_more l l1 l2 (each_below k f) (f k) start at e (g ∙ ap (λ (x : List ℕ). put at l1 x) p) (omega arith) (omega arith)
    ∙ ap (λ (x : List ℕ). put start l x) (sym (each_next k f))

pub each_done : (start : ℕ) (f : ℕ → List ℕ) (l l1 : List ℕ) (k n : ℕ) → k ≤ n → n ≤ k → l1 ≡ put start l (each_below k f) → l1 ≡ put start l (each_below n f)
each_done start f l l1 k n h g e = let q : k ≡ n = omega arith in e ∙ ap (λ (j : ℕ). put start l (each_below j f)) q
