-- Stretches of a word as strings: what the test "the next letter is x, or x is epsilon" says of them.
--
-- slice p e w          == the letters of w from p up to, not including, e (lib.Seq)
-- reads_slice          == the test holds: the stretch is the letter and the rest
-- slice_reads          == the stretch is the letter and a rest: the test holds, and the rest is the stretch after it
-- reads_drop, drop_reads == the same for the rest of the word
-- slice_grows          == a stretch that takes in the letter at its end
-- slice_none           == an empty stretch starts where it ends
use Rattle.std.specs.Prelude.{ℕ, zero, suc, ◌≤◌, ◌≡◌, refl, ◌⊎◌, true, false, List, [], ◌∷◌, ◌++◌, length, get_or, take, drop, ltb, eqb}
use Rattle.std.proofs.Common.{sym, ap, ◌∙◌, inl, inr, append-nil, arith, take-suc, length-take-le, ltb-true, ltb-false, eq-eqb}
use Rattle.std.proofs.Math.Seq.{slice, slice-cons, length-slice, take-length}
use Rattle.std.proofs.lemmas.List.{drop-append-le}
use Rattle.std.proofs.Math.Dec.{eqb-suc-zero}
use Rattle.basics.specs.Search.Laws.{and_both_true, true_or_false}
use Rattle.fsbm.specs.Moves.{reads_letter, advanced}
use Rattle.fsbm.specs.Moves.Laws.{reads_suc, advanced_suc}
use Rattle.fsbm.specs.Published.{symbol}

pub reads_slice : (w : List ℕ) (p e x : ℕ) → e ≤ length w → reads_letter w p e x ≡ true → slice p e w ≡ symbol x ++ slice (advanced p x) e w
reads_slice w p e zero le h = refl
reads_slice w p e (suc x) le h =
    let (lt, same) = reads_suc w p e x h in
    rw advanced_suc (slice-cons p e w 0 lt le ∙ ap (λ (a : ℕ). a ∷ slice (suc p) e w) same)

-- a stretch that starts at or after its end is empty
slice_past : (w : List ℕ) (p e : ℕ) → e ≤ length w → e ≤ p → length (slice p e w) ≡ 0
slice_past w p e le ge = let l = length-slice p e w le in omega arith

pub slice_reads : (w : List ℕ) (p e x : ℕ) (u : List ℕ) → e ≤ length w → slice p e w ≡ symbol x ++ u
    → (reads_letter w p e x ≡ true) × (slice (advanced p x) e w ≡ u)
unfolding reads_letter
slice_reads w p e zero u le h = (refl, h)
slice_reads w p e (suc x) u le h = at (true_or_false (ltb p e))
  where
    at : (ltb p e ≡ true) ⊎ (ltb p e ≡ false) → (reads_letter w p e (suc x) ≡ true) × (slice (advanced p (suc x)) e w ≡ u)
    at (inl t) =
        let split = slice-cons p e w 0 (ltb-true p e t) le in
        let same : get_or w p 0 ≡ suc x = cc in
        let rest : slice (suc p) e w ≡ u = cc in
        (rw eqb-suc-zero (and_both_true (ltb p e) (eqb (get_or w p 0) (suc x)) t (eq-eqb (get_or w p 0) (suc x) same)), rw advanced_suc rest)
    at (inr f) =
        let none = slice_past w p e le (ltb-false p e f) in
        let some = ap length h in
        absurd (omega arith)

pub reads_drop : (w : List ℕ) (p x : ℕ) → reads_letter w p (length w) x ≡ true → drop p w ≡ symbol x ++ drop (advanced p x) w
reads_drop w p x h = rw take-length at (reads_slice w p (length w) x (omega arith) h)

pub drop_reads : (w : List ℕ) (p x : ℕ) (u : List ℕ) → drop p w ≡ symbol x ++ u → (reads_letter w p (length w) x ≡ true) × (drop (advanced p x) w ≡ u)
drop_reads w p x u h =
    let all : take (length w) w ≡ w = take-length w in
    let (reads, rest) = slice_reads w p (length w) x u (omega arith) (ap (drop p) all ∙ h) in
    (reads, sym (ap (drop (advanced p x)) all) ∙ rest)

pub slice_grows : (w : List ℕ) (s e x : ℕ) → s ≤ e → reads_letter w e (length w) x ≡ true → slice s (advanced e x) w ≡ slice s e w ++ symbol x
slice_grows w s e zero le h = sym (append-nil (slice s e w))
slice_grows w s e (suc x) le h =
    let (lt, same) = reads_suc w e (length w) x h in
    let short : length (take e w) ≡ e = length-take-le e w (omega arith) in
    rw advanced_suc
    (ap (drop s) (take-suc w e 0 lt ∙ ap (λ (a : ℕ). take e w ++ (a ∷ [])) same) ∙ drop-append-le s (take e w) (suc x ∷ []) (omega arith))

pub slice_none : (w : List ℕ) (s e : ℕ) → s ≤ e → e ≤ length w → slice s e w ≡ [] → s ≡ e
slice_none w s e le in_word h =
    let l = length-slice s e w in_word in
    let z = ap length h in
    omega arith
