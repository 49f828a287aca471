-- The laws of specs/Tables.antt.
--
-- empty_start, empty_next    == the rows of a second half, from its end back
-- blank_on                   == a blank row of a second half stays blank
-- halves_slices              == equal halves as strings
-- emptied_row, unmatched_row == the row after the change of mode, where the halves match and where they do not
-- buffer_past                == the row of a buffer that is longer than what is left of the word
-- buffer_next                == the rows of a first half, from its end back
-- nears                      == the states kept in normal mode at a position
-- position_before, position_end    == the rows of a position, before the end of the word and at it
use Prim.Native.Nat.{ℕ, zero, suc, ◌+◌, ◌-◌, ◌*◌, ◌≤◌, ◌<◌}
use Rattle.std.specs.Prelude.{◌≡◌, ◌↔◌, Bool, true, get_or, take}
use Rattle.std.proofs.Math.Path.{refl, sym, ap}
use Rattle.std.proofs.Common.{◌∙◌, subst, add-one, take-suc, get_or-drop, get_or-take, ext_get_or, length-take-le}
use mathlib.Core.List.{List, [], ◌∷◌, ◌++◌}
use native.Mathlib.Omega.{arith}
use Rattle.std.proofs.Math.Decide.{ℕ_discrete}
use Rattle.std.proofs.Math.ListN.{length, drop, length-drop, get_or-append}
use Rattle.std.proofs.Math.Seq.{slice, slice-cons, slice_empty, length-slice, drop-cons, drop-length}
use Rattle.std.proofs.lemmas.List.{drop-append-le}
use Rattle.std.specs.Int.Bits.{bit_and}
use Rattle.stateset.specs.Set.{In, below}
use Rattle.fsbm.specs.Published.{config}
use Rattle.fsbm.specs.declared.machine.Machine.{Machine}
use Rattle.fsbm.specs.declared.config.Mode.{Mode}
use Rattle.fsbm.specs.declared.config.Mode.TheVariants.{Normal, Buffering, Emptying}
use Rattle.fsbm.specs.Rules.{Rules}
use Rattle.layers.specs.Costs.{Near, Go, RowBest}
use Rattle.layers.specs.Costs.Laws.{Fits, go_fit, best_none}
use Rattle.layers.specs.Layers.{head_of, tail_of, blank_row, EmptyingLayer, BufferingLayer, Begins, PositionLayer, PositionBest}
use Rattle.layers.specs.Layers.Laws.{blank_at, blank_emptying}
use Rattle.tables.specs.Halves.{Halves}
use Rattle.tables.specs.Tables.{near_of, row_at, PositionRows, EmptyRow, BufferRow, BlankFrom}

module _ (m : Machine) (list sets w : List ℕ) where
  pub empty_start : (t : List (List ℕ)) (e : ℕ) → PositionRows m list sets w t e → EmptyRow m list sets w e 0 (row_at t (e * 3 + 2))
  unfolding PositionRows EmptyRow
  empty_start t e h =
      let z : e - 0 ≡ e = omega arith in
      rw (z, slice_empty) h.emptying

  pub empty_next : (e r x : ℕ) (row row' : List ℕ) → r < e → e ≤ length w → x ≡ get_or w (e - (r + 1)) 0 → EmptyRow m list sets w e r row → EmptyingLayer m list x row row' → EmptyRow m list sets w e (r + 1) row'
  unfolding EmptyRow
  empty_next e r x row row' lt le x_is best layer =
      let here : suc (e - (r + 1)) ≡ e - r = omega arith in
      let input : drop (e - (r + 1)) w ≡ x ∷ drop (e - r) w = drop-cons w (e - (r + 1)) 0 (omega arith) ∙ rw (here, x_is) refl in
      let stored : slice (e - (r + 1)) e w ≡ x ∷ slice (e - r) e w = slice-cons (e - (r + 1)) e w 0 (omega arith) le ∙ rw (here, x_is) refl in
      rw (input, stored) (layer.best (near_of m w sets) (drop (e - r) w) (slice (e - r) e w) best)

  pub blank_on : Rules m list → (e k : ℕ) → e ≤ length w → EmptyRow m list sets w e k blank_row → BlankFrom m list sets w e k
  blank_on rules e k le best zero l b = subst (λ (z : ℕ). EmptyRow m list sets w e z blank_row) (k_zero k l) best
    where
      k_zero : (k : ℕ) → k ≤ 0 → k ≡ 0
      k_zero k l = omega arith
  blank_on rules e k le best (suc r) l b = at (ℕ_discrete k (suc r)) (λ n. blank_on rules e k le best r (below n) (omega arith))
    where
      below : (k ≡ suc r → ⊥) → k ≤ r
      below n = omega arith

      at : Dec (k ≡ suc r) → ((k ≡ suc r → ⊥) → EmptyRow m list sets w e r blank_row) → EmptyRow m list sets w e (suc r) blank_row
      at (yes z) before = subst (λ (z : ℕ). EmptyRow m list sets w e z blank_row) z best
      at (no z) before =
          let x = get_or w (e - (r + 1)) 0 in
          let s : r + 1 ≡ suc r = omega arith in
          subst (λ (z : ℕ). EmptyRow m list sets w e z blank_row) s (empty_next e r x blank_row blank_row (omega arith) le refl (before z) (blank_emptying m list rules x))

  -- a stretch by its letters
  pub slice_at : (i j k : ℕ) → i + k < j → get_or (slice i j w) k 0 ≡ get_or w (i + k) 0
  slice_at i j k l = get_or-drop i (take j w) k 0 ∙ get_or-take j w (i + k) 0 l

  pub halves_slices : (i d : ℕ) → i + d + d ≤ length w → Halves w i d → slice i (i + d) w ≡ slice (i + d) (i + d + d) w
  halves_slices i d le h =
      let a = length-slice i (i + d) w (omega arith) in
      let b = length-slice (i + d) (i + d + d) w le in
      ext_get_or 0 (slice i (i + d) w) (slice (i + d) (i + d + d) w) (omega arith)
      (λ k (l : k < length (slice i (i + d) w)). slice_at i (i + d) k (omega arith) ∙ h k (omega arith) ∙ sym (slice_at (i + d) (i + d + d) k (omega arith)))

  -- the letters of a string that stands at the front of the rest of the word
  pub front_letters : (p : ℕ) (v rest : List ℕ) → drop p w ≡ v ++ rest → (k : ℕ) → k < length v → get_or v k 0 ≡ get_or w (p + k) 0
  front_letters p v rest e k l = sym (get_or-append v rest 0 k l) ∙ ap (λ (s : List ℕ). get_or s k 0) (sym e) ∙ get_or-drop p w k 0

  pub emptied_row : (i d : ℕ) (row : List ℕ) → i + d + d ≤ length w → Halves w i d → EmptyRow m list sets w (i + d + d) d row → RowBest m list (near_of m w sets) (drop (i + d) w) (slice i (i + d) w) Emptying row
  unfolding EmptyRow
  emptied_row i d row le h best =
      let z : i + d + d - d ≡ i + d = omega arith in
      let e = halves_slices i d le h in
      rw e (rw z at best)

  -- where there is no way, the blank row is right
  blank_best : (u v : List ℕ) (t : Mode) → m.states ≤ 64 → ((q n : ℕ) → Go m list (near_of m w sets) (config u q v t) n → ⊥) → RowBest m list (near_of m w sets) u v t blank_row
  blank_best u v t fit never q lt = rw (blank_at q (omega arith)) (best_none m list (never q))

  pub unmatched_row : (i d : ℕ) → m.states ≤ 64 → i + d ≤ length w → (Halves w i d → ⊥) → RowBest m list (near_of m w sets) (drop (i + d) w) (slice i (i + d) w) Emptying blank_row
  unfolding Fits
  unmatched_row i d fit le differ = blank_best (drop (i + d) w) (slice i (i + d) w) Emptying fit never
    where
      never : (q n : ℕ) → Go m list (near_of m w sets) (config (drop (i + d) w) q (slice i (i + d) w) Emptying) n → ⊥
      never q n g =
          let f = go_fit m list g in
          let a = length-slice i (i + d) w le in
          differ (λ k (l : k < d). sym (slice_at i (i + d) k (omega arith)) ∙ front_letters (i + d) (slice i (i + d) w) f.0 f.1 k (omega arith))

  pub buffer_past : (i d : ℕ) → m.states ≤ 64 → i + d ≤ length w → length w < i + d + d → BufferRow m list sets w i d blank_row
  unfolding BufferRow Fits
  buffer_past i d fit le past = blank_best (drop (i + d) w) (slice i (i + d) w) Buffering fit never
    where
      never : (q n : ℕ) → Go m list (near_of m w sets) (config (drop (i + d) w) q (slice i (i + d) w) Buffering) n → ⊥
      never q n g =
          let f : length (slice i (i + d) w) ≤ length (drop (i + d) w) = go_fit m list g in
          let a = length-slice i (i + d) w le in
          let b = length-drop (i + d) w in
          omega arith

  head_drop : (p : ℕ) → p < length w → head_of (drop p w) ≡ get_or w p 0
  unfolding head_of
  head_drop p l = ap head_of (drop-cons w p 0 l)

  tail_drop : (p : ℕ) → p < length w → tail_of (drop p w) ≡ drop (p + 1) w
  unfolding tail_of
  tail_drop p l = ap tail_of (drop-cons w p 0 l) ∙ ap (λ (k : ℕ). drop k w) (sym (add-one p))

  slice_longer : (i j : ℕ) → i ≤ j → j < length w → slice i (j + 1) w ≡ slice i j w ++ (get_or w j 0 ∷ [])
  slice_longer i j le lt =
      let short = length-take-le j w (omega arith) in
      ap (λ (k : ℕ). slice i k w) (add-one j) ∙ ap (drop i) (take-suc w j 0 lt) ∙ drop-append-le i (take j w) (get_or w j 0 ∷ []) (omega arith)

  pub buffer_next : (i d x : ℕ) (next emptied row : List ℕ) → i + d < length w → x ≡ get_or w (i + d) 0 → BufferRow m list sets w i (d + 1) next
      → RowBest m list (near_of m w sets) (drop (i + d) w) (slice i (i + d) w) Emptying emptied → BufferingLayer m list x next emptied row → BufferRow m list sets w i d row
  unfolding BufferRow
  buffer_next i d x next emptied row lt x_is best best-emptied layer =
      let z : i + (d + 1) ≡ i + d + 1 = omega arith in
      let longer = slice_longer i (i + d) (omega arith) lt ∙ ap (λ (y : ℕ). slice i (i + d) w ++ (y ∷ [])) (sym x_is) in
      let tail = tail_drop (i + d) lt in
      let best' : RowBest m list (near_of m w sets) (tail_of (drop (i + d) w)) (slice i (i + d) w ++ (x ∷ [])) Buffering next = rw (tail, ← longer) (rw z at best) in
      layer.best (near_of m w sets) (drop (i + d) w) (slice i (i + d) w) (x_is ∙ sym (head_drop (i + d) lt)) (λ l. best') best-emptied

  -- The position p, before the end of the word and at it

  pub nears : (p near : ℕ) → p ≤ length w → near ≡ bit_and (get_or sets p 0) (below m.states) → (q : ℕ) → Near (near_of m w sets) (drop p w) q ↔ In near q
  nears p near le e q =
      let a = length-drop p w in
      let z : length w - length (drop p w) ≡ p = omega arith in
      let same : near_of m w sets (length (drop p w)) ≡ near = ap (λ (k : ℕ). bit_and (get_or sets k 0) (below m.states)) z ∙ sym e in
      (λ i. subst (λ (n : ℕ). In n q) same i, λ i. subst (λ (n : ℕ). In n q) (sym same) i)

  pub position_before : (p near x : ℕ) (next-n next-b n b e : List ℕ) → p < length w → near ≡ bit_and (get_or sets p 0) (below m.states) → x ≡ get_or w p 0
      → RowBest m list (near_of m w sets) (drop (p + 1) w) [] Normal next-n → (Begins m (near_of m w sets) (drop p w) → BufferRow m list sets w p 1 next-b)
      → (last : Bool) → (last ≡ true → ⊥) → PositionLayer m list near last x next-n next-b n b e → PositionBest m list (near_of m w sets) (drop p w) n b e
  unfolding BufferRow
  position_before p near x next-n next-b n b e lt near-is x_is best-n best-b last not_last layer =
      let tail = tail_drop p lt in
      let one = slice_longer p p (omega arith) lt ∙ ap (λ (v : List ℕ). v ++ (get_or w p 0 ∷ [])) (slice_empty p w) ∙ ap (λ (y : ℕ). y ∷ []) (sym x_is) in
      let best_n' : RowBest m list (near_of m w sets) (tail_of (drop p w)) [] Normal next-n = rw tail best-n in
      let best_b' : Begins m (near_of m w sets) (drop p w) → RowBest m list (near_of m w sets) (tail_of (drop p w)) (x ∷ []) Buffering next-b = λ some. rw (tail, ← one) (best-b some) in
      layer.best (near_of m w sets) (drop p w) (nears p near (omega arith) near-is) (λ t. absurd (not_last t), λ z. absurd (some z)) (x_is ∙ sym (head_drop p lt)) (λ l. best_n') (λ z l. best_b' z)
    where
      some : drop p w ≡ [] → ⊥
      some z = let a = length-drop p w in let b = ap length z in omega arith

  pub position_end : (p near : ℕ) (next-n next-b n b e : List ℕ) → p ≡ length w → near ≡ bit_and (get_or sets p 0) (below m.states) → (last : Bool) → last ≡ true → PositionLayer m list near last 0 next-n next-b n b e
      → PositionBest m list (near_of m w sets) (drop p w) n b e
  unfolding head_of
  position_end p near next-n next-b n b e at_end near-is last is layer =
      let z : drop p w ≡ [] = ap (λ (k : ℕ). drop k w) at_end ∙ drop-length w in
      layer.best (near_of m w sets) (drop p w) (nears p near (omega arith) near-is) (λ t. z, λ t. is) (ap head_of (sym z)) (λ (l : 0 < 0). absurd (omega arith)) (λ y (l : 0 < 0). absurd (omega arith))
