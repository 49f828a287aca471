-- The laws of specs/Rows.antt.
--
-- cell_inside      == a row that is taken has its cells within the steps
-- row_taken        == a step that is found leads to a row that is taken
-- found_right      == and to the right set
-- row_made, row_same == one row more, or none
-- step_noted       == one step more
-- kept_start       == nothing is kept
-- begun_image, reads_image == what columns stand for, and image_begun, image_reads, the way back
-- begun_from, from_begun == the states where a mode begins, as a set
-- reads_normal, normal_reads == reading in normal mode; reads_copying == reading in the others
-- cell_small       == the products that say where a cell stands are small
use Rattle.std.specs.Prelude.{ℕ, suc, ◌+◌, ◌*◌, ◌≤◌, ◌<◌, ◌≡◌, ◌⊎◌, List, set, Option, Some, IfSome}
use Rattle.std.proofs.Common.{sym, ◌∙◌, ap, inl, arith, mul-le-mul}
use Rattle.std.proofs.Math.Path.{subst}
use Rattle.std.proofs.Math.Logic.{inr}
use Rattle.std.proofs.Math.Decide.{ℕ_discrete}
use Rattle.std.proofs.Math.ListN.{length, get_or, length-set}
use Rattle.std.proofs.Math.Seq.{get_or-set_same, get_or-set_other}
use Rattle.basics.specs.Pairs.{pair_below, pair_same}
use Rattle.stateset.specs.Set.{In}
use Rattle.fsbm.specs.Moves.{mode_number}
use Rattle.fsbm.specs.Moves.Laws.{mode_below, mode_same}
use Rattle.fsbm.specs.declared.config.Mode.{Mode}
use Rattle.fsbm.specs.declared.config.Mode.TheVariants.{Buffering, Emptying}
use Rattle.images.specs.Graph.{Members, From, Graph, Advance}
use Rattle.images.proofs.SetCases.{members_as}
use Rattle.subsets.specs.Rows.{slots, most_columns, cell_of, Begun, Reads, Image, begun, reads, HasRow, Leads, Sized, Right, Kept, Found, Rowed, Noted}

-- cells

past_slots : (a c b d : ℕ) → slots + a + c ≡ slots + b + d → a + c ≡ b + d
past_slots a c b d e = omega arith

three_same : (r a s b : ℕ) → a < 3 → b < 3 → r * 3 + a ≡ s * 3 + b → (r ≡ s) × (a ≡ b)
three_same r a s b la lb e = (omega arith, omega arith)

cells_apart : (columns r : ℕ) (T : Mode) (c s : ℕ) (U : Mode) (d : ℕ) → c < columns → d < columns → cell_of columns r T c ≡ cell_of columns s U d → (r ≡ s) × (T ≡ U) × (c ≡ d)
cells_apart columns r T c s U d lc ld e =
    let (a, b) = pair_same columns (r * 3 + mode_number T) c (s * 3 + mode_number U) d lc ld (past_slots ((r * 3 + mode_number T) * columns) c ((s * 3 + mode_number U) * columns) d e) in
    let (x, y) = three_same r (mode_number T) s (mode_number U) (mode_below T) (mode_below U) a in
    (x, mode_same T U y, b)

below_three : (r a n c p : ℕ) → slots + p ≤ n → a + c < p → slots + a + c < n
below_three r a n c p h l = omega arith

pub cell_inside : (columns : ℕ) (rows steps : List ℕ) (r : ℕ) (T : Mode) (c : ℕ) → Sized columns rows steps → c < columns → 0 < r → r < get_or rows 0 0 → cell_of columns r T c < length steps
cell_inside columns rows steps r T c z lc some taken =
    let i = mode_below T in
    below_three r ((r * 3 + mode_number T) * columns) (length steps) c ((r * 3 + 3) * columns) (z.room r some taken)
    (pair_below (r * 3 + 3) columns (r * 3 + mode_number T) c (omega arith) lc)

cell_past : (a c slot : ℕ) → slot < slots → slots + a + c ≡ slot → ⊥
cell_past a c slot l e = omega arith

-- what is found

module _ (columns : ℕ) (rows steps : List ℕ) (T : Mode) (c set row r : ℕ) (f : Found columns rows steps T c set row r) where
  pub row_taken : Sized columns rows steps → r < get_or rows 0 0
  row_taken z = at (z.steps_lead row T c f.column)
    where
      at : (get_or steps (cell_of columns row T c) 0 ≡ 0) ⊎ Leads rows row (get_or steps (cell_of columns row T c) 0) → r < get_or rows 0 0
      at (inl e) = let s = f.some in let d = f.step in absurd (omega arith)
      at (inr l) = let d = f.step in let t = l.to_taken in omega arith

  pub found_right : (G : Graph) → Right G columns rows steps → Members (get_or rows r 0) (From set (Image G T c))
  found_right G right =
      subst (λ (s : ℕ). Members (get_or rows r 0) (From s (Image G T c))) f.own.own
      (subst (λ (n : ℕ). Members (get_or rows n 0) (From (get_or rows row 0) (Image G T c))) (sym f.step) (right row T c f.column (let s = f.some in let d = f.step in omega arith)))

-- one row more

module _ (columns : ℕ) (rows steps : List ℕ) (s slot : ℕ) (z : Sized columns rows steps) (low : slot < slots) (taken : ℕ) (at-taken : taken ≡ get_or rows 0 0) (some : 0 < taken)
    (free : taken < length rows) (few : taken < 65535) (room : slots + (taken * 3 + 3) * columns ≤ length steps) where
  rows' : List ℕ
  rows' = set (set rows taken s) 0 (taken + 1)

  steps' : List ℕ
  steps' = set steps slot taken

  count_now : get_or rows' 0 0 ≡ taken + 1
  unfolding rows'
  count_now = get_or-set_same (set rows taken s) 0 (taken + 1) 0 (let l = length-set rows taken s in omega arith)

  new_now : get_or rows' taken 0 ≡ s
  unfolding rows'
  new_now = get_or-set_other (set rows taken s) 0 taken (taken + 1) 0 (λ e. absurd (omega arith)) ∙ get_or-set_same rows taken s 0 free

  old_now : (r : ℕ) → 0 < r → r < taken → get_or rows' r 0 ≡ get_or rows r 0
  unfolding rows'
  old_now r p l = get_or-set_other (set rows taken s) 0 r (taken + 1) 0 (λ e. absurd (omega arith)) ∙ get_or-set_other rows taken r s 0 (λ e. absurd (omega arith))

  cell_now : (r : ℕ) (T : Mode) (c : ℕ) → get_or steps' (cell_of columns r T c) 0 ≡ get_or steps (cell_of columns r T c) 0
  unfolding steps'
  cell_now r T c = get_or-set_other steps slot (cell_of columns r T c) taken 0 (λ e. cell_past ((r * 3 + mode_number T) * columns) c slot low e)

  made_sized : Sized columns rows' steps'
  unfolding rows' steps'
  made_sized =
      let l = length-set (set rows taken s) 0 (taken + 1) ∙ length-set rows taken s in
      let m = length-set steps slot taken in
      record {
        few = z.few;
        some = omega arith;
        counted = let n = count_now in omega arith;
        numbered = let n = count_now in omega arith;
        room = λ r p t. rooms r p t (ℕ_discrete r taken);
        steps_lead = λ r T c lc. lead r T c (z.steps_lead r T c lc);
      }
    where
      rooms : (r : ℕ) → 0 < r → r < get_or rows' 0 0 → Dec (r ≡ taken) → slots + (r * 3 + 3) * columns ≤ length steps'
      rooms r p t (yes e) = subst (λ (n : ℕ). slots + (r * 3 + 3) * columns ≤ n) (sym (length-set steps slot taken)) (subst (λ (n : ℕ). slots + (n * 3 + 3) * columns ≤ length steps) (sym e) room)
      rooms r p t (no n) = subst (λ (n : ℕ). slots + (r * 3 + 3) * columns ≤ n) (sym (length-set steps slot taken)) (z.room r p (let a = count_now in omega arith))

      lead : (r : ℕ) (T : Mode) (c : ℕ) → (get_or steps (cell_of columns r T c) 0 ≡ 0) ⊎ Leads rows r (get_or steps (cell_of columns r T c) 0)
          → (get_or steps' (cell_of columns r T c) 0 ≡ 0) ⊎ Leads rows' r (get_or steps' (cell_of columns r T c) 0)
      lead r T c (inl e) = inl (cell_now r T c ∙ e)
      lead r T c (inr l) =
          let a = count_now in
          let b = cell_now r T c in
          let x = l.from_taken in
          let y = l.to_taken in
          inr (record { some = l.some; from_taken = omega arith; to_taken = omega arith })

  made_right : (G : Graph) → Right G columns rows steps → Right G columns rows' steps'
  made_right G right r T c lc p =
      let e = cell_now r T c in
      at (z.steps_lead r T c lc) (omega arith) e
    where
      at : (get_or steps (cell_of columns r T c) 0 ≡ 0) ⊎ Leads rows r (get_or steps (cell_of columns r T c) 0) → 0 < get_or steps (cell_of columns r T c) 0
          → get_or steps' (cell_of columns r T c) 0 ≡ get_or steps (cell_of columns r T c) 0 → Members (get_or rows' (get_or steps' (cell_of columns r T c) 0) 0) (From (get_or rows' r 0) (Image G T c))
      at (inl n) q e = absurd (omega arith)
      at (inr l) q e =
          let to : ℕ = get_or steps (cell_of columns r T c) 0 in
          let x = l.from_taken in
          let y = l.to_taken in
          subst (λ (n : ℕ). Members (get_or rows' n 0) (From (get_or rows' r 0) (Image G T c))) (sym e)
          (subst (λ (n : ℕ). Members n (From (get_or rows' r 0) (Image G T c))) (sym (old_now to q (omega arith)))
          (subst (λ (n : ℕ). Members (get_or rows to 0) (From n (Image G T c))) (sym (old_now r l.some (omega arith))) (right r T c lc q)))

  pub row_made : Rowed columns rows steps (set (set rows taken s) 0 (taken + 1)) (set steps slot taken) s (Some taken)
  unfolding rows' steps'
  row_made =
      record { row = record { some = some; taken = let a = count_now in omega arith; own = new_now }; sized = made_sized; right = made_right }

-- no row more
pub row_same : (columns : ℕ) (rows steps : List ℕ) (s : ℕ) (r : Option ℕ) → Sized columns rows steps → IfSome r (HasRow rows s) → Rowed columns rows steps rows steps s r
row_same columns rows steps s r z h = record { row = h; sized = z; right = λ G right. right }

-- one step more

module _ (columns : ℕ) (rows steps : List ℕ) (T : Mode) (c s row to torow : ℕ) (z : Sized columns rows steps) (lc : c < columns) (own : HasRow rows s row) (towards : HasRow rows to torow) where
  inside : cell_of columns row T c < length steps
  inside = cell_inside columns rows steps row T c z lc own.some own.taken

  pub step_noted : Noted columns rows steps (set steps (cell_of columns row T c) torow) T c s to
  step_noted =
      record {
        sized = record {
          few = z.few;
          some = z.some;
          counted = z.counted;
          numbered = z.numbered;
          room = λ r p t. subst (λ (n : ℕ). slots + (r * 3 + 3) * columns ≤ n) (sym (length-set steps (cell_of columns row T c) torow)) (z.room r p t);
          steps_lead = λ r U d ld. lead r U d ld (ℕ_discrete (cell_of columns r U d) (cell_of columns row T c));
        };
        right = λ G right m r U d ld p. rightly G right m r U d ld p (ℕ_discrete (cell_of columns r U d) (cell_of columns row T c));
      }
    where
      same : (k : ℕ) → k ≡ cell_of columns row T c → get_or (set steps (cell_of columns row T c) torow) k 0 ≡ torow
      same k e = ap (λ (j : ℕ). get_or (set steps (cell_of columns row T c) torow) j 0) e ∙ get_or-set_same steps (cell_of columns row T c) torow 0 inside

      other : (k : ℕ) → (k ≡ cell_of columns row T c → ⊥) → get_or (set steps (cell_of columns row T c) torow) k 0 ≡ get_or steps k 0
      other k n = get_or-set_other steps (cell_of columns row T c) k torow 0 n

      lead : (r : ℕ) (U : Mode) (d : ℕ) → d < columns → Dec (cell_of columns r U d ≡ cell_of columns row T c)
          → (get_or (set steps (cell_of columns row T c) torow) (cell_of columns r U d) 0 ≡ 0) ⊎ Leads rows r (get_or (set steps (cell_of columns row T c) torow) (cell_of columns r U d) 0)
      lead r U d ld (yes e) =
          let (x, y, w) = cells_apart columns r U d row T c ld lc e in
          let f = same (cell_of columns r U d) e in
          let a = own.taken in
          let b = towards.taken in
          inr (record { some = let p = own.some in omega arith; from_taken = omega arith; to_taken = omega arith })
      lead r U d ld (no n) =
          subst (λ (k : ℕ). (k ≡ 0) ⊎ Leads rows r k) (sym (other (cell_of columns r U d) n)) (z.steps_lead r U d ld)

      rightly : (G : Graph) → Right G columns rows steps → Members to (From s (Image G T c)) → (r : ℕ) (U : Mode) (d : ℕ) → d < columns
          → 0 < get_or (set steps (cell_of columns row T c) torow) (cell_of columns r U d) 0 → Dec (cell_of columns r U d ≡ cell_of columns row T c)
          → Members (get_or rows (get_or (set steps (cell_of columns row T c) torow) (cell_of columns r U d) 0) 0) (From (get_or rows r 0) (Image G U d))
      rightly G right m r U d ld p (yes e) =
          let (x, y, w) = cells_apart columns r U d row T c ld lc e in
          subst (λ (k : ℕ). Members (get_or rows k 0) (From (get_or rows r 0) (Image G U d))) (sym (same (cell_of columns r U d) e))
          (subst (λ (k : ℕ). Members k (From (get_or rows r 0) (Image G U d))) (sym towards.own)
          (subst (λ (k : ℕ). Members to (From k (Image G U d))) (sym (ap (λ (k : ℕ). get_or rows k 0) x ∙ own.own))
          (subst (λ (mode : Mode). Members to (From s (Image G mode d))) (sym y) (subst (λ (k : ℕ). Members to (From s (Image G T k))) (sym w) m))))
      rightly G right m r U d ld p (no n) =
          let e = other (cell_of columns r U d) n in
          subst (λ (k : ℕ). Members (get_or rows k 0) (From (get_or rows r 0) (Image G U d))) (sym e) (right r U d ld (omega arith))

-- nothing is kept

pub kept_start : (G : Graph) (columns : ℕ) (rows steps : List ℕ) → columns ≤ most_columns → 0 < length rows → get_or rows 0 0 ≡ 1 → ((i : ℕ) → get_or steps i 0 ≡ 0) → Kept G columns rows steps
kept_start G columns rows steps few some one none =
    record {
      sized = record {
        few = few;
        some = some;
        counted = omega arith;
        numbered = omega arith;
        room = λ r p t. absurd (omega arith);
        steps_lead = λ r T c lc. inl (none (cell_of columns r T c));
      };
      right = λ r T c lc p. let e = none (cell_of columns r T c) in absurd (omega arith);
    }

-- columns

module _ (G : Graph) (T : Mode) (s r : ℕ) where
  pub begun_image : (c : ℕ) → c ≡ 0 → Members r (From s (Begun G T)) → Members r (From s (Image G T c))
  begun_image c e m = members_as m (λ q f. (f.0, f.1, begun e f.2)) back
    where
      back : (q : ℕ) → From s (Image G T c) q → From s (Begun G T) q
      back q (p, i, begun z b) = (p, i, b)
      back q (p, i, reads x z b) = absurd (omega arith)

  pub reads_image : (c x : ℕ) → c ≡ suc x → Members r (From s (Reads G T x)) → Members r (From s (Image G T c))
  reads_image c x e m = members_as m (λ q f. (f.0, f.1, reads x e f.2)) back
    where
      back : (q : ℕ) → From s (Image G T c) q → From s (Reads G T x) q
      back q (p, i, begun z b) = absurd (omega arith)
      back q (p, i, reads y z b) = let d : y ≡ x = omega arith in (p, i, subst (λ (k : ℕ). Reads G T k p q) d b)

  pub image_begun : (c : ℕ) → c ≡ 0 → Members r (From s (Image G T c)) → Members r (From s (Begun G T))
  image_begun c e m = members_as m back (λ q f. (f.0, f.1, begun e f.2))
    where
      back : (q : ℕ) → From s (Image G T c) q → From s (Begun G T) q
      back q (p, i, begun z b) = (p, i, b)
      back q (p, i, reads x z b) = absurd (omega arith)

  pub image_reads : (c x : ℕ) → c ≡ suc x → Members r (From s (Image G T c)) → Members r (From s (Reads G T x))
  image_reads c x e m = members_as m back (λ q f. (f.0, f.1, reads x e f.2))
    where
      back : (q : ℕ) → From s (Image G T c) q → From s (Reads G T x) q
      back q (p, i, begun z b) = absurd (omega arith)
      back q (p, i, reads y z b) = let d : y ≡ x = omega arith in (p, i, subst (λ (k : ℕ). Reads G T k p q) d b)

-- the states of a set where a mode begins
module _ (s kind part r : ℕ) (R : ℕ → ℕ → Type 0) (m : Members part (λ q. In s q × In kind q)) where
  pub begun_from : Members r (From part R) → Members r (From s (λ p q. In kind p × R p q))
  begun_from n =
      members_as n (λ q f. (f.0, ((m.members f.0).0 f.1).0, (((m.members f.0).0 f.1).1, f.2))) (λ q f. (f.0, (m.members f.0).1 (f.1, f.2.0), f.2.1))

  pub from_begun : Members r (From s (λ p q. In kind p × R p q)) → Members r (From part R)
  from_begun n =
      members_as n (λ q f. (f.0, (m.members f.0).1 (f.1, f.2.0), f.2.1)) (λ q f. (f.0, ((m.members f.0).0 f.1).0, (((m.members f.0).0 f.1).1, f.2)))

module _ (x s r : ℕ) (R : ℕ → ℕ → Type 0) where
  pub reads_normal : Members r (λ q. (0 < x) × From s R q) → Members r (From s (λ p q. (0 < x) × R p q))
  reads_normal m = members_as m (λ q f. (f.1.0, f.1.1, (f.0, f.1.2))) (λ q f. (f.2.0, (f.0, f.1, f.2.1)))

  pub normal_reads : Members r (From s (λ p q. (0 < x) × R p q)) → Members r (λ q. (0 < x) × From s R q)
  normal_reads m = members_as m (λ q f. (f.2.0, (f.0, f.1, f.2.1))) (λ q f. (f.1.0, f.1.1, (f.0, f.1.2)))

pub reads_copying : (G : Graph) (T : Mode) (x s r : ℕ) → (T ≡ Buffering) ⊎ (T ≡ Emptying) → Members r (From s (Advance G T x)) → Members r (From s (Reads G T x))
reads_copying G T x s r (inl e) m = rw e (rw e at m)
reads_copying G T x s r (inr e) m = rw e (rw e at m)

-- the products are small
pub cell_small : (a columns : ℕ) → a ≤ 196608 → columns ≤ most_columns → a * columns ≤ 196608 * 257
cell_small a columns x y = mul-le-mul x y
