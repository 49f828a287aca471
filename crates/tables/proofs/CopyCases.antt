-- The ways through the functions of src/copy.rt.
--
-- row_same, row_other         == a row that was put into a table, and the others
-- empty_rows_next             == the loop of emptying_rows
-- extended_blank              == the error of extend
-- ended_anew                  == ended_row where the end begins anew
-- change_none, change_same, change_blank == the returns of fresh_change
-- change_unmatched, change_ended == the returns of change_row
-- stored_none                 == stored_row where no row is there
-- skip_blank                  == copies that are fruitless
-- Storing, storing_start, storing_next, storing_skip == the loop of storing_row
-- Buffered, buffer_rows_start, buffer_rows_next == the loop of buffering_rows
use Prim.Native.Nat.{ℕ, zero, suc, ◌+◌, ◌-◌, ◌/◌, ◌≤◌, ◌<◌}
use mathlib.Core.Path.{◌≡◌, refl, sym, ap, ◌∙◌, subst}
use mathlib.Core.Logic.{inl, inr}
use mathlib.Core.Bool.{false, false≢true}
use mathlib.Core.List.{List, []}
use native.Mathlib.Omega.{arith}
use native.Mathlib.Decide.{ℕ_discrete}
use lib.ListN.{length, get_or, set, drop, length-set}
use lib.Seq.{slice, get_or-set_same, get_or-set_other}
use Rattle.fsbm.specs.declared.machine.Machine.{Machine}
use Rattle.fsbm.specs.declared.config.Mode.TheVariants.{Emptying}
use Rattle.fsbm.specs.Rules.{Rules}
use Rattle.layers.specs.Costs.{RowBest}
use Rattle.layers.specs.Layers.Laws.{blank_buffering}
use Rattle.layers.specs.Layers.{blank_row, row_of, EmptyingLayer}
use Rattle.std.specs.Prelude.{Option, None, Some, is_some}
use Rattle.tables.specs.declared.ends.Left.{Left}
use Rattle.tables.specs.declared.ends.Left.TheVariants.{Kept, Blank}
use Rattle.tables.specs.Halves.{Halves, SharedFrom}
use Rattle.tables.specs.Halves.Laws.{shared_halves, shared_unequal}
use Rattle.tables.specs.Tables.{near_of, row_at, EmptyRow, BufferRow, EmptyingRows, ChangeLayer, BlankFrom, EndRow, EndRows, BlankBy, Fruitless, Skipped, EndedRow, ChangedRow, StoredRow}
use Rattle.tables.specs.Tables.Laws.{empty_next, blank_on, emptied_row, unmatched_row, buffer_past, buffer_next}

-- a row that was put into a table
pub row_same : (rows rows' : List (List ℕ)) (i : ℕ) (row : List ℕ) → i < length rows → rows' ≡ set rows i row → row_at rows' i ≡ row
row_same rows rows' i row l e = ap (λ (z : List (List ℕ)). row_at z i) e ∙ get_or-set_same rows i row [] l

pub row_other : (rows rows' : List (List ℕ)) (i j : ℕ) (row : List ℕ) → (j ≡ i → ⊥) → rows' ≡ set rows i row → row_at rows' j ≡ row_at rows j
row_other rows rows' i j row n e = ap (λ (z : List (List ℕ)). row_at z j) e ∙ get_or-set_other rows i j row [] n

module _ (m : Machine) (list sets w : List ℕ) (e : ℕ) where
  pub empty_rows_next : (r x : ℕ) (rows₀ rows : List (List ℕ)) (row : List ℕ) → r + 1 < length rows₀ → r < e → e ≤ length w → x ≡ get_or w (e - (r + 1)) 0 → EmptyingRows m list sets w e r rows₀ rows
      → EmptyingLayer m list x (row_at rows r) row → EmptyingRows m list sets w e (r + 1) rows₀ (set rows (r + 1) row)
  empty_rows_next r x rows₀ rows row l lt le x_is f layer =
      let same = row_same rows (set rows (r + 1) row) (r + 1) row (omega (arith, f.size)) refl in
      let best : EmptyRow m list sets w e (r + 1) row = empty_next m list sets w e r x (row_at rows r) row lt le x_is (f.each r (omega arith)) layer in
      record {
        size = length-set rows (r + 1) row ∙ f.size;
        each = λ k k-le. at k k-le (ℕ_discrete k (r + 1)) same best;
      }
    where
      at : (k : ℕ) → k ≤ r + 1 → Dec (k ≡ r + 1) → row_at (set rows (r + 1) row) (r + 1) ≡ row → EmptyRow m list sets w e (r + 1) row → EmptyRow m list sets w e k (row_at (set rows (r + 1) row) k)
      at k k-le (yes z) same best = rw (z, same) best
      at k k-le (no z) same best = subst (EmptyRow m list sets w e k) (sym (row_other rows (set rows (r + 1) row) (r + 1) k row z refl)) (f.each k (omega arith))

module _ (m : Machine) (list sets w : List ℕ) (e d : ℕ) where
  pub extended_blank : Rules m list → (k : ℕ) (row : List ℕ) → k ≤ d → e ≤ length w → EmptyRow m list sets w e k row → row ≡ blank_row → (k ≤ d) × BlankFrom m list sets w e k
  extended_blank rules k row within le best blank = (within, blank_on m list sets w rules e k le (subst (EmptyRow m list sets w e k) blank best))

  -- an end that was extended, or is known to be blank
  kept : (p : ℕ) (ends ends' : List (List ℕ)) (left left' : List Left) (k : Left) → length ends' ≡ length ends → ((j : ℕ) → (j ≡ e → ⊥) → row_at ends' j ≡ row_at ends j) → left' ≡ set left e k
      → e < length left → EndRow m list sets w e (row_at ends' e) k → EndRows m list sets w p ends left → EndRows m list sets w p ends' left'
  kept p ends ends' left left' k size others is in_left row f =
      record {
        rows = omega (arith, f.rows, size);
        counts = let s = ap length is ∙ length-set left e k in omega (arith, f.counts, s);
        each = λ j a b. at j a b (ℕ_discrete j e);
      }
    where
      at : (j : ℕ) → p ≤ j → j ≤ length w → Dec (j ≡ e) → EndRow m list sets w j (row_at ends' j) (get_or left' j (Kept 0))
      at j a b (yes z) =
          let same = ap (λ (l : List Left). get_or l e (Kept 0)) is ∙ get_or-set_same left e k (Kept 0) in_left in
          subst (λ (i : ℕ). EndRow m list sets w i (row_at ends' i) (get_or left' i (Kept 0))) (sym z) (subst (EndRow m list sets w e (row_at ends' e)) (sym same) row)
      at j a b (no z) =
          let same = ap (λ (l : List Left). get_or l j (Kept 0)) is ∙ get_or-set_other left e j k (Kept 0) z in
          subst (EndRow m list sets w j (row_at ends' j)) (sym same) (subst (λ (r : List ℕ). EndRow m list sets w j r (get_or left j (Kept 0))) (sym (others j z)) (f.each j a b))

  -- an end that begins anew before it is extended
  pub ended_anew : (first : List ℕ) (ends ends₁ ends' : List (List ℕ)) (left left₁ left' : List Left) (layer : Option (List ℕ)) → e < length ends → e < length left → EmptyRow m list sets w e 0 first → ends₁ ≡ set ends e first → left₁ ≡ set left e (Kept 0)
      → EndedRow m list sets w e d ends₁ ends' left₁ left' layer → EndedRow m list sets w e d ends ends' left left' layer
  ended_anew first ends ends₁ ends' left left₁ left' layer in-ends in_left best ends_is left_is f =
      record {
        row = f.row;
        kept = λ p g. f.kept p (kept p ends ends₁ left left₁ (Kept 0) (ap length ends_is ∙ length-set ends e first) (λ j n. row_other ends ends₁ e j first n ends_is) left_is in_left
            (omega arith, subst (EmptyRow m list sets w e 0) (sym (row_same ends ends₁ e first in-ends ends_is)) best) g);
      }

module _ (m : Machine) (list sets w : List ℕ) (i d : ℕ) where
  pub change_none : m.states ≤ 64 → i + d ≤ length w → (Halves w i d → ⊥) → ChangeLayer m list sets w i d None
  change_none fit le differ = unmatched_row m list sets w i d fit le differ

  pub change_same : i + d + d ≤ length w → Halves w i d → (layer : Option (List ℕ)) → EmptyRow m list sets w (i + d + d) d (row_of layer) → ChangeLayer m list sets w i d layer
  change_same le h layer best = emptied_row m list sets w i d (row_of layer) le h best

  pub change_unmatched : m.states ≤ 64 → 0 < d → d < 128 → i + d + d ≤ length w → (counts : List ℕ) → SharedFrom w i counts → get_or counts d 0 < d
      → (ends : List (List ℕ)) (left : List Left) → EndRows m list sets w (i + 1) ends left → ChangedRow m list sets w i d ends left None
  change_unmatched fit pos small le counts shared lt ends left f =
      record { row = change_none fit (omega arith) (shared_unequal w i d (get_or counts d 0) le (shared.each d pos small) lt); ending = f }

  pub change_ended : 0 < d → d < 128 → i + d + d ≤ length w → (counts : List ℕ) → SharedFrom w i counts → d ≤ get_or counts d 0 → (layer : Option (List ℕ)) (ends ends' : List (List ℕ)) (left left' : List Left)
      → EndRows m list sets w (i + 1) ends left → EndedRow m list sets w (i + d + d) d ends ends' left left' layer → ChangedRow m list sets w i d ends' left' layer
  change_ended pos small le counts shared l layer ends ends' left left' f g =
      record { row = change_same le (shared_halves w i d (get_or counts d 0) (shared.each d pos small) l) layer g.row; ending = g.kept (i + 1) f }

  pub change_blank : i + d + d ≤ length w → Halves w i d → (k : ℕ) → (k ≤ d) × BlankFrom m list sets w (i + d + d) k → ChangeLayer m list sets w i d None
  change_blank le h k g = change_same le h None (g.1 d g.0 (omega arith))

-- the row of a first half, from the row after it

pub stored_none : (m : Machine) (list : List ℕ) (x : ℕ) (next change : Option (List ℕ)) → Rules m list → is_some next ≡ false → is_some change ≡ false → StoredRow m list x next change None
stored_none m list x None None rules a b = blank_buffering m list rules x
stored_none m list x (Some row) change rules a b = absurd (false≢true (sym a))
stored_none m list x None (Some row) rules a b = absurd (false≢true (sym b))

-- copies that are fruitless

module _ (m : Machine) (list sets w : List ℕ) (rules : Rules m list) (i : ℕ) (ends : List (List ℕ)) (left : List Left) where
  fruitless_change : (k : ℕ) → 0 < k → i + k + k ≤ length w → EndRows m list sets w (i + 1) ends left → Fruitless w i left k → RowBest m list (near_of m w sets) (drop (i + k) w) (slice i (i + k) w) Emptying blank_row
  fruitless_change k pos le f (inl differ) = unmatched_row m list sets w i k rules.states_fit (omega arith) differ
  fruitless_change k pos le f (inr g) = emptied_row m list sets w i k blank_row le g.0 (blank (get_or left (i + k + k) (Kept 0)) (f.each (i + k + k) (omega arith) le) g.1)
    where
      blank : (a : Left) → EndRow m list sets w (i + k + k) (row_at ends (i + k + k)) a → BlankBy a k → EmptyRow m list sets w (i + k + k) k blank_row
      blank (Kept n) row by = absurd by
      blank (Blank n) row by = row k by (omega arith)

  fruitless_row : (k : ℕ) → 0 < k → i + k + k ≤ length w → EndRows m list sets w (i + 1) ends left → Fruitless w i left k → BufferRow m list sets w i (k + 1) blank_row → BufferRow m list sets w i k blank_row
  fruitless_row k pos le f fruitless best =
      buffer_next m list sets w i k (get_or w (i + k) 0) blank_row blank_row blank_row (omega arith) refl best (fruitless_change k pos le f fruitless) (blank_buffering m list rules (get_or w (i + k) 0))

  pub skip_blank : (d r : ℕ) → i + d + d ≤ length w → EndRows m list sets w (i + 1) ends left → Skipped w i d left r → BufferRow m list sets w i (d + 1) blank_row → BufferRow m list sets w i (r + 1) blank_row
  skip_blank zero r le f s best =
      let z : 0 + 1 ≡ r + 1 = omega (arith, s.within) in
      subst (λ (k : ℕ). BufferRow m list sets w i k blank_row) z best
  skip_blank (suc d) r le f s best = at (ℕ_discrete r (suc d)) (λ g h. skip_blank d r (omega arith) f g h)
    where
      at : Dec (r ≡ suc d) → (Skipped w i d left r → BufferRow m list sets w i (d + 1) blank_row → BufferRow m list sets w i (r + 1) blank_row) → BufferRow m list sets w i (r + 1) blank_row
      at (yes z) on = subst (λ (k : ℕ). BufferRow m list sets w i (k + 1) blank_row) (sym z) best
      at (no z) on =
          let e : suc d ≡ d + 1 = omega arith in
          on (record { within = omega (arith, s.within); fruitless = λ k a b. s.fruitless k a (omega arith) })
          (subst (λ (k : ℕ). BufferRow m list sets w i k blank_row) e (fruitless_row (suc d) (omega arith) le f (s.fruitless (suc d) (omega (arith, s.within)) (omega arith)) best))

-- what the loop of storing_row has done once the rows after d are there
pub record Storing (m : Machine) (list sets w : List ℕ) (i d : ℕ) (ends : List (List ℕ)) (left : List Left) (next : Option (List ℕ)) : Type 0 where
  pub inside : i + d + d ≤ length w
  pub row : BufferRow m list sets w i (d + 1) (row_of next)
  pub ending : EndRows m list sets w (i + 1) ends left

module _ (m : Machine) (list sets w : List ℕ) (rules : Rules m list) (i : ℕ) where
  pub storing_start : i < length w → (d : ℕ) → d ≡ (length w - i) / 2 → (ends : List (List ℕ)) (left : List Left) → EndRows m list sets w (i + 1) ends left → Storing m list sets w i d ends left None
  storing_start lt d d-is ends left f = record { inside = omega arith; row = buffer_past m list sets w i (d + 1) rules.states_fit (omega arith) (omega arith); ending = f }

  pub storing_skip : (d r : ℕ) (next : Option (List ℕ)) (ends : List (List ℕ)) (left : List Left) → is_some next ≡ false → Storing m list sets w i d ends left next → Skipped w i d left r → Storing m list sets w i r ends left next
  storing_skip d r None ends left blank f s =
      record {
        inside = omega (arith, f.inside, s.within);
        row = skip_blank m list sets w rules i ends left d r f.inside f.ending s f.row;
        ending = f.ending;
      }
  storing_skip d r (Some row) ends left blank f s = absurd (false≢true (sym blank))

  pub storing_next : (d x : ℕ) (next change next' : Option (List ℕ)) (ends ends' : List (List ℕ)) (left left' : List Left) → 0 < d → x ≡ get_or w (i + d) 0 → Storing m list sets w i d ends left next
      → ChangedRow m list sets w i d ends' left' change → StoredRow m list x next change next' → Storing m list sets w i (d - 1) ends' left' next'
  storing_next d x next change next' ends ends' left left' pos x_is f g s =
      let z : d ≡ d - 1 + 1 = omega arith in
      let best : BufferRow m list sets w i d (row_of next') = buffer_next m list sets w i d x (row_of next) (row_of change) (row_of next') (omega (arith, f.inside)) x_is f.row g.row s in
      record {
        inside = omega (arith, f.inside);
        row = subst (λ (k : ℕ). BufferRow m list sets w i k (row_of next')) z best;
        ending = g.ending;
      }

-- what the loop of buffering_rows has done once the rows from d on are there
pub record Buffered (m : Machine) (list sets w : List ℕ) (i d : ℕ) (stored₀ stored : List (List ℕ)) (next : Option (List ℕ)) : Type 0 where
  pub inside : d ≤ (length w - i) / 2 + 1
  pub size : length stored ≡ length stored₀
  pub each : (k : ℕ) → d ≤ k → i + k + k ≤ length w → BufferRow m list sets w i k (row_at stored k)
  pub row : BufferRow m list sets w i d (row_of next)

module _ (m : Machine) (list sets w : List ℕ) (rules : Rules m list) (i : ℕ) (inside : i < length w) where
  pub buffer_rows_start : (d : ℕ) → d ≡ (length w - i) / 2 + 1 → (stored : List (List ℕ)) → Buffered m list sets w i d stored stored None
  buffer_rows_start d d-is stored =
      record {
        inside = omega arith;
        size = refl;
        each = λ (k : ℕ) (a : d ≤ k) (b : i + k + k ≤ length w). absurd (omega arith);
        row = buffer_past m list sets w i d rules.states_fit (omega arith) (omega arith);
      }

  pub buffer_rows_next : (d₀ d x : ℕ) (next change next' : Option (List ℕ)) (stored₀ stored : List (List ℕ)) (row : List ℕ) → d₀ ≡ d + 1 → d < length stored₀ → x ≡ get_or w (i + d) 0 → Buffered m list sets w i d₀ stored₀ stored next
      → ChangeLayer m list sets w i d change → StoredRow m list x next change next' → row ≡ row_of next' → Buffered m list sets w i d stored₀ (set stored d row) next'
  buffer_rows_next d₀ d x next change next' stored₀ stored row before l x_is f₀ g s row_is =
      let f : Buffered m list sets w i (d + 1) stored₀ stored next = subst (λ (k : ℕ). Buffered m list sets w i k stored₀ stored next) before f₀ in
      let same = row_same stored (set stored d row) d row (omega (arith, f.size)) refl in
      let best : BufferRow m list sets w i d (row_of next') = buffer_next m list sets w i d x (row_of next) (row_of change) (row_of next') (omega (arith, f.inside)) x_is f.row g s in
      record {
        inside = omega (arith, f.inside);
        size = length-set stored d row ∙ f.size;
        each = λ k a b. at f k a b (ℕ_discrete k d) (same ∙ row_is) best;
        row = best;
      }
    where
      at : Buffered m list sets w i (d + 1) stored₀ stored next → (k : ℕ) → d ≤ k → i + k + k ≤ length w → Dec (k ≡ d) → row_at (set stored d row) d ≡ row_of next' → BufferRow m list sets w i d (row_of next') → BufferRow m list sets w i k (row_at (set stored d row) k)
      at f k a b (yes z) same best = rw (z, same) best
      at f k a b (no z) same best = subst (BufferRow m list sets w i k) (sym (row_other stored (set stored d row) d k row z refl)) (f.each k (omega arith) b)
