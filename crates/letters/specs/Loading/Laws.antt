-- The laws of loading.
--
-- last_none, last_some == no letter where no line lists the byte; where one does and no letter is 0, a letter above 0
-- last_cases           == the letter of a byte is 0, or one of a line that lists it
-- Apart n b            == no two of b 0, .., b (n - 1) are the same
-- last_named           == then the letter of the byte of line i is that of line i
-- last_same            == by the letters alone
-- largest_last, gapless_last == the letters of all bytes have the largest, and a gap, as those of the lines do
-- lettered_last        == at most as many bytes have letters as there are lines
-- entry_none           == a line without fault: a good line, one of the first 250, its byte value below 256 and not listed before
-- lines_begun_lem          == a text of n whole lines has n lines
-- GoodLines text n     == the text has n lines, at most 250, without fault; lines_none == what that says
-- load-iff             == a text loads exactly if its lines have no fault and its letters run from 1 without a gap
-- letter_of            == the letter of each byte in the record
-- load_numbered        == the fault of a text is 0, or the number of the refusal that stands for it
use Prim.Native.Nat.{ℕ, zero, suc, ◌*◌, ◌<◌, ◌≤◌}
use Rattle.std.specs.Prelude.{◌≡◌, ◌⊎◌, ◌↔◌, List, Bool, true, false, ◌&&◌, length, ltb}
use Rattle.std.proofs.Math.Path.{refl, ap}
use Rattle.std.proofs.Common.{sym, ◌∙◌, subst}
use Rattle.std.proofs.Math.Logic.{inl, inr}
use Rattle.std.proofs.Math.Bool.{cond, not}
use native.Mathlib.Omega.{arith}
use Rattle.std.proofs.Math.Decide.{ℕ_discrete, dec_lt}
use Rattle.std.proofs.Math.Dec.{eqb}
use borrow.Author.Tests.{ltb-true, lt-ltb, eqb-false, eq-eqb, ne_eqb, not-true}
use Rattle.basics.specs.Search.Laws.{and_true, and_both_true, any_below_false}
use Rattle.sheet.specs.Series.{or_else, first_of}
use Rattle.sheet.specs.Series.Laws.{or_zero, first_zero}
use Rattle.sheet.specs.Reading.{unless, line_fault}
use Rattle.sheet.specs.Reading.Laws.{unless_zero}
use Rattle.letters.specs.Alphabet.{byte_values, max_lines, largest_of, gapless, lettered}
use Rattle.letters.specs.Alphabet.Laws.{largest_bound, largest_below, lettered_same, gapless_both}
use Rattle.fsbm.specs.Answers.Laws.{Numbered, numbered_none, numbered_by, numbered_3, numbered_21, numbered_22}
use Rattle.sheet.specs.Numbers.{numbered_or, numbered_first, line_numbered}
use Rattle.letters.specs.Loading.{line_start, byte_at, lines_begun, listed_before, entry_fault, letters_run, load_fault, last_of}

-- The letter of a byte

module _ (b x : ℕ → ℕ) where
  pub last_here : (n v : ℕ) → b n ≡ v → last_of b x (suc n) v ≡ x n
  unfolding last_of
  last_here n v e = ap (λ (z : Bool). cond z (x n) (last_of b x n v)) (eq-eqb (b n) v e)

  pub last_before : (n v : ℕ) → (b n ≡ v → ⊥) → last_of b x (suc n) v ≡ last_of b x n v
  unfolding last_of
  last_before n v d = ap (λ (z : Bool). cond z (x n) (last_of b x n v)) (ne_eqb (b n) v d)

  pub last_cases : (n v : ℕ) → (((i : ℕ) → i < n → b i ≡ v → ⊥) × (last_of b x n v ≡ 0)) ⊎ ((i : ℕ) × (i < n) × (b i ≡ v) × (last_of b x n v ≡ x i))
  unfolding last_of
  last_cases zero v = inl (λ i h e. absurd (omega arith), refl)
  last_cases (suc n) v = at (ℕ_discrete (b n) v) (last_cases n v)
    where
      at : Dec (b n ≡ v) → (((i : ℕ) → i < n → b i ≡ v → ⊥) × (last_of b x n v ≡ 0)) ⊎ ((i : ℕ) × (i < n) × (b i ≡ v) × (last_of b x n v ≡ x i))
          → (((i : ℕ) → i < suc n → b i ≡ v → ⊥) × (last_of b x (suc n) v ≡ 0)) ⊎ ((i : ℕ) × (i < suc n) × (b i ≡ v) × (last_of b x (suc n) v ≡ x i))
      at (yes e) below = inr (n, omega arith, e, last_here n v e)
      at (no d) (inl (f, z)) = inl (λ i h e. other i h e (ℕ_discrete i n), last_before n v d ∙ z)
        where
          other : (i : ℕ) → i < suc n → b i ≡ v → Dec (i ≡ n) → ⊥
          other i h e (yes q) = d (ap b (sym q) ∙ e)
          other i h e (no q) = f i (omega arith) e
      at (no d) (inr (i, h, e, z)) = inr (i, omega arith, e, last_before n v d ∙ z)

  pub last_none : (n v : ℕ) → ((i : ℕ) → i < n → b i ≡ v → ⊥) → last_of b x n v ≡ 0
  last_none n v f = at (last_cases n v)
    where
      at : (((i : ℕ) → i < n → b i ≡ v → ⊥) × (last_of b x n v ≡ 0)) ⊎ ((i : ℕ) × (i < n) × (b i ≡ v) × (last_of b x n v ≡ x i)) → last_of b x n v ≡ 0
      at (inl (g, z)) = z
      at (inr (i, h, e, z)) = absurd (f i h e)

  pub last_some : (n v i : ℕ) → ((j : ℕ) → x j ≡ 0 → ⊥) → i < n → b i ≡ v → last_of b x n v ≡ 0 → ⊥
  last_some n v i positive h e = at (last_cases n v)
    where
      at : (((j : ℕ) → j < n → b j ≡ v → ⊥) × (last_of b x n v ≡ 0)) ⊎ ((j : ℕ) × (j < n) × (b j ≡ v) × (last_of b x n v ≡ x j)) → last_of b x n v ≡ 0 → ⊥
      at (inl (g, z)) q = g i h e
      at (inr (j, l, d, z)) q = positive j (sym z ∙ q)

  pub last_same : (y : ℕ → ℕ) (n v : ℕ) → ((i : ℕ) → i < n → x i ≡ y i) → last_of b x n v ≡ last_of b y n v
  unfolding last_of
  last_same y zero v h = refl
  last_same y (suc n) v h =
      ap (λ (z : ℕ). cond (eqb (b n) v) z (last_of b x n v)) (h n (omega arith))
      ∙ ap (λ (z : ℕ). cond (eqb (b n) v) (y n) z) (last_same y n v (λ i l. h i (omega arith)))

unfoldable pub Apart : ℕ → (ℕ → ℕ) → Type 0
Apart n b = (i j : ℕ) → i < j → j < n → b i ≡ b j → ⊥

module _ (b x : ℕ → ℕ) (n : ℕ) (apart : Apart n b) where
  pub last_named : (i : ℕ) → i < n → last_of b x n (b i) ≡ x i
  unfolding Apart
  last_named i h = at (last_cases b x n (b i))
    where
      same : (j : ℕ) → j < n → b j ≡ b i → Dec (j < i) → Dec (i < j) → j ≡ i
      same j l e (yes p) r = absurd (apart j i p h e)
      same j l e (no p) (yes r) = absurd (apart i j r l (sym e))
      same j l e (no p) (no r) = omega arith

      at : (((j : ℕ) → j < n → b j ≡ b i → ⊥) × (last_of b x n (b i) ≡ 0)) ⊎ ((j : ℕ) × (j < n) × (b j ≡ b i) × (last_of b x n (b i) ≡ x j)) → last_of b x n (b i) ≡ x i
      at (inl (g, z)) = absurd (g i h refl)
      at (inr (j, l, e, z)) = z ∙ ap x (same j l e (dec_lt j i) (dec_lt i j))

  module _ (m : ℕ) (below : (i : ℕ) → i < n → b i < m) where
    pub largest_last : largest_of m (last_of b x n) ≡ largest_of n x
    largest_last =
        let up = largest_below (last_of b x n) m (largest_of n x) (λ v h. at v (last_cases b x n v)) in
        let down = largest_below x n (largest_of m (last_of b x n)) (λ i h. subst (λ (z : ℕ). z ≤ largest_of m (last_of b x n)) (last_named i h) (largest_bound (last_of b x n) m (b i) (below i h))) in
        omega arith
      where
        at : (v : ℕ) → (((j : ℕ) → j < n → b j ≡ v → ⊥) × (last_of b x n v ≡ 0)) ⊎ ((j : ℕ) × (j < n) × (b j ≡ v) × (last_of b x n v ≡ x j)) → last_of b x n v ≤ largest_of n x
        at v (inl (g, z)) = omega arith
        at v (inr (j, l, e, z)) = let k = largest_bound x n j l in omega arith

    pub gapless_last : gapless m (last_of b x n) ≡ gapless n x
    gapless_last =
        gapless_both m n (last_of b x n) x largest_last (λ v h p. at v p (last_cases b x n v)) (λ i h p. (b i, below i h, last_named i h))
      where
        at : (v : ℕ) → 0 < last_of b x n v → (((j : ℕ) → j < n → b j ≡ v → ⊥) × (last_of b x n v ≡ 0)) ⊎ ((j : ℕ) × (j < n) × (b j ≡ v) × (last_of b x n v ≡ x j))
            → (j : ℕ) × (j < n) × (x j ≡ last_of b x n v)
        at v p (inl (g, z)) = absurd (omega arith)
        at v p (inr (j, l, e, z)) = (j, l, sym z)

-- one number set anew adds at most one that is not 0
lettered_set : (f g : ℕ → ℕ) (c m : ℕ) → ((v : ℕ) → (c ≡ v → ⊥) → g v ≡ f v) → lettered m g ≤ suc (lettered m f)
unfolding lettered
lettered_set f g c zero h = omega arith
lettered_set f g c (suc m) h = at (ℕ_discrete c m) (lettered_set f g c m h)
  where
    one : (p q : Bool) (a : ℕ) → cond p a (suc a) ≤ suc (cond q a (suc a))
    one true true a = omega arith
    one true false a = omega arith
    one false true a = omega arith
    one false false a = omega arith

    both : (p : Bool) (a d : ℕ) → a ≤ suc d → cond p a (suc a) ≤ suc (cond p d (suc d))
    both true a d l = l
    both false a d l = omega arith

    at : Dec (c ≡ m) → lettered m g ≤ suc (lettered m f) → cond (eqb (g m) 0) (lettered m g) (suc (lettered m g)) ≤ suc (cond (eqb (f m) 0) (lettered m f) (suc (lettered m f)))
    at (yes e) l =
        let same : lettered m g ≡ lettered m f = lettered_same g f m (λ v b. h v (λ (q : c ≡ v). omega arith)) in
        rw same (one (eqb (g m) 0) (eqb (f m) 0) (lettered m f))
    at (no d) l = rw (h m d) (both (eqb (f m) 0) (lettered m g) (lettered m f) l)

lettered_none : (b x : ℕ → ℕ) (m : ℕ) → lettered m (last_of b x 0) ≤ 0
unfolding lettered last_of
lettered_none b x zero = omega arith
lettered_none b x (suc m) = lettered_none b x m

pub lettered_last : (b x : ℕ → ℕ) (m n : ℕ) → lettered m (last_of b x n) ≤ n
lettered_last b x m zero = lettered_none b x m
lettered_last b x m (suc n) =
    let h = lettered_last b x m n in
    let s = lettered_set (last_of b x n) (last_of b x (suc n)) (b n) m (λ v d. last_before b x n v d) in
    omega arith

-- Lines

pub record GoodEntry (text : List ℕ) (i : ℕ) : Type 0 where
  pub line : line_fault text 2 (line_start i) ≡ 0
  pub few : i < max_lines
  pub byte : byte_at text i < byte_values
  pub new : (j : ℕ) → j < i → byte_at text j ≡ byte_at text i → ⊥

module _ (text : List ℕ) (i : ℕ) where
  listed_none : (listed_before text i ≡ false) ↔ ((j : ℕ) → j < i → byte_at text j ≡ byte_at text i → ⊥)
  unfolding listed_before
  listed_none = (
    λ e j l. eqb-false _ _ ((any_below_false (λ j. eqb (byte_at text j) (byte_at text i)) i).0 e j l),
    λ h. (any_below_false (λ j. eqb (byte_at text j) (byte_at text i)) i).1 (λ j l. ne_eqb _ _ (h j l)),
  )

  pub entry_none : (entry_fault text i ≡ 0) ↔ GoodEntry text i
  unfolding entry_fault
  entry_none = (to, from)
    where
      rest : ℕ
      rest = unless (ltb (byte_at text i) byte_values && not (listed_before text i)) 21

      to : or_else (line_fault text 2 (line_start i)) (or_else (unless (ltb i max_lines) 3) rest) ≡ 0 → GoodEntry text i
      to e =
          let x = (or_zero (line_fault text 2 (line_start i)) (or_else (unless (ltb i max_lines) 3) rest)).0 e in
          let y = (or_zero (unless (ltb i max_lines) 3) rest).0 x.1 in
          let z = and_true _ _ ((unless_zero (ltb (byte_at text i) byte_values && not (listed_before text i)) 21 (λ (q : 21 ≡ 0). omega arith)).0 y.1) in
          record {
            line = x.0;
            few = ltb-true _ _ ((unless_zero (ltb i max_lines) 3 (λ (q : 3 ≡ 0). omega arith)).0 y.0);
            byte = ltb-true _ _ z.0;
            new = listed_none.0 (not-true _ z.1);
          }

      from : GoodEntry text i → or_else (line_fault text 2 (line_start i)) (or_else (unless (ltb i max_lines) 3) rest) ≡ 0
      from g =
          (or_zero (line_fault text 2 (line_start i)) (or_else (unless (ltb i max_lines) 3) rest)).1 (
            g.line,
            (or_zero (unless (ltb i max_lines) 3) rest).1 (
              ap (λ (z : Bool). unless z 3) (lt-ltb _ _ g.few),
              ap (λ (z : Bool). unless z 21) (and_both_true _ _ (lt-ltb _ _ g.byte) (ap not (listed_none.1 g.new))),
            ),
          )

pub lines_begun_lem : (text : List ℕ) (n : ℕ) → length text ≡ 11 * n → lines_begun text ≡ n
lines_begun_lem text n h = omega arith

-- the lines of a text whose lines have no fault
module _ (text : List ℕ) (none : first_of (lines_begun text) (entry_fault text) ≡ 0) where
  pub entries : (i : ℕ) → i < lines_begun text → GoodEntry text i
  entries i h = (entry_none text i).0 ((first_zero (lines_begun text) (entry_fault text)).0 none i h)

  pub entries_apart : Apart (lines_begun text) (byte_at text)
  unfolding Apart
  entries_apart i j l h e = (entries j h).new i l e

  pub entries_below : (i : ℕ) → i < lines_begun text → byte_at text i < byte_values
  entries_below i h = (entries i h).byte

  pub entries_few : lines_begun text ≤ max_lines
  entries_few = at (lines_begun text) refl
    where
      at : (n : ℕ) → lines_begun text ≡ n → n ≤ max_lines
      at zero e = omega arith
      at (suc n) e = let g = (entries n (omega arith)).few in omega arith

-- The fault of a text as a refusal

pub load_numbered : (text : List ℕ) → Numbered (load_fault text)
unfolding load_fault entry_fault
load_numbered text =
    numbered_or _ _
    (numbered_first (lines_begun text) (entry_fault text)
    (λ i. numbered_or _ _ (line_numbered text 2 (line_start i)) (numbered_or _ _ (numbered_by _ 0 3 numbered_none numbered_3) (numbered_by _ 0 21 numbered_none numbered_21))))
    (numbered_by (letters_run text) 0 22 numbered_none numbered_22)
