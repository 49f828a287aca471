-- A text of letters as the reader meets it.
--
-- kept_above, kept_same == a letter as it is kept is above 0; one that is kept as it is
-- LinesTo text i letters == what holds once i lines are read
-- lines_none, line_next, lines_end == before the first line, one line more, after the last
-- line_broken, line_many, line_byte, line_twice == a line has a fault: of its columns, the 251st, no byte value, a byte listed before
-- load_fault_lem, load_large, load_gap, load_good == the answer: a fault of a line, a letter above 250 or 0, a gap, none
use Prim.Native.Nat.{ℕ, suc, ◌+◌, ◌*◌, ◌<◌, ◌≤◌}
use mathlib.Core.Path.{◌≡◌, refl, sym, ap, ◌∙◌, subst}
use mathlib.Core.Logic.{◌⊎◌, inl, inr}
use mathlib.Core.List.{List, [], ◌∷◌}
use mathlib.Core.Bool.{Bool, true, false, cond, not, ◌&&◌}
use native.Mathlib.Omega.{arith}
use native.Mathlib.Numerals.{add-one}
use native.Mathlib.Decide.{ℕ_discrete, dec_lt}
use lib.ListN.{length, get_or, set, replicate, length-set, length-replicate}
use lib.Dec.{ltb}
use borrow.Author.Tests.{lt-ltb, le-ltb, eq-eqb, ne_eqb}
use Rattle.basics.specs.Lists.Laws.{set_cases, zeros_at}
use Rattle.basics.specs.Search.{all_below}
use Rattle.basics.specs.Search.Laws.{true_or_false, and_false_left, and_false_right, all_below_true, all_below_false}
use Rattle.basics.specs.Each.{each_below}
use Rattle.fsbm.specs.Machine.{max_letters}
use Rattle.std.specs.Prelude.{Ok, Err}
use Rattle.fsbm.specs.Answers.{refusal}
use Rattle.fsbm.specs.Answers.Laws.{unless_refused, unless_done}
use Rattle.fsbm.specs.declared.answer.Refusal.{Refusal}
use Rattle.fsbm.specs.declared.answer.Refusal.TheVariants.{BadCount, BadByte, MissingLetter}
use Rattle.sheet.specs.Series.{or_else, first_of}
use Rattle.sheet.specs.Series.Laws.{or_none, or_fault, first_at, first_next}
use Rattle.sheet.specs.Reading.{unless, column_at, line_fault}
use Rattle.sheet.specs.Parts.{Numbers}
use Rattle.sheet.proofs.PartCases.{Refused, refused_as}
use Rattle.letters.specs.Alphabet.{byte_values, max_lines, letter_in, largest_of, gapless}
use Rattle.letters.specs.Alphabet.Laws.{letter_in_lem, letters_list, largest_bound, largest_one, largest_same, gapless_same, gapless_true, gapless_few}
use Rattle.letters.specs.Loading.{line_start, byte_at, letter_at, lines_begun, listed_before, entry_fault, letters_run, load_fault, last_of, letter_of, alphabet_of, load_answer}
use Rattle.letters.specs.Loading.Laws.{last_here, last_before, last_none, last_some, last_same, largest_last, gapless_last, GoodEntry, entry_none, entries_apart, entries_below, entries_few}
use Rattle.letters.specs.Lines.{kept, LinesRead}

-- A letter as it is kept

pub kept_nought : (x : ℕ) → x ≡ 0 → 255 ≡ kept x
unfolding kept
kept_nought x e = sym (ap (λ (z : Bool). cond z 255 (cond (ltb max_letters x) 255 x)) (eq-eqb x 0 e))

pub kept_large : (x : ℕ) → (x ≡ 0 → ⊥) → max_letters < x → 255 ≡ kept x
unfolding kept
kept_large x d h =
    sym (ap (λ (z : Bool). cond z 255 (cond (ltb max_letters x) 255 x)) (ne_eqb x 0 d) ∙ ap (λ (z : Bool). cond z 255 x) (lt-ltb max_letters x h))

pub kept_small : (x : ℕ) → (x ≡ 0 → ⊥) → x ≤ max_letters → x ≡ kept x
unfolding kept
kept_small x d h =
    sym (ap (λ (z : Bool). cond z 255 (cond (ltb max_letters x) 255 x)) (ne_eqb x 0 d) ∙ ap (λ (z : Bool). cond z 255 x) (le-ltb max_letters x h))

-- the three ways
kept_cases : (x : ℕ) → ((kept x ≡ 255) × ((x ≡ 0) ⊎ (max_letters < x))) ⊎ ((kept x ≡ x) × (0 < x) × (x ≤ max_letters))
kept_cases x = at (ℕ_discrete x 0) (dec_lt max_letters x)
  where
    at : Dec (x ≡ 0) → Dec (max_letters < x) → ((kept x ≡ 255) × ((x ≡ 0) ⊎ (max_letters < x))) ⊎ ((kept x ≡ x) × (0 < x) × (x ≤ max_letters))
    at (yes e) l = inl (sym (kept_nought x e), inl e)
    at (no d) (yes l) = inl (sym (kept_large x d l), inr l)
    at (no d) (no l) = inr (sym (kept_small x d (omega arith)), omega arith, omega arith)

kept_above : (x : ℕ) → kept x ≡ 0 → ⊥
kept_above x e = at (kept_cases x)
  where
    at : ((kept x ≡ 255) × ((x ≡ 0) ⊎ (max_letters < x))) ⊎ ((kept x ≡ x) × (0 < x) × (x ≤ max_letters)) → ⊥
    at (inl (q, s)) = omega arith
    at (inr (q, p, s)) = omega arith

-- All lines

pub record LinesTo (text : List ℕ) (i : ℕ) (letters : List ℕ) : Type 0 where
  pub few : i ≤ max_lines
  pub good : first_of i (entry_fault text) ≡ 0
  pub long : length letters ≡ byte_values
  pub are : (v : ℕ) → v < byte_values → get_or letters v 0 ≡ last_of (byte_at text) (λ j. kept (letter_at text j)) i v

count_fault : Refused 3 BadCount
unfolding refusal
count_fault = (λ (q : 3 ≡ 0). omega arith, refl)

byte_fault : Refused 21 BadByte
unfolding refusal
byte_fault = (λ (q : 21 ≡ 0). omega arith, refl)

module _ (text : List ℕ) where
  pub lines_none : (letters : List ℕ) → letters ≡ replicate byte_values 0 → LinesTo text 0 letters
  unfolding first_of last_of
  lines_none letters e =
      record {
        few = omega arith;
        good = refl;
        long = ap length e ∙ length-replicate {A = ℕ} byte_values 0;
        are = λ v h. ap (λ (l : List ℕ). get_or l v 0) e ∙ zeros_at byte_values v;
      }

  module _ (i : ℕ) (letters : List ℕ) (to : LinesTo text i letters) where
    pub lines_end : i ≡ lines_begun text → LinesRead text (Ok tt) letters
    lines_end q = (
      ap (λ (k : ℕ). first_of k (entry_fault text)) (sym q) ∙ to.good,
      record { long = to.long; letters = λ v l. subst (λ (k : ℕ). get_or letters v 0 ≡ last_of (byte_at text) (λ j. kept (letter_at text j)) k v) q (to.are v l) },
    )

    module _ (more : i < lines_begun text) where
      faulty : (v : ℕ) (f : Refusal) → Refused v f → entry_fault text i ≡ v → LinesRead text (Err f) letters
      faulty v f bad e = refused_as v _ f bad (sym (first_at (lines_begun text) (entry_fault text) i v bad.0 to.good e more))

      pub line_broken : (f : Refusal) → Refused (line_fault text 2 (line_start i)) f → LinesRead text (Err f) letters
      unfolding entry_fault
      line_broken f bad = faulty (line_fault text 2 (line_start i)) f bad (or_fault _ _ bad.0)

      module _ (numbers : List ℕ) (fine : line_fault text 2 (line_start i) ≡ 0) (read : Numbers text 2 (line_start i) numbers) where
        abbrev byte : ℕ
        byte = get_or numbers 0 0

        byte_is : byte ≡ byte_at text i
        byte_is = let z : line_start i + 0 * 5 ≡ line_start i = omega arith in read.are 0 (omega arith) ∙ ap (column_at text) z

        letter_is : get_or numbers 1 0 ≡ letter_at text i
        letter_is = read.are 1 (omega arith)

        rest_is : entry_fault text i ≡ or_else (unless (ltb i max_lines) 3) (unless (ltb (byte_at text i) byte_values && not (listed_before text i)) 21)
        unfolding entry_fault
        rest_is = or_none _ _ fine

        pub line_many : max_lines ≤ i → LinesRead text (Err BadCount) letters
        line_many h =
            faulty 3 BadCount count_fault
            (rest_is ∙ (ap (λ (z : Bool). or_else (unless z 3) (unless (ltb (byte_at text i) byte_values && not (listed_before text i)) 21)) (le-ltb i max_lines h)
            ∙ or_fault 3 _ (λ (q : 3 ≡ 0). omega arith)))

        module _ (one : i < max_lines) where
          last_is : entry_fault text i ≡ unless (ltb (byte_at text i) byte_values && not (listed_before text i)) 21
          last_is =
              rest_is ∙ (ap (λ (z : Bool). or_else (unless z 3) (unless (ltb (byte_at text i) byte_values && not (listed_before text i)) 21)) (lt-ltb i max_lines one)
              ∙ or_none 0 _ refl)

          pub line_byte : byte_values ≤ byte → LinesRead text (Err BadByte) letters
          line_byte h =
              faulty 21 BadByte byte_fault
              (last_is ∙ ap (λ (z : Bool). unless z 21) (and_false_left _ _ (le-ltb (byte_at text i) byte_values (subst (λ (k : ℕ). byte_values ≤ k) byte_is h))))

          module _ (small : byte < byte_values) where
            kept_is : get_or letters byte 0 ≡ last_of (byte_at text) (λ j. kept (letter_at text j)) i (byte_at text i)
            kept_is = to.are byte small ∙ ap (last_of (byte_at text) (λ j. kept (letter_at text j)) i) byte_is

            pub line_twice : (get_or letters byte 0 ≡ 0 → ⊥) → LinesRead text (Err BadByte) letters
            line_twice d = faulty 21 BadByte byte_fault (at_none (ℕ_discrete (entry_fault text i) 0))
              where
                at_none : Dec (entry_fault text i ≡ 0) → entry_fault text i ≡ 21
                at_none (yes e) =
                    let g = (entry_none text i).0 e in
                    absurd (d (kept_is ∙ last_none (byte_at text) (λ j. kept (letter_at text j)) i (byte_at text i) g.new))
                at_none (no n) = by (true_or_false (ltb (byte_at text i) byte_values && not (listed_before text i)))
                  where
                    by : ((ltb (byte_at text i) byte_values && not (listed_before text i)) ≡ true) ⊎ ((ltb (byte_at text i) byte_values && not (listed_before text i)) ≡ false)
                        → entry_fault text i ≡ 21
                    by (inl t) = absurd (n (last_is ∙ ap (λ (z : Bool). unless z 21) t))
                    by (inr t) = last_is ∙ ap (λ (z : Bool). unless z 21) t

            pub line_next : get_or letters byte 0 ≡ 0 → (k : ℕ) → k ≡ kept (get_or numbers 1 0) → LinesTo text (i + 1) (set letters byte k)
            line_next e k k-is =
                record {
                  few = omega arith;
                  good = first_next i (entry_fault text) to.good ((entry_none text i).1 entry);
                  long = length-set letters byte k ∙ to.long;
                  are = λ v l. subst (λ (n : ℕ). get_or (set letters byte k) v 0 ≡ last_of (byte_at text) (λ j. kept (letter_at text j)) n v) (sym (add-one i)) (changed v l);
                }
              where
                entry : GoodEntry text i
                entry =
                    record {
                      line = fine;
                      few = one;
                      byte = subst (λ (b : ℕ). b < byte_values) byte_is small;
                      new = λ j l q. last_some (byte_at text) (λ j. kept (letter_at text j)) i (byte_at text i) j (λ m. kept_above (letter_at text m)) l q (sym kept_is ∙ e);
                    }

                new : k ≡ last_of (byte_at text) (λ j. kept (letter_at text j)) (suc i) byte
                new = k-is ∙ (ap kept letter_is ∙ sym (last_here (byte_at text) (λ j. kept (letter_at text j)) i byte (sym byte_is)))

                changed : (v : ℕ) → v < byte_values → get_or (set letters byte k) v 0 ≡ last_of (byte_at text) (λ j. kept (letter_at text j)) (suc i) v
                changed =
                    set_cases letters byte k 0 (let w = to.long in omega arith)
                    (λ v a. v < byte_values → a ≡ last_of (byte_at text) (λ j. kept (letter_at text j)) (suc i) v)
                    (λ l. new)
                    (λ v d l. to.are v l ∙ sym (last_before (byte_at text) (λ j. kept (letter_at text j)) i v (λ (q : byte_at text i ≡ v). d (sym q ∙ sym byte_is))))

-- The answer

refused_is : (text : List ℕ) (v : ℕ) (f : Refusal) → Refused v f → load_fault text ≡ v → Err f ≡ load_answer text
unfolding load_answer
refused_is text v f bad e =
    ap (λ (x : Refusal). Err x) (bad.1 ∙ ap refusal (sym e)) ∙ unless_refused (load_fault text) (Ok (alphabet_of text)) (λ (q : load_fault text ≡ 0). bad.0 (sym e ∙ q))

pub load_fault_lem : (text after : List ℕ) (f : Refusal) → LinesRead text (Err f) after → Err f ≡ load_answer text
unfolding load_fault
load_fault_lem text after f bad = refused_is text (first_of (lines_begun text) (entry_fault text)) f bad (or_fault _ _ bad.0)

gap_fault : Refused 22 MissingLetter
unfolding refusal
gap_fault = (λ (q : 22 ≡ 0). omega arith, refl)

-- what is read where no line has a fault
module _ (text after : List ℕ) (read : LinesRead text (Ok tt) after) (m : ℕ) (m-is : m ≡ largest_of byte_values (letter_in after)) where
  abbrev n : ℕ
  n = lines_begun text

  abbrev b : ℕ → ℕ
  b = byte_at text

  abbrev x : ℕ → ℕ
  x = letter_at text

  abbrev y : ℕ → ℕ
  y i = kept (x i)

  none : first_of (lines_begun text) (entry_fault text) ≡ 0
  none = read.0

  few : n ≤ max_lines
  few = entries_few text none

  after_is : (v : ℕ) → v < byte_values → letter_in after v ≡ last_of b y n v
  after_is v h = letter_in_lem after v h ∙ read.1.letters v h

  largest_is : m ≡ largest_of n y
  largest_is =
      m-is ∙ (largest_same (letter_in after) (last_of b y n) byte_values after_is ∙ largest_last b y n (entries_apart text none) byte_values (entries_below text none))

  run_is : load_fault text ≡ unless (letters_run text) 22
  unfolding load_fault
  run_is = or_none _ _ none

  no_run : letters_run text ≡ false → Err MissingLetter ≡ load_answer text
  no_run f = refused_is text 22 MissingLetter gap_fault (run_is ∙ ap (λ (z : Bool). unless z 22) f)

  -- a letter that is not kept as it is: 0, or above 250 and so above the number of lines
  wrong : (i : ℕ) → i < n → (x i ≡ 0) ⊎ (max_letters < x i) → letters_run text ≡ false
  unfolding letters_run
  wrong i h (inl z) =
      and_false_left (all_below n (λ i. ltb 0 (letter_at text i))) (gapless n x) ((all_below_false (λ i. ltb 0 (letter_at text i)) n).1 (i, h, le-ltb 0 (x i) (omega arith)))
  wrong i h (inr l) = and_false_right (all_below n (λ i. ltb 0 (letter_at text i))) (gapless n x) (at (true_or_false (gapless n x)))
    where
      at : (gapless n x ≡ true) ⊎ (gapless n x ≡ false) → gapless n x ≡ false
      at (inl t) =
          let g = gapless_few n x ((gapless_true n x).0 t) in
          let k = largest_bound x n i h in
          let s = few in
          absurd (omega arith)
      at (inr f) = f

  pub load_large : max_letters < m → Err MissingLetter ≡ load_answer text
  load_large h = no_run (at (largest_one y n))
    where
      at : (largest_of n y ≡ 0) ⊎ ((i : ℕ) × (i < n) × (largest_of n y ≡ y i)) → letters_run text ≡ false
      at (inl z) = let q = largest_is in absurd (omega arith)
      at (inr (i, l, q)) = by (kept_cases (x i))
        where
          by : ((kept (x i) ≡ 255) × ((x i ≡ 0) ⊎ (max_letters < x i))) ⊎ ((kept (x i) ≡ x i) × (0 < x i) × (x i ≤ max_letters)) → letters_run text ≡ false
          by (inl (s, w)) = wrong i l w
          by (inr (s, p, w)) = let g = largest_is in let d : y i ≡ x i = s in absurd (omega arith)

  module _ (small : m ≤ max_letters) where
    -- every letter is kept as it is
    same : (i : ℕ) → i < n → (y i ≡ x i) × (0 < x i)
    same i h = by (kept_cases (x i))
      where
        by : ((kept (x i) ≡ 255) × ((x i ≡ 0) ⊎ (max_letters < x i))) ⊎ ((kept (x i) ≡ x i) × (0 < x i) × (x i ≤ max_letters)) → (y i ≡ x i) × (0 < x i)
        by (inl (s, w)) = let g = largest_is in let k = largest_bound y n i h in let d : y i ≡ 255 = s in absurd (omega arith)
        by (inr (s, p, w)) = (s, p)

    letters_are : (v : ℕ) → v < byte_values → letter_in after v ≡ last_of b x n v
    letters_are v h = after_is v h ∙ last_same b y x n v (λ i l. (same i l).0)

    gapless_is : gapless byte_values (letter_in after) ≡ letters_run text
    unfolding letters_run
    gapless_is =
        gapless_same (letter_in after) (last_of b x n) byte_values letters_are
        ∙ (gapless_last b x n (entries_apart text none) byte_values (entries_below text none)
        ∙ sym (ap (λ (z : Bool). z && gapless n x) ((all_below_true (λ i. ltb 0 (letter_at text i)) n).1 (λ i l. lt-ltb 0 (x i) (same i l).1))))

    pub load_gap : gapless byte_values (letter_in after) ≡ false → Err MissingLetter ≡ load_answer text
    load_gap f = no_run (sym gapless_is ∙ f)

    pub load_good : gapless byte_values (letter_in after) ≡ true → Ok (record { letters = after; count = m }) ≡ load_answer text
    unfolding load_answer alphabet_of
    load_good t =
        ap (λ (l : List ℕ). Ok (record { letters = l; count = m })) list_is
        ∙ (ap (λ (c : ℕ). Ok (record { letters = each_below byte_values (λ v. letter_of text v ∷ []); count = c })) count_is
        ∙ unless_done (load_fault text) _ no_fault)
      where
        no_fault : load_fault text ≡ 0
        no_fault = run_is ∙ ap (λ (z : Bool). unless z 22) (sym gapless_is ∙ t)

        count_is : m ≡ largest_of n x
        count_is = largest_is ∙ largest_same y x n (λ i l. (same i l).0)

        list_is : after ≡ each_below byte_values (λ v. letter_of text v ∷ [])
        list_is = letters_list after (letter_of text) read.1.long (λ v h. sym (letter_in_lem after v h) ∙ letters_are v h)
