-- The functions of src/letters.rt case by case, over plain variables.
--
-- key_is, key_small       == the key of a transition of a table, and that it is below 16,384
-- keying_start, keying_next == the loop that collects keys
-- starting_next           == the loop that notes the first transition of each key
-- least_none, least_some  == the least member of a word
-- Looking                 == the loop over the words of a set of letters
use Prim.Native.Nat.{ℕ, ◌+◌, ◌*◌, ◌-◌, ◌/◌, ◌%◌, ◌≤◌, ◌<◌, ◌^◌}
use mathlib.Core.Path.{◌≡◌, refl, sym, ap, ◌∙◌, subst}
use mathlib.Core.Logic.{◌⊎◌, ◌↔◌, inl, inr}
use mathlib.Core.List.{List, replicate}
use Rattle.std.specs.Prelude.{true, None, Some}
use native.Mathlib.Omega.{arith}
use native.Mathlib.Decide.{ℕ_discrete}
use lib.ListN.{length, get_or, set, length-set, get_or-replicate}
use lib.Pow.{shr-shr}
use lib.Seq.{get_or-set_same, get_or-set_other}
use borrow.Author.Count.{below_more}
use Rattle.stateset.specs.Set.{width, digit, In, Lowest}
use Rattle.stateset.specs.Set.Laws.{empty_in, in_lt}
use Rattle.fsbm.specs.Machine.{transition_at, well_formed}
use Rattle.fsbm.specs.Rules.{rules}
use Rattle.fsbm.specs.declared.machine.Machine.{Machine}
use Rattle.fsbm.specs.declared.machine.Transition.{Transition}
use Rattle.product.specs.Letters.{HasKey, Occurs, KeySet, LeastFrom}
use Rattle.product.specs.Order.{letter_key}

-- The keys of a table: transition t is number k, and y is its key
module _ (m : Machine) (list : List ℕ) (good : well_formed m list ≡ true) (k : ℕ) (inside : k < m.transitions) (t : Transition) (at-t : t ≡ transition_at list k) (y : ℕ)
    (at_y : y ≡ t.from * 256 + t.letter) where
  pub key_is : y ≡ letter_key list k
  key_is = at_y ∙ ap (λ (z : Transition). z.from * 256 + z.letter) at-t

  pub key_small : y < 16384
  key_small = let r = rules m list good in let e = key_is in omega (arith, r.from_below k inside, r.letter_below k inside, r.states_fit, r.letters_fit)

pub keying_start : (list : List ℕ) → KeySet list 0 (replicate 256 0)
keying_start list =
    record {
      all = λ (k : ℕ) (h : k < 0). absurd (omega arith);
      only = λ y lt m. absurd (empty_in (y % 64) (subst (λ (z : ℕ). In z (y % 64)) (get_or-replicate 256 (y / 64) 0 0 (omega arith)) m));
    }

module _ (list words : List ℕ) (k y v : ℕ) (size : length words ≡ 256) (so_far : KeySet list k words) (at_y : y ≡ letter_key list k) (small : y < 16384)
    (members : (p : ℕ) → In v p ↔ (In (get_or words (y / 64) 0) p ⊎ ((p ≡ y % 64) × (p < width)))) where
  same_word : (z : ℕ) → z / 64 ≡ y / 64 → get_or (set words (y / 64) v) (z / 64) 0 ≡ v
  same_word z e = ap (λ (w : ℕ). get_or (set words (y / 64) v) w 0) e ∙ get_or-set_same words (y / 64) v 0 (omega arith)

  more_of : (z : ℕ) → HasKey words z → HasKey (set words (y / 64) v) z
  more_of z m = at (ℕ_discrete (z / 64) (y / 64))
    where
      at : Dec (z / 64 ≡ y / 64) → HasKey (set words (y / 64) v) z
      at (yes e) =
          subst (λ (n : ℕ). In n (z % 64)) (sym (same_word z e))
          ((members (z % 64)).1 (inl (subst (λ (w : ℕ). In (get_or words w 0) (z % 64)) e m)))
      at (no d) = subst (λ (n : ℕ). In n (z % 64)) (sym (get_or-set_other words (y / 64) (z / 64) v 0 d)) m

  new_one : HasKey (set words (y / 64) v) y
  new_one = subst (λ (n : ℕ). In n (y % 64)) (sym (same_word y refl)) ((members (y % 64)).1 (inr (refl, omega arith)))

  more_only : (z : ℕ) → HasKey (set words (y / 64) v) z → HasKey words z ⊎ (z ≡ y)
  more_only z m = at (ℕ_discrete (z / 64) (y / 64))
    where
      old_or_new : z / 64 ≡ y / 64 → (In (get_or words (y / 64) 0) (z % 64) ⊎ ((z % 64 ≡ y % 64) × (z % 64 < width))) → HasKey words z ⊎ (z ≡ y)
      old_or_new e (inl o) = inl (subst (λ (w : ℕ). In (get_or words w 0) (z % 64)) (sym e) o)
      old_or_new e (inr n) = let f = n.0 in inr (omega arith)

      at : Dec (z / 64 ≡ y / 64) → HasKey words z ⊎ (z ≡ y)
      at (yes e) = old_or_new e ((members (z % 64)).0 (subst (λ (n : ℕ). In n (z % 64)) (same_word z e) m))
      at (no d) = inl (subst (λ (n : ℕ). In n (z % 64)) (get_or-set_other words (y / 64) (z / 64) v 0 d) m)

  pub keying_next : (length (set words (y / 64) v) ≡ 256) × KeySet list (k + 1) (set words (y / 64) v)
  keying_next = (length-set words (y / 64) v ∙ size, record { all = below_more _ k (λ i lt. more_of (letter_key list i) (so_far.all i lt)) at_k; only = λ z lt m. only z lt (more_only z m) })
    where
      at_k : HasKey (set words (y / 64) v) (letter_key list k)
      at_k = subst (λ (z : ℕ). HasKey (set words (y / 64) v) z) at_y new_one

      only : (z : ℕ) → z < 16384 → HasKey words z ⊎ (z ≡ y) → Occurs list (k + 1) z
      only z lt (inl m) = let o = so_far.only z lt m in record { place = o.place; within = omega (arith, o.within); keyed = o.keyed }
      only z lt (inr e) = record { place = k; within = omega arith; keyed = sym at_y ∙ sym e }

-- The first transition of each key

pub record Starting (list : List ℕ) (n : ℕ) (places : List ℕ) (k : ℕ) : Type 0 where
  pub high : k ≤ n
  pub size : length places ≡ 16384
  pub before : (j : ℕ) → k ≤ j → j < n → get_or places (letter_key list j) 0 ≤ j
  pub same : (j : ℕ) → k ≤ j → j < n → letter_key list (get_or places (letter_key list j) 0) ≡ letter_key list j

module _ (list : List ℕ) (n : ℕ) (places : List ℕ) (k y i : ℕ) (s : Starting list n places k) (at_i : i + 1 ≡ k) (at_y : y ≡ letter_key list i) (small : y < 16384) where
  pub starting_next : Starting list n (set places y i) i
  starting_next =
      let top = s.high in
      record {
        high = omega arith;
        size = length-set places y i ∙ s.size;
        before = λ j a b. before j a b (ℕ_discrete (letter_key list j) y);
        same = λ j a b. same j a b (ℕ_discrete (letter_key list j) y);
      }
    where
      here : (j : ℕ) → letter_key list j ≡ y → get_or (set places y i) (letter_key list j) 0 ≡ i
      here j e = ap (λ (z : ℕ). get_or (set places y i) z 0) e ∙ get_or-set_same places y i 0 (omega (arith, s.size))

      there : (j : ℕ) → (letter_key list j ≡ y → ⊥) → get_or (set places y i) (letter_key list j) 0 ≡ get_or places (letter_key list j) 0
      there j d = get_or-set_other places y (letter_key list j) i 0 d

      later : (j : ℕ) → i ≤ j → (letter_key list j ≡ y → ⊥) → Dec (j ≡ i) → k ≤ j
      later j a d (yes e) = absurd (d (ap (letter_key list) e ∙ sym at_y))
      later j a d (no f) = omega arith

      before : (j : ℕ) → i ≤ j → j < n → Dec (letter_key list j ≡ y) → get_or (set places y i) (letter_key list j) 0 ≤ j
      before j a b (yes e) = let h = here j e in omega arith
      before j a b (no d) = let h = there j d in let o = s.before j (later j a d (ℕ_discrete j i)) b in omega arith

      same : (j : ℕ) → i ≤ j → j < n → Dec (letter_key list j ≡ y) → letter_key list (get_or (set places y i) (letter_key list j) 0) ≡ letter_key list j
      same j a b (yes e) = ap (letter_key list) (here j e) ∙ sym at_y ∙ sym e
      same j a b (no d) = ap (letter_key list) (there j d) ∙ s.same j (later j a d (ℕ_discrete j i)) b

-- The least member

in_rest : (word x c : ℕ) → In (word / 2 ^ x) c ↔ In word (x + c)
unfolding digit
in_rest word x c = let e = ap (λ (z : ℕ). z % 2) (shr-shr word x c) in (λ m. sym e ∙ m, λ m. e ∙ m)

module _ (word x : ℕ) (small : x < 64) where
  passes : (c : ℕ) → x ≤ c → In word c → In (word / 2 ^ x) (c - x)
  passes c le m = let e : c ≡ x + (c - x) = omega arith in (in_rest word x (c - x)).1 (subst (λ (z : ℕ). In word z) e m)

  pub least_none : word / 2 ^ x ≡ 0 → LeastFrom word x None
  least_none e c le m = empty_in (c - x) (subst (λ (z : ℕ). In z (c - x)) e (passes c le m))

  pub least_some : word < 2 ^ 64 → (l : ℕ) → Lowest (word / 2 ^ x) l → (word / 2 ^ x ≡ 0 → ⊥) → LeastFrom word x (Some (x + l))
  least_some fits l low some =
      let here : In word (x + l) = (in_rest word x l).0 (low.member (omega arith)) in
      record {
        low = omega arith;
        high = in_lt {w = 64} {x = word} {q = x + l} fits here;
        none = λ c le lt m. low.least (c - x) (omega arith) (passes c le m);
        member = here;
      }

-- The next letter of a set: the words before w were looked at, and of word w the letters below from

pub record Looking (letters : List ℕ) (x w from : ℕ) : Type 0 where
  pub low : x ≤ w * 64 + from
  pub small : from < 64
  pub none : (c : ℕ) → x ≤ c → c < w * 64 + from → HasKey letters c → ⊥
