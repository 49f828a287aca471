-- The laws of specs/Split.antt: the loop that takes a run apart begins, goes on and ends. Assumes nothing.
--
-- letters_cons, letters_drop == the letters of a run from a place on
-- counts, counts_not  == an entry counts if it moves by a letter
-- still_change, still_epsilon, is_letter_lem == which entries move by a letter
-- split_start, split-room, split_turn, split-end == the loop
-- joined_apart        == what listed_split says of a transition of the product
use Prim.Native.Nat.{ℕ, zero, suc, ◌+◌, ◌/◌, ◌%◌, ◌≤◌, ◌<◌}
use Rattle.std.specs.Prelude.{◌≡◌, refl, ◌⊎◌, Bool, true, false, cond, not, ◌&&◌, length, get_or, set, drop, ltb, eqb}
use Rattle.std.proofs.Common.{sym, ◌∙◌, subst, inl, inr, length-set, drop-cons, drop-set-lt, get_or-set_same, get_or-set_other, lt-ltb, le-ltb, eq-eqb, ne_eqb, ltb-true}
use Rattle.std.proofs.Math.Path.{ap}
use mathlib.Core.List.{List, [], ◌∷◌, ◌++◌}
use native.Mathlib.Omega.{arith}
use Rattle.std.proofs.Math.Decide.{dec_lt, ℕ_discrete}
use Rattle.std.proofs.Math.Seq.{drop-length, drop-nil}
use Rattle.basics.specs.Search.Laws.{and_true, and_both_true, not_both}
use Rattle.basics.specs.Bools.{not_says}
use Rattle.basics.specs.Lists.Laws.{drop_set}
use Rattle.fsbm.specs.Machine.{transition_at}
use Rattle.fsbm.specs.Moves.{begin_buffering}
use Rattle.fsbm.specs.Published.{Listed}
use Rattle.fsbm.specs.declared.machine.Machine.{Machine}
use Rattle.pieces.specs.Written.{Takes}
use Rattle.common.specs.Split.{is_letter, letters_in, Splits, nothing_left, change, alone, moves}
use Rattle.product.specs.Common.{listed_split}
use Rattle.product.specs.Product.{joined_transitions, joined_count, join_fault}
use Rattle.product.specs.Tables.{Joinable, joinable}
use Rattle.split.specs.Split.{FirstReady, FirstPart, SecondReady, SecondPart, Joined, Split, Splitting}

pub counts : {b : Bool} → b ≡ true → ◌≡◌ {A = ℕ} (cond b 1 0) 1
counts {b} h = rw h

pub counts_not : {b : Bool} → b ≡ false → ◌≡◌ {A = ℕ} (cond b 1 0) 0
counts_not {b} h = rw h

module _ (list : List ℕ) where
  -- Which entries move by a letter

  pub still_change : (e : ℕ) → begin_buffering ≤ e → is_letter list e ≡ false
  still_change e h = ap (λ (z : Bool). z && not (eqb (transition_at list e).letter 0)) (le-ltb e begin_buffering h)

  pub still_epsilon : (e : ℕ) → (transition_at list e).letter ≡ 0 → is_letter list e ≡ false
  still_epsilon e h = at (ltb e begin_buffering) (eq-eqb (transition_at list e).letter 0 h)
    where
      at : (b : Bool) → eqb (transition_at list e).letter 0 ≡ true → (b && not (eqb (transition_at list e).letter 0)) ≡ false
      at true f = ap not f
      at false f = refl

  pub is_letter_lem : (e : ℕ) → e < begin_buffering → ((transition_at list e).letter ≡ 0 → ⊥) → is_letter list e ≡ true
  is_letter_lem e h some = and_both_true (ltb e begin_buffering) (not (eqb (transition_at list e).letter 0)) (lt-ltb e begin_buffering h) (ap not (ne_eqb (transition_at list e).letter 0 some))

  pub letter_says : (e : ℕ) → is_letter list e ≡ true → (e < begin_buffering) × ((transition_at list e).letter ≡ 0 → ⊥)
  letter_says e h =
      let (a, b) = and_true (ltb e begin_buffering) (not (eqb (transition_at list e).letter 0)) h in
      (ltb-true e begin_buffering a, λ z. not_says (eqb (transition_at list e).letter 0) b (eq-eqb (transition_at list e).letter 0 z))

  epsilon : (e : ℕ) → e < begin_buffering → is_letter list e ≡ false → (transition_at list e).letter ≡ 0
  epsilon e h f = at (ℕ_discrete (transition_at list e).letter 0)
    where
      at : Dec ((transition_at list e).letter ≡ 0) → (transition_at list e).letter ≡ 0
      at (yes z) = z
      at (no n) = absurd (not_both (is_letter_lem e h n) f)

  -- How many there are

  pub letters_cons : (l : List ℕ) (i : ℕ) → i < length l → letters_in list (drop i l) ≡ cond (is_letter list (get_or l i 0)) 1 0 + letters_in list (drop (suc i) l)
  unfolding letters_in
  letters_cons l i h = ap (letters_in list) (drop-cons l i 0 h)

  pub letters_drop : (l : List ℕ) (i : ℕ) → letters_in list (drop i l) ≤ letters_in list l
  unfolding letters_in
  letters_drop l zero = omega arith
  letters_drop [] (suc i) = omega arith
  letters_drop (e ∷ l) (suc i) = let h = letters_drop l i in omega arith

  letters_later : (l : List ℕ) (i j : ℕ) → i ≤ j → letters_in list (drop j l) ≤ letters_in list (drop i l)
  letters_later l zero j h = letters_drop l j
  letters_later [] (suc i) j h = rw (drop-nil j) (omega arith)
  letters_later (e ∷ l) (suc i) zero h = absurd (omega arith)
  letters_later (e ∷ l) (suc i) (suc j) h = letters_later l i j (omega arith)

by_epsilon : {m : Machine} {list : List ℕ} {e p a q : ℕ} → Takes m list e p a q → a ≡ 0 → Takes m list e p 0 q
by_epsilon t z = record { listed = t.listed; from = t.from; letter = t.letter ∙ z; to = t.to }

-- A transition of the product is one of the first machine, and of the second if it has a letter

module _ (m₁ : Machine) (l₁ : List ℕ) (m₂ : Machine) (l₂ : List ℕ) where
  pub record Apart (list : List ℕ) (e : ℕ) : Type 0 where
    pub of_first : Listed l₁ m₁.transitions ((transition_at list e).from / m₂.states) (transition_at list e).letter ((transition_at list e).to / m₂.states)
    pub of_second : ((transition_at list e).letter ≡ 0 → ⊥) → Listed l₂ m₂.transitions ((transition_at list e).from % m₂.states) (transition_at list e).letter ((transition_at list e).to % m₂.states)

  joined_apart : join_fault m₁ l₁ m₂ l₂ ≡ 0 → (rest : List ℕ) (e : ℕ) → e < joined_count m₁ l₁ m₂ l₂ → Apart (joined_transitions m₁ l₁ m₂ l₂ ++ rest) e
  joined_apart fine rest e lt =
      let list = joined_transitions m₁ l₁ m₂ l₂ ++ rest in
      let s = listed_split m₁ l₁ m₂ l₂ fine rest {P = (transition_at list e).from} {x = (transition_at list e).letter} {Q = (transition_at list e).to} (record { number = e; listed = lt; from = refl; letter = refl; to = refl }) in
      record {
        of_first = s.of_first;
        of_second = λ some. at some s.of_second;
      }
    where
      at : {A B : Type 0} {x : ℕ} → (x ≡ 0 → ⊥) → ((x ≡ 0) × A) ⊎ ((x ≡ 0 → ⊥) × B) → B
      at some (inl (z, a)) = absurd (some z)
      at some (inr (n, b)) = b

  module _ (list run₀ other₀ : List ℕ) (j : Joined m₁ l₁ m₂ l₂ list run₀ other₀) where
    pub apart : (e : ℕ) → e < joined_count m₁ l₁ m₂ l₂ → Apart list e
    apart e lt = subst (λ (l : List ℕ). Apart l e) (sym j.list_is) (joined_apart j.fine j.rest e lt)

    pub tables : Joinable m₁ l₁ m₂ l₂
    tables = joinable m₁ l₁ m₂ l₂ j.fine

    -- an entry of the run that changes no mode is a transition of the product
    pub entry_below : (k : ℕ) → 0 < k → k < length run₀ → get_or run₀ k 0 < begin_buffering → get_or run₀ k 0 < joined_count m₁ l₁ m₂ l₂
    entry_below k some inside low = at (j.entries k some inside)
      where
        at : (begin_buffering ≤ get_or run₀ k 0) ⊎ (get_or run₀ k 0 < joined_count m₁ l₁ m₂ l₂) → get_or run₀ k 0 < joined_count m₁ l₁ m₂ l₂
        at (inl h) = absurd (omega arith)
        at (inr h) = h

    pub split_start : Splitting m₁ l₁ m₂ l₂ list run₀ other₀ run₀ other₀ (length run₀) (length other₀)
    unfolding letters_in
    split_start =
        record {
          low = j.started;
          high = omega arith;
          run_size = refl;
          other_size = refl;
          place = rw (drop-length run₀) (omega arith);
          below = λ i l. refl;
          splits = rw (drop-length run₀, drop-length other₀) nothing_left;
        }

    module _ (run other : List ℕ) (k' k p : ℕ) (is : suc k' ≡ k) (some : 0 < k') (s : Splitting m₁ l₁ m₂ l₂ list run₀ other₀ run other k p) where
      inside : k' < length run₀
      inside = omega (arith, s.high)

      same : get_or run k' 0 ≡ get_or run₀ k' 0
      same = s.below k' (omega arith)

      below : get_or run k' 0 < begin_buffering → get_or run k' 0 < joined_count m₁ l₁ m₂ l₂
      below h = subst (λ (e : ℕ). e < joined_count m₁ l₁ m₂ l₂) (sym same) (entry_below k' some inside (omega (arith, same)))

      pub first_ready : FirstReady m₁ l₁ list m₂.states (get_or run k' 0)
      first_ready =
          record {
            some = omega (arith, tables.second.some_state);
            there = λ l. (apart (get_or run k' 0) (below l)).of_first;
          }

      letters_here : letters_in list (drop k' run₀) ≡ cond (is_letter list (get_or run k' 0)) 1 0 + letters_in list (drop k run₀)
      letters_here = subst (λ (e : ℕ). letters_in list (drop k' run₀) ≡ cond (is_letter list e) 1 0 + letters_in list (drop k run₀)) (sym same)
          (subst (λ (i : ℕ). letters_in list (drop k' run₀) ≡ cond (is_letter list (get_or run₀ k' 0)) 1 0 + letters_in list (drop i run₀)) is (letters_cons list run₀ k' inside))

      -- there is a place for the entry, and one for the start state before it
      room : letters_in list (drop k' run₀) < length other₀
      room = let l = letters_later list run₀ 1 k' (omega arith) in let e = j.letters in omega arith

      pub second_ready : SecondReady m₂ l₂ list m₂.states (get_or run k' 0) p other
      second_ready =
          record {
            some = omega (arith, tables.second.some_state);
            there = λ l. (
              (apart (get_or run k' 0) (below (letter_says list (get_or run k' 0) l).0)).of_second
                  (letter_says list (get_or run k' 0) l).1,
              let e = letters_here in let c = counts l in let h = room in let t = s.place in omega arith,
            );
            room = let t = s.place in let z = s.other_size in omega arith;
          }

      module _ (d : ℕ) (first : FirstPart m₁ l₁ list m₂.states (get_or run k' 0) d) (p' : ℕ) (other' : List ℕ) where
        abbrev Front : List ℕ → Type 0
        Front b = Splits m₁ l₁ m₂ l₂ list (drop k' run₀) (drop k' (set run k' d)) b

        -- the entry in front of what was taken apart
        front : (b : List ℕ) → Splits m₁ l₁ m₂ l₂ list (get_or run k' 0 ∷ drop k run₀) (d ∷ drop k run) b → Front b
        front b x =
            subst (λ (u : List ℕ). Splits m₁ l₁ m₂ l₂ list u (drop k' (set run k' d)) b)
            (ap (λ (e : ℕ). e ∷ drop k run₀) same ∙ (ap (λ (i : ℕ). get_or run₀ k' 0 ∷ drop i run₀) (sym is) ∙ sym (drop-cons run₀ k' 0 inside)))
            (subst (λ (u : List ℕ). Splits m₁ l₁ m₂ l₂ list (get_or run k' 0 ∷ drop k run₀) u b)
            (sym (drop_set run k k' d is (let z = s.run_size in let i = inside in omega arith)))
            x)

        turned : (length other' ≡ length other₀) → p' + letters_in list (drop k' run₀) ≡ length other₀ → Front (drop p' other') → Splitting m₁ l₁ m₂ l₂ list run₀ other₀ (set run k' d) other' k' p'
        turned size place x =
            record {
              low = some;
              high = let i = inside in omega arith;
              run_size = length-set run k' d ∙ s.run_size;
              other_size = size;
              place = place;
              below = λ i l. get_or-set_other run k' i d 0 (λ (e : i ≡ k'). omega arith) ∙ s.below i (omega arith);
              splits = x;
            }

        pub split_turn : SecondPart m₂ l₂ list m₂.states (get_or run k' 0) p other p' other' → Splitting m₁ l₁ m₂ l₂ list run₀ other₀ (set run k' d) other' k' p'
        split_turn (inl kept) =
            turned (ap length kept.after ∙ s.other_size)
            (let e = letters_here in let c = counts_not kept.none in let t = s.place in let q = kept.place in omega arith)
            (front (drop p' other') (subst (λ (u : List ℕ). Splits m₁ l₁ m₂ l₂ list (get_or run k' 0 ∷ drop k run₀) (d ∷ drop k run) u) back (at (dec_lt (get_or run k' 0) begin_buffering))))
          where
            back : drop p other ≡ drop p' other'
            back = ap (λ (i : ℕ). drop i other) (sym kept.place) ∙ ap (drop p') (sym kept.after)

            at : Dec (get_or run k' 0 < begin_buffering) → Splits m₁ l₁ m₂ l₂ list (get_or run k' 0 ∷ drop k run₀) (d ∷ drop k run) (drop p other)
            at (no h) =
                subst (λ (z : ℕ). Splits m₁ l₁ m₂ l₂ list (get_or run k' 0 ∷ drop k run₀) (z ∷ drop k run) (drop p other)) (sym (first.changes (omega arith)))
                (change (omega arith) s.splits)
            at (yes h) =
                let z = epsilon list (get_or run k' 0) h kept.none in
                alone h z (by_epsilon (first.takes h) z) s.splits
        split_turn (inr put) =
            turned (ap length put.after ∙ (length-set other p' put.entry ∙ s.other_size))
            (let e = letters_here in let c = counts put.letter in let t = s.place in let q = put.place in omega arith)
            (front (drop p' other')
            (subst (λ (u : List ℕ). Splits m₁ l₁ m₂ l₂ list (get_or run k' 0 ∷ drop k run₀) (d ∷ drop k run) u) back
            (moves low (letter_says list (get_or run k' 0) put.letter).1 (first.takes low) put.takes s.splits)))
          where
            low : get_or run k' 0 < begin_buffering
            low = (letter_says list (get_or run k' 0) put.letter).0

            back : put.entry ∷ drop p other ≡ drop p' other'
            back =
                sym (drop_set other p p' put.entry put.place (let q = put.place in let r = second_ready.room in omega arith)) ∙ ap (drop p') (sym put.after)

    pub split_done : (run other : List ℕ) (k p : ℕ) → k ≤ 1 → Splitting m₁ l₁ m₂ l₂ list run₀ other₀ run other k p
        → Split m₁ l₁ m₂ l₂ list run₀ (set run 0 (get_or run 0 0 / m₂.states)) (set other 0 (get_or run 0 0 % m₂.states))
    split_done run other k p end s =
        let one : k ≡ 1 = let l = s.low in omega arith in
        let first : p ≡ 1 = let t = s.place in let e = j.letters in let h = ap (λ (i : ℕ). letters_in list (drop i run₀)) one in omega arith in
        let same = s.below 0 s.low in
        let some_run : 0 < length run = let z = s.run_size in let b = j.started in omega arith in
        let some_other : 0 < length other = let z = s.other_size in let e = j.letters in omega arith in
        record {
          first_start = get_or-set_same run 0 (get_or run 0 0 / m₂.states) 0 some_run ∙ ap (λ (e : ℕ). e / m₂.states) same;
          second_start = get_or-set_same other 0 (get_or run 0 0 % m₂.states) 0 some_other ∙ ap (λ (e : ℕ). e % m₂.states) same;
          splits =
              subst (λ (u : List ℕ). Splits m₁ l₁ m₂ l₂ list (drop 1 run₀) u (drop 1 (set other 0 (get_or run 0 0 % m₂.states)))) (sym (drop-set-lt 1 run 0 (get_or run 0 0 / m₂.states) (omega arith)))
              (subst (λ (u : List ℕ). Splits m₁ l₁ m₂ l₂ list (drop 1 run₀) (drop 1 run) u) (sym (drop-set-lt 1 other 0 (get_or run 0 0 % m₂.states) (omega arith)))
              (subst (λ (i : ℕ). Splits m₁ l₁ m₂ l₂ list (drop 1 run₀) (drop 1 run) (drop i other)) first
              (subst (λ (i : ℕ). Splits m₁ l₁ m₂ l₂ list (drop i run₀) (drop i run) (drop p other)) one s.splits)));
        }
