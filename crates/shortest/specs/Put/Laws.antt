-- The laws of specs/Put.antt.
--
-- some_symbol            == a letter, as a string
-- put_epsilon, put_letter == the two ways through put
-- later_set, later_more, later_size == the numbers of later, with one more stored behind them; how many they are
-- Repeating, repeat_start, repeat_turn, repeat_end == the loop of again
-- Unloading, unload_start, unload_turn, unload_end == the loop of unload
use Prim.Native.Nat.{ℕ, zero, suc, ◌+◌, ◌-◌, ◌≤◌, ◌<◌}
use Rattle.std.specs.Prelude.{◌≡◌, length, set, take}
use Rattle.std.proofs.Math.Path.{refl, ap}
use Rattle.std.proofs.Common.{sym, ◌∙◌, subst, add-one, length-drop, drop_of_length-le, drop-cons, drop-set-lt, get_or-set_same, get_or-set_other, get_or-drop, get_or-take, length-take-le}
use mathlib.Core.List.{List, [], ◌∷◌, ◌++◌}
use native.Mathlib.Omega.{arith}
use Rattle.std.proofs.Math.ListN.{get_or, drop, length-set}
use Rattle.basics.specs.Lists.Laws.{drop_set}
use Rattle.fsbm.specs.Machine.{transition_at}
use Rattle.fsbm.specs.Published.{symbol}
use Rattle.fsbm.specs.declared.machine.Transition.{Transition}
use Rattle.shortest.specs.Put.{PutReady, Put, Again, later_list, Unloaded}

pub some_symbol : (a : ℕ) → (a ≡ 0 → ⊥) → symbol a ≡ a ∷ []
some_symbol zero some = absurd (some refl)
some_symbol (suc a) some = refl

module _ (list : List ℕ) (k : ℕ) (word : List ℕ) (i : ℕ) (run : List ℕ) (r : ℕ) (p : PutReady list k word i run r) (t : Transition) (is : t ≡ transition_at list k) where
  entry : drop (r - 1) (set run (r - 1) k) ≡ k ∷ drop r run
  entry = drop_set run r (r - 1) k (let h = p.run_room in omega arith) p.run_fits

  pub put_epsilon : t.letter ≡ 0 → Put list k word i run r word i (set run (r - 1) k)
  put_epsilon z =
      let e : symbol (transition_at list k).letter ≡ [] = ap (λ (u : Transition). symbol u.letter) (sym is) ∙ ap symbol z in
      record {
        run_size = length-set run (r - 1) k;
        run_is = entry;
        word_size = refl;
        word_is = ap (λ (x : List ℕ). x ++ drop i word) (sym e);
        place = let l = ap length e in omega arith;
      }

  pub put_letter : (t.letter ≡ 0 → ⊥) → Put list k word i run r (set word (i - 1) t.letter) (i - 1) (set run (r - 1) k)
  put_letter some =
      let e : symbol (transition_at list k).letter ≡ t.letter ∷ [] = ap (λ (u : Transition). symbol u.letter) (sym is) ∙ some_symbol t.letter some in
      let room = p.word_room (λ z. some (ap (λ (u : Transition). u.letter) is ∙ z)) in
      record {
        run_size = length-set run (r - 1) k;
        run_is = entry;
        word_size = length-set word (i - 1) t.letter;
        word_is = drop_set word i (i - 1) t.letter (omega arith) p.word_fits ∙ ap (λ (x : List ℕ). x ++ drop i word) (sym e);
        place = let l = ap length e in omega arith;
      }

-- The letters once more

pub record Repeating (word₀ : List ℕ) (i n : ℕ) (word : List ℕ) (k : ℕ) : Type 0 where
  pub low : k ≤ n
  pub size : length word ≡ length word₀
  pub behind : drop i word ≡ drop i word₀
  pub is : drop (i - n + k) word ≡ drop k (take n (drop i word₀)) ++ drop i word₀

module _ (word₀ : List ℕ) (i n : ℕ) (room : n ≤ i) (fits : i + n ≤ length word₀) where
  length_part : length (take n (drop i word₀)) ≡ n
  length_part = length-take-le n (drop i word₀) (let d = length-drop i word₀ in omega arith)

  pub repeat_start : Repeating word₀ i n word₀ n
  repeat_start =
      record {
        low = omega arith;
        size = refl;
        behind = refl;
        is =
            let e : i - n + n ≡ i = omega arith in
            let f : drop n (take n (drop i word₀)) ≡ [] = drop_of_length-le (take n (drop i word₀)) {i = n} (let l = length_part in omega arith) in
            ap (λ (z : ℕ). drop z word₀) e ∙ ap (λ (z : List ℕ). z ++ drop i word₀) (sym f);
      }

  pub repeat_turn : (word : List ℕ) (k k' : ℕ) → suc k' ≡ k → Repeating word₀ i n word k → Repeating word₀ i n (set word (i - n + k') (get_or word (i + k') 0)) k'
  repeat_turn word k k' is r =
      let low = r.low in
      let size = r.size in
      let part = length_part in
      let same : get_or word (i + k') 0 ≡ get_or (take n (drop i word₀)) k' 0 =
      sym (get_or-drop i word k' 0) ∙ (ap (λ (z : List ℕ). get_or z k' 0) r.behind ∙ sym (get_or-take n (drop i word₀) k' 0 (omega arith))) in
      let next : suc (i - n + k') ≡ i - n + k = omega arith in
      record {
        low = omega arith;
        size = length-set word (i - n + k') (get_or word (i + k') 0) ∙ size;
        behind = drop-set-lt i word (i - n + k') (get_or word (i + k') 0) (omega arith) ∙ r.behind;
        is =
            drop_set word (i - n + k) (i - n + k') (get_or word (i + k') 0) next (omega arith)
            ∙ (ap (λ (z : List ℕ). get_or word (i + k') 0 ∷ z) r.is
            ∙ (ap (λ (z : ℕ). z ∷ (drop k (take n (drop i word₀)) ++ drop i word₀)) same
            ∙ (ap (λ (z : ℕ). get_or (take n (drop i word₀)) k' 0 ∷ (drop z (take n (drop i word₀)) ++ drop i word₀)) (sym is)
            ∙ ap (λ (z : List ℕ). z ++ drop i word₀) (sym (drop-cons (take n (drop i word₀)) k' 0 (omega arith))))));
      }

  pub repeat_end : (word : List ℕ) (k : ℕ) → k ≤ 0 → Repeating word₀ i n word k → Again word₀ i n word
  repeat_end word k z r =
      let e : k ≡ 0 = omega arith in
      let f : i - n + k ≡ i - n = omega arith in
      record { size = r.size; is = ap (λ (z : ℕ). drop z word) (sym f) ∙ (r.is ∙ ap (λ (z : ℕ). drop z (take n (drop i word₀)) ++ drop i word₀) e) }

-- Entries kept for later

module _ (later : List ℕ) where
  pub later_set : (c a : ℕ) (n : ℕ) → c ≤ n → later_list (set later n a) c ≡ later_list later c
  unfolding later_list
  later_set zero a n h = refl
  later_set (suc c) a n h =
      ap (λ (z : ℕ). z ∷ later_list (set later n a) c) (get_or-set_other later n c a 0 (λ (e : c ≡ n). omega arith))
      ∙ ap (λ (z : List ℕ). get_or later c 0 ∷ z) (later_set c a n (omega arith))

  pub later_more : (c a : ℕ) → c < length later → later_list (set later c a) (c + 1) ≡ a ∷ later_list later c
  unfolding later_list
  later_more c a h =
      ap (later_list (set later c a)) (add-one c)
      ∙ (ap (λ (z : ℕ). z ∷ later_list (set later c a) c) (get_or-set_same later c a 0 h) ∙ ap (λ (z : List ℕ). a ∷ z) (later_set c a c (omega arith)))

  pub later_size : (c : ℕ) → length (later_list later c) ≡ c
  unfolding later_list
  later_size zero = refl
  later_size (suc c) = ap suc (later_size c)

  pub record Unloading (c : ℕ) (run₀ : List ℕ) (r : ℕ) (run : List ℕ) (k : ℕ) : Type 0 where
    pub low : k ≤ c
    pub size : length run ≡ length run₀
    pub is : drop (r - k) run ≡ later_list later k ++ drop r run₀

  module _ (c : ℕ) (run₀ : List ℕ) (r : ℕ) (room : c ≤ r) (fits : r ≤ length run₀) where
    pub unload_start : Unloading c run₀ r run₀ 0
    unfolding later_list
    unload_start = record { low = omega arith; size = refl; is = ap (λ (z : ℕ). drop z run₀) (let e : r - 0 ≡ r = omega arith in e) }

    pub unload_turn : (run : List ℕ) (k : ℕ) → k < c → Unloading c run₀ r run k → Unloading c run₀ r (set run (r - 1 - k) (get_or later k 0)) (k + 1)
    unfolding later_list
    unload_turn run k h u =
        let size = u.size in
        let at : r - (k + 1) ≡ r - 1 - k = omega arith in
        let next : suc (r - 1 - k) ≡ r - k = omega arith in
        record {
          low = omega arith;
          size = length-set run (r - 1 - k) (get_or later k 0) ∙ size;
          is =
              ap (λ (z : ℕ). drop z (set run (r - 1 - k) (get_or later k 0))) at
              ∙ (drop_set run (r - k) (r - 1 - k) (get_or later k 0) next (omega arith)
              ∙ (ap (λ (z : List ℕ). get_or later k 0 ∷ z) u.is ∙ ap (λ (z : ℕ). later_list later z ++ drop r run₀) (sym (add-one k))));
        }

    pub unload_end : (run : List ℕ) (k : ℕ) → c ≤ k → Unloading c run₀ r run k → Unloaded later c run₀ r run
    unload_end run k z u =
        let e : k ≡ c = let l = u.low in omega arith in
        record { size = u.size; is = subst (λ (j : ℕ). drop (r - j) run ≡ later_list later j ++ drop r run₀) e u.is }
