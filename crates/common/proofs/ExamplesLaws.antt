-- The laws of specs/Examples.antt.
--
-- none_holds, shortest_holds == the rows on two machines pass their tests, by evaluation
-- none_means, shortest_means == rows that pass their tests mean what they say
-- examples             == every row of the table means what it says
use Prim.Native.Nat.{ℕ, zero, suc, ◌+◌, ◌≤◌, ◌<◌}
use Rattle.std.specs.Prelude.{◌≡◌, refl, ◌⊎◌, ◌&&◌, get_or, ltb, eqb}
use Rattle.std.proofs.Math.Path.{sym, ap, subst₂}
use Rattle.std.proofs.Common.{◌∙◌, Ok, Err, Some, subst, inl, inr, ext_get_or, ltb-true, eqb-true}
use mathlib.Core.List.Memᴰ
use mathlib.Core.List.{List, [], ◌∷◌, ◌++◌, map, append-nil, Memᴰ}
use Rattle.std.proofs.Math.Bool.{Bool, true, false}
use native.Mathlib.Omega.{arith}
use Rattle.std.proofs.Math.Decide.{dec_le}
use Rattle.std.proofs.Math.ListN.{length}
use Rattle.std.proofs.lemmas.Bool.{not-true}
use Rattle.basics.specs.Search.{any_below, all_below, AllBelow}
use Rattle.basics.specs.Search.Laws.{and_true, and_both_true, or_false, not_both, any_below_false, all_below_true, AllBelow-head, AllBelow-tail}
use Rattle.fsbm.specs.Moves.{accepting}
use Rattle.fsbm.specs.Accepted.{run_bound}
use Rattle.fsbm.specs.declared.answer.Refusal.TheVariants.{ShortWord}
use Rattle.fsbm.specs.declared.machine.Machine.{Machine}
use Rattle.language.specs.Examples.{doubling, doubling_list}
use Rattle.language.specs.Reached.{decided}
use Rattle.language.specs.Reached.Laws.{decided_accepted}
use Rattle.product.specs.Product.{joined_transitions, joined_machine, join_fault}
use Rattle.product.specs.Tables.{Joinable, joinable}
use Rattle.product.specs.WellFormed.{joined_well_formed}
use Rattle.product.specs.Examples as product
use Rattle.product.specs.Examples.{odd, odd_list, odd_joined, joins}
use Rattle.product.specs.Examples.Laws as product-laws
use Rattle.product.specs.Examples.Laws.{joins_means}
use Rattle.pieces.specs.Spots.{no_copy_word}
use Rattle.pieces.proofs.SpotsLaws.{no_copy_word_lem}
use Rattle.common.specs.Common.{is_common, least_common}
use Rattle.common.proofs.CommonLaws.{answer_none, answer_word, answer_found, common_parts, common_runs, common_joined, common_letters, least_common_lem, no_shorter, any_common, none_common}
use Rattle.common.specs.Examples.{some, some_list, odd_machine, Row, before, no_common, shortest_common, Meaning, some_word, none_shorter, same_machine, has_none, has_shortest, rows}

-- What the tests say

same_machine_lem : (m m' : Machine) → same_machine m m' ≡ true → m ≡ m'
unfolding same_machine
same_machine_lem m m' h =
    let each = all_below (length m.marks) (λ q. eqb (get_or m.marks q 0) (get_or m'.marks q 0)) in
    let size = eqb (length m.marks) (length m'.marks) in
    let count = eqb m.transitions m'.transitions in
    let (a, r₁) = and_true (eqb m.states m'.states) (eqb m.letters m'.letters && (count && (size && each))) h in
    let (b, r₂) = and_true (eqb m.letters m'.letters) (count && (size && each)) r₁ in
    let (c, r₃) = and_true count (size && each) r₂ in
    let (d, e) = and_true size each r₃ in
    let states = eqb-true m.states m'.states a in
    let letters = eqb-true m.letters m'.letters b in
    let transitions = eqb-true m.transitions m'.transitions c in
    let marks = ext_get_or 0 m.marks m'.marks (eqb-true (length m.marks) (length m'.marks) d)
    (λ q lt. eqb-true (get_or m.marks q 0) (get_or m'.marks q 0) ((all_below_true (λ q. eqb (get_or m.marks q 0) (get_or m'.marks q 0)) (length m.marks)).0 e q lt)) in
    λ i. record { states = states i; letters = letters i; transitions = transitions i; marks = marks i }

no_word_of : (n len : ℕ) (p : List ℕ → Bool) → some_word n len p ≡ false → (w : List ℕ) → length w ≤ len → AllBelow n w → p w ≡ false
unfolding some_word
no_word_of n zero p h [] l b = h
no_word_of n zero p h (x ∷ w) l b = absurd (omega arith)
no_word_of n (suc len) p h [] l b = (or_false (p []) (any_below n (λ x. some_word n len (λ w. p (x ∷ w)))) h).0
no_word_of n (suc len) p h (x ∷ w) l b =
    let rest = (or_false (p []) (any_below n (λ x. some_word n len (λ w. p (x ∷ w)))) h).1 in
    no_word_of n len (λ w. p (x ∷ w)) ((any_below_false (λ x. some_word n len (λ w. p (x ∷ w))) n).0 rest x (AllBelow-head b)) w (omega arith) (AllBelow-tail b)

none_shorter_lem : (letters n : ℕ) (p : List ℕ → Bool) → none_shorter letters n p ≡ true → (w : List ℕ) → length w < n → AllBelow letters w → p w ≡ false
unfolding none_shorter
none_shorter_lem letters zero p h w l b = absurd (omega arith)
none_shorter_lem letters (suc len) p h w l b = no_word_of letters len p (not-true (some_word letters len p) h) w (omega arith) b

-- What the rows mean

module _ (m₁ : Machine) (l₁ : List ℕ) (m₂ : Machine) (l₂ : List ℕ) where
  pub none_means : (m : Machine) (list : List ℕ) → has_none m₁ l₁ m₂ l₂ m list ≡ true → Meaning (no_common m₁ l₁ m₂ l₂ m list)
  unfolding has_none
  none_means m list h =
      let J = joined_machine m₁ l₁ m₂ l₂ in
      let (a, r) = and_true (joins m₁ l₁ m₂ l₂ m.states list) (same_machine m J && no_copy_word m list) h in
      let (b, c) = and_true (same_machine m J) (no_copy_word m list) r in
      let (fine, states, count, transitions) = joins_means m₁ l₁ m₂ l₂ m.states list a in
      let same = same_machine_lem m J b in
      let L = joined_transitions m₁ l₁ m₂ l₂ ++ [] in
      let passes : no_copy_word J L ≡ true = subst₂ (λ (x : Machine) (y : List ℕ). no_copy_word x y ≡ true) same (sym (append-nil (joined_transitions m₁ l₁ m₂ l₂) ∙ transitions)) c in
      let no : (w : List ℕ) → is_common m₁ l₁ m₂ l₂ w ≡ false = λ w. sym (common_joined m₁ l₁ m₂ l₂ fine [] w) ∙ no_copy_word_lem J L (joined_well_formed m₁ l₁ m₂ l₂ fine []) passes w in
      (fine, sym same, transitions, no, λ word f s entries. sym (answer_none m₁ l₁ m₂ l₂ word f s entries fine ((none_common m₁ l₁ m₂ l₂ fine).1 no)))

  pub shortest_means : (w run₁ run₂ : List ℕ) (short : ℕ) → has_shortest m₁ l₁ m₂ l₂ w run₁ run₂ short ≡ true → Meaning (shortest_common m₁ l₁ m₂ l₂ w run₁ run₂ short)
  unfolding has_shortest
  shortest_means w run₁ run₂ short h =
      let both : List ℕ → Bool = λ v. decided m₁ l₁ v && decided m₂ l₂ v in
      let least = none_shorter (suc m₁.letters) (length w) both in
      let (a, s₁) = and_true (eqb (join_fault m₁ l₁ m₂ l₂) 0) (accepting m₁ l₁ w run₁ && (accepting m₂ l₂ w run₂ && (ltb short (length w) && least))) h in
      let (b, s₂) = and_true (accepting m₁ l₁ w run₁) (accepting m₂ l₂ w run₂ && (ltb short (length w) && least)) s₁ in
      let (c, s₃) = and_true (accepting m₂ l₂ w run₂) (ltb short (length w) && least) s₂ in
      let (d, e) = and_true (ltb short (length w)) least s₃ in
      meaning (eqb-true (join_fault m₁ l₁ m₂ l₂) 0 a) b c (ltb-true short (length w) d) e
    where
      meaning : join_fault m₁ l₁ m₂ l₂ ≡ 0 → accepting m₁ l₁ w run₁ ≡ true → accepting m₂ l₂ w run₂ ≡ true → short < length w
          → none_shorter (suc m₁.letters) (length w) (λ v. decided m₁ l₁ v && decided m₂ l₂ v) ≡ true → Meaning (shortest_common m₁ l₁ m₂ l₂ w run₁ run₂ short)
      meaning fine a₁ a₂ less test =
          let j = joinable m₁ l₁ m₂ l₂ fine in
          let c = (common_runs m₁ l₁ m₂ l₂ fine w).1 ((run₁, a₁), (run₂, a₂)) in
          let within = (any_common m₁ l₁ m₂ l₂ fine).1 (w, c) in
          let least : (v : List ℕ) → is_common m₁ l₁ m₂ l₂ v ≡ true → length w ≤ length v = λ v t. at_least j v t (dec_le (length w) (length v)) in
          let (v, size, t) = least_common_lem m₁ l₁ m₂ l₂ fine within in
          let up = no_shorter m₁ l₁ m₂ l₂ fine w c in
          let low = least v t in
          let is : least_common m₁ l₁ m₂ l₂ ≡ length w = omega arith in (
            fine,
            a₁,
            a₂,
            c,
            least,
            λ word f s entries fits fits-first fits-second.
                sym (answer_found m₁ l₁ m₂ l₂ word f s entries fine within (omega arith) (subst (λ (n : ℕ). run_bound m₁ n ≤ f) (sym is) fits-first) (omega arith))
                ∙ ap (λ (n : ℕ). Ok (Some (record { letters = n; first = entries; second = n + 1 }))) is,
            λ f s entries. sym (answer_word m₁ l₁ m₂ l₂ short f s entries fine within (omega arith)) ∙ ap (λ (n : ℕ). Err (ShortWord n)) is,
          )
        where
          at_least : Joinable m₁ l₁ m₂ l₂ → (v : List ℕ) → is_common m₁ l₁ m₂ l₂ v ≡ true → Dec (length w ≤ length v) → length w ≤ length v
          at_least j v t (yes l) = l
          at_least j v t (no f) =
              let (t₁, t₂) = (common_parts m₁ l₁ m₂ l₂ fine v).0 t in
              absurd (not_both
              (and_both_true (decided m₁ l₁ v) (decided m₂ l₂ v) (decided_accepted m₁ l₁ v j.good₁ ∙ t₁) (decided_accepted m₂ l₂ v j.good₂ ∙ t₂))
              (none_shorter_lem (suc m₁.letters) (length w) (λ v. decided m₁ l₁ v && decided m₂ l₂ v) test v (omega arith) (common_letters m₁ l₁ m₂ l₂ fine v t)))

-- The table

pub none_holds : has_none doubling doubling_list odd odd_list odd_machine odd_joined ≡ true
unfolding has_none
none_holds = refl

pub shortest_holds : has_shortest doubling doubling_list some some_list (2 ∷ 2 ∷ []) (0 ∷ 65533 ∷ 0 ∷ 3 ∷ 1 ∷ 65534 ∷ 5 ∷ 65535 ∷ []) (0 ∷ 1 ∷ 3 ∷ []) 1 ≡ true
unfolding has_shortest
shortest_holds = refl

abbrev none_row : Row
none_row = no_common doubling doubling_list odd odd_list odd_machine odd_joined

abbrev shortest_row : Row
shortest_row = shortest_common doubling doubling_list some some_list (2 ∷ 2 ∷ []) (0 ∷ 65533 ∷ 0 ∷ 3 ∷ 1 ∷ 65534 ∷ 5 ∷ 65535 ∷ []) (0 ∷ 1 ∷ 3 ∷ []) 1

pub examples : (r : Row) → Memᴰ r rows → Meaning r
examples r k = at (Memᴰ.cases_cons k)
  where
    then : (r ≡ shortest_row) ⊎ Memᴰ r (map before product.rows) → Meaning r
    then (inl e) =
        subst Meaning (sym e)
        (shortest_means doubling doubling_list some some_list (2 ∷ 2 ∷ []) (0 ∷ 65533 ∷ 0 ∷ 3 ∷ 1 ∷ 65534 ∷ 5 ∷ 65535 ∷ []) (0 ∷ 1 ∷ 3 ∷ []) 1 shortest_holds)
    then (inr m) = let (x, i, e) = Memᴰ.of_map before product.rows m in subst Meaning e (product-laws.examples x i)

    at : (r ≡ none_row) ⊎ Memᴰ r (shortest_row ∷ map before product.rows) → Meaning r
    at (inl e) = subst Meaning (sym e) (none_means doubling doubling_list odd odd_list odd_machine odd_joined none_holds)
    at (inr m) = then (Memᴰ.cases_cons m)
