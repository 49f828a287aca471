-- Demand 3 from the contract of the search.
--
-- demand_runs          == for acceptance by each machine's own runs
-- demand_published     == for the published definition
-- unchanged            == where nothing is found no slice changes
use Rattle.std.specs.Prelude.{ℕ, ◌+◌, ◌*◌, ◌≤◌, ◌<◌, ◌≡◌, refl, ◌↔◌, ◌⊎◌, Bool, true, false, List, ◌++◌, length, take, drop, leb}
use Rattle.std.proofs.Common.{sym, ◌∙◌, subst, inl, inr, length-take-le, leb-true, leb-false, le-leb, eq-eqb}
use Rattle.std.proofs.Math.Path.{ap}
use Rattle.std.proofs.Math.Bool.{cond}
use native.Mathlib.Omega.{arith}
use Rattle.std.proofs.Math.Nat.{mul-le-mul_right}
use Rattle.std.proofs.lemmas.Bool.{lt-leb}
use Rattle.basics.specs.Search.Laws.{not_both, true_or_false}
use Rattle.fsbm.specs.Accepted.{run_bound}
use Rattle.fsbm.specs.declared.machine.Machine.{Machine}
use Rattle.language.specs.Agreement.{accepting_written}
use Rattle.product.specs.Product.{join_fault}
use Rattle.product.specs.Tables.{Joinable, joinable}
use Rattle.pieces.specs.Bound.{word_bound}
use Rattle.common.specs.declared.Lengths.{Lengths}
use Rattle.std.specs.Prelude.{Option, None, Some, Result, Ok, Err}
use Rattle.fsbm.specs.Answers.{refusal}
use Rattle.fsbm.specs.declared.answer.Refusal.{Refusal}
use Rattle.fsbm.specs.declared.answer.Refusal.TheVariants.{ShortRun, ShortWord}
use Rattle.common.specs.Common.{is_common, least_common, common_answer, common_values, Front, CommonWord}
use Rattle.common.proofs.CommonLaws.{common_runs, common_published, least_common_lem, no_shorter, any_common, none_common}
use Rattle.common.specs.Demand.{BothAccept, BothPublished, Shortest, Refuses, WrittenWord, Demand}

-- The cases of the answer, by its tests

abbrev chosen : Bool → Bool → Bool → Bool → ℕ → ℕ → ℕ → Result (Option Lengths) Refusal
chosen some word first second n needed entries =
    cond some
    (cond word
    (cond first
    (cond second (Ok (Some (record { letters = n; first = entries; second = n + 1 }))) (Err (ShortRun (n + 1))))
    (Err (ShortRun needed)))
    (Err (ShortWord n)))
    (Ok None)

number_of : {r r' : Result (Option Lengths) Refusal} → r ≡ r' → (common_values r).refusal ≡ (common_values r').refusal
number_of e = ap (λ (x : Result (Option Lengths) Refusal). (common_values x).refusal) e

needed_of : {r r' : Result (Option Lengths) Refusal} → r ≡ r' → (common_values r).needed ≡ (common_values r').needed
needed_of e = ap (λ (x : Result (Option Lengths) Refusal). (common_values x).needed) e

module _ (n needed entries : ℕ) where
  none_chosen : (s w f d : Bool) → (chosen s w f d n needed entries ≡ Ok None) ↔ (s ≡ false)
  none_chosen false w f d = (λ e. refl, λ e. refl)
  none_chosen true false f d = (λ e. let z = number_of e in absurd (omega arith), λ e. absurd (not_both refl e))
  none_chosen true true false d = (λ e. let z = number_of e in absurd (omega arith), λ e. absurd (not_both refl e))
  none_chosen true true true false = (λ e. let z = number_of e in absurd (omega arith), λ e. absurd (not_both refl e))
  none_chosen true true true true = (λ e. let z = ap (λ (x : Result (Option Lengths) Refusal). (common_values x).second) e in absurd (omega arith), λ e. absurd (not_both refl e))

  module _ (far : n + 1 < needed) where
    word_chosen : (w f d : Bool) → Refuses (chosen true w f d n needed entries) (ShortWord n) ↔ (w ≡ false)
    word_chosen false f d = (λ e. refl, λ e. refl)
    word_chosen true false d = (λ e. let z = number_of e in absurd (omega arith), λ e. absurd (not_both refl e))
    word_chosen true true false = (λ e. let z = number_of e in absurd (omega arith), λ e. absurd (not_both refl e))
    word_chosen true true true = (λ e. let z = number_of e in absurd (omega arith), λ e. absurd (not_both refl e))

    first_chosen : (w f d : Bool) → Refuses (chosen true w f d n needed entries) (ShortRun needed) ↔ ((w ≡ true) × (f ≡ false))
    first_chosen false f d = (λ e. let z = number_of e in absurd (omega arith), λ e. absurd (not_both e.0 refl))
    first_chosen true false d = (λ e. (refl, refl), λ e. refl)
    first_chosen true true false = (λ e. let z = needed_of e in absurd (omega arith), λ e. absurd (not_both refl e.1))
    first_chosen true true true = (λ e. let z = number_of e in absurd (omega arith), λ e. absurd (not_both refl e.1))

    second_chosen : (w f d : Bool) → Refuses (chosen true w f d n needed entries) (ShortRun (n + 1)) ↔ ((w ≡ true) × (f ≡ true) × (d ≡ false))
    second_chosen false f d = (λ e. let z = number_of e in absurd (omega arith), λ e. absurd (not_both e.0 refl))
    second_chosen true false d = (λ e. let z = needed_of e in absurd (omega arith), λ e. absurd (not_both e.1 refl))
    second_chosen true true false = (λ e. (refl, refl, refl), λ e. refl)
    second_chosen true true true = (λ e. let z = number_of e in absurd (omega arith), λ e. absurd (not_both refl e.2))

  found_chosen : (w f d : Bool) → ((k : Lengths) × (chosen true w f d n needed entries ≡ Ok (Some k))) ↔ ((w ≡ true) × (f ≡ true) × (d ≡ true))
  found_chosen false f d = (λ s. let z = number_of s.1 in absurd (omega arith), λ e. absurd (not_both e.0 refl))
  found_chosen true false d = (λ s. let z = number_of s.1 in absurd (omega arith), λ e. absurd (not_both e.1 refl))
  found_chosen true true false = (λ s. let z = number_of s.1 in absurd (omega arith), λ e. absurd (not_both e.2 refl))
  found_chosen true true true = (λ s. (refl, refl, refl), λ e. (record { letters = n; first = entries; second = n + 1 }, refl))

  letters_chosen : (w f d : Bool) (k : Lengths) → chosen true w f d n needed entries ≡ Ok (Some k) → (k.letters ≡ n) × (k.second ≡ n + 1)
  letters_chosen false f d k e = let z = number_of e in absurd (omega arith)
  letters_chosen true false d k e = let z = number_of e in absurd (omega arith)
  letters_chosen true true false k e = let z = number_of e in absurd (omega arith)
  letters_chosen true true true k e = (sym (ap (λ (x : Result (Option Lengths) Refusal). (common_values x).letters) e), sym (ap (λ (x : Result (Option Lengths) Refusal). (common_values x).second) e))

  found_some : (s w f d : Bool) (k : Lengths) → chosen s w f d n needed entries ≡ Ok (Some k) → s ≡ true
  found_some true w f d k e = refl
  found_some false w f d k e = let z : ◌≡◌ {A = ℕ} 0 1 = cc in absurd (omega arith)

-- Nothing found, nothing changed

none_written : (r : Result (Option Lengths) Refusal) → ((k : Lengths) → r ≡ Ok (Some k) → ⊥) → ((common_values r).letters ≡ 0) × ((common_values r).first ≡ 0) × ((common_values r).second ≡ 0)
none_written (Err f) h = (refl, refl, refl)
none_written (Ok None) h = (refl, refl, refl)
none_written (Ok (Some k)) h = absurd (h k refl)

front_none : {k : ℕ} {before after : List ℕ} → Front k before after → k ≡ 0 → after ≡ before
front_none {before = before} {after = after} f e = f.rest ∙ ap (λ (i : ℕ). take i after ++ drop i before) e

pub unchanged : {m₁ : Machine} {l₁ : List ℕ} {m₂ : Machine} {l₂ word word' first first' second second' : List ℕ} {r : Result (Option Lengths) Refusal} → CommonWord m₁ l₁ m₂ l₂ word word' first first' second second' r
    → ((k : Lengths) → r ≡ Ok (Some k) → ⊥) → (word' ≡ word) × (first' ≡ first) × (second' ≡ second)
unchanged {r = r} c h = let (a, b, d) = none_written r h in (front_none c.of_word a, front_none c.of_first b, front_none c.of_second d)

-- The demand

module _ (m₁ : Machine) (l₁ : List ℕ) (m₂ : Machine) (l₂ : List ℕ) (word word' first first' second second' : List ℕ) (r : Result (Option Lengths) Refusal)
    (contract : CommonWord m₁ l₁ m₂ l₂ word word' first first' second second' r) (fine : join_fault m₁ l₁ m₂ l₂ ≡ 0) where
  abbrev n : ℕ
  n = least_common m₁ l₁ m₂ l₂

  j : Joinable m₁ l₁ m₂ l₂
  j = joinable m₁ l₁ m₂ l₂ fine

  answered : r ≡ chosen (leb n word_bound) (leb n (length word)) (leb (run_bound m₁ n) (length first)) (leb (n + 1) (length second)) n (run_bound m₁ n) contract.entries
  unfolding common_answer
  answered =
      contract.answer
      ∙ ap (λ (b : Bool). cond b (chosen (leb n word_bound) (leb n (length word)) (leb (run_bound m₁ n) (length first)) (leb (n + 1) (length second)) n (run_bound m₁ n) contract.entries) (Err (refusal (join_fault m₁ l₁ m₂ l₂))))
      (eq-eqb (join_fault m₁ l₁ m₂ l₂) 0 fine)

  abbrev answer_within : Result (Option Lengths) Refusal
  answer_within = chosen true (leb n (length word)) (leb (run_bound m₁ n) (length first)) (leb (n + 1) (length second)) n (run_bound m₁ n) contract.entries

  within_answered : n ≤ word_bound → r ≡ answer_within
  within_answered h =
      answered
      ∙ ap (λ (b : Bool). chosen b (leb n (length word)) (leb (run_bound m₁ n) (length first)) (leb (n + 1) (length second)) n (run_bound m₁ n) contract.entries) (le-leb n word_bound h)

  -- the first run's slice needs more than the second's
  needs_more : n + 1 < run_bound m₁ n
  unfolding run_bound
  needs_more =
      let some = j.first.some_state in
      let three : 3 ≤ 3 * m₁.states = omega arith in
      let k = mul-le-mul_right (n + 1) three in
      omega arith

  -- an answer, and what it says
  read_off : {x : Result (Option Lengths) Refusal} {A : Type 0} → n ≤ word_bound → (answer_within ≡ x) ↔ A → (r ≡ x) ↔ A
  read_off h i = (λ e. i.0 (sym (within_answered h) ∙ e), λ a. within_answered h ∙ i.1 a)

  module _ (C : List ℕ → Type 0) (both : (w : List ℕ) → (is_common m₁ l₁ m₂ l₂ w ≡ true) ↔ C w) where
    shortest_is : (k : ℕ) → Shortest C k → (n ≡ k) × (n ≤ word_bound)
    shortest_is k s =
        let c = (both s.word).1 s.common in
        let up = no_shorter m₁ l₁ m₂ l₂ fine s.word c in
        let within = (any_common m₁ l₁ m₂ l₂ fine).1 (s.word, c) in
        let (w, e, cw) = least_common_lem m₁ l₁ m₂ l₂ fine within in
        let low = s.least w ((both w).0 cw) in
        let size = s.letters in
        (omega arith, within)

    none_at_all : ((w : List ℕ) → C w → ⊥) → word_bound < n
    none_at_all h = (none_common m₁ l₁ m₂ l₂ fine).1 (λ w. at w (true_or_false (is_common m₁ l₁ m₂ l₂ w)))
      where
        at : (w : List ℕ) → (is_common m₁ l₁ m₂ l₂ w ≡ true) ⊎ (is_common m₁ l₁ m₂ l₂ w ≡ false) → is_common m₁ l₁ m₂ l₂ w ≡ false
        at w (inl c) = absurd (h w ((both w).0 c))
        at w (inr f) = f

    none_of : word_bound < n → (w : List ℕ) → C w → ⊥
    none_of h w c = not_both ((both w).1 c) ((none_common m₁ l₁ m₂ l₂ fine).0 h w)

    word_at : n ≤ word_bound → Refuses r (ShortWord n) ↔ (length word < n)
    word_at h =
        let i = read_off h (word_chosen n (run_bound m₁ n) contract.entries needs_more (leb n (length word)) (leb (run_bound m₁ n) (length first)) (leb (n + 1) (length second))) in
        (λ e. leb-false n (length word) (i.0 e), λ l. i.1 (lt-leb n (length word) l))

    first_at : n ≤ word_bound → Refuses r (ShortRun (run_bound m₁ n)) ↔ ((n ≤ length word) × (length first < run_bound m₁ n))
    first_at h =
        let i = read_off h (first_chosen n (run_bound m₁ n) contract.entries needs_more (leb n (length word)) (leb (run_bound m₁ n) (length first)) (leb (n + 1) (length second))) in (
          λ e. let (a, b) = i.0 e in (leb-true n (length word) a, leb-false (run_bound m₁ n) (length first) b),
          λ l. i.1 (le-leb n (length word) l.0, lt-leb (run_bound m₁ n) (length first) l.1),
        )

    second_at : n ≤ word_bound → Refuses r (ShortRun (n + 1)) ↔ ((n ≤ length word) × (run_bound m₁ n ≤ length first) × (length second < n + 1))
    second_at h =
        let i = read_off h (second_chosen n (run_bound m₁ n) contract.entries needs_more (leb n (length word)) (leb (run_bound m₁ n) (length first)) (leb (n + 1) (length second))) in (
          λ e. let (a, b, c) = i.0 e in (leb-true n (length word) a, leb-true (run_bound m₁ n) (length first) b, leb-false (n + 1) (length second) c),
          λ l. i.1 (le-leb n (length word) l.0, le-leb (run_bound m₁ n) (length first) l.1, lt-leb (n + 1) (length second) l.2),
        )

    found_at : n ≤ word_bound → ((k : Lengths) × (r ≡ Ok (Some k))) ↔ ((n ≤ length word) × (run_bound m₁ n ≤ length first) × (n + 1 ≤ length second))
    found_at h =
        let i = found_chosen n (run_bound m₁ n) contract.entries (leb n (length word)) (leb (run_bound m₁ n) (length first)) (leb (n + 1) (length second)) in (
          λ s. let (a, b, c) = i.0 (s.0, sym (within_answered h) ∙ s.1) in (leb-true n (length word) a, leb-true (run_bound m₁ n) (length first) b, leb-true (n + 1) (length second) c),
          λ l. let (k, e) = i.1 (le-leb n (length word) l.0, le-leb (run_bound m₁ n) (length first) l.1, le-leb (n + 1) (length second) l.2) in (k, within_answered h ∙ e),
        )

    -- as many elements as the answer says stand at the front of a slice
    front_size : {k : ℕ} {before after : List ℕ} → Front k before after → (i : ℕ) → k ≡ i → length (take i after) ≡ i
    front_size {after = after} f i e = length-take-le i after (omega (arith, f.fits, f.size))

    written_word : (k : Lengths) → r ≡ Ok (Some k) → WrittenWord C m₁ l₁ m₂ l₂ word' first' second' k
    written_word k e =
        let some = found_some n (run_bound m₁ n) contract.entries (leb n word_bound) (leb n (length word)) (leb (run_bound m₁ n) (length first)) (leb (n + 1) (length second)) k (sym answered ∙ e) in
        let within = leb-true n word_bound some in
        let (letters, more) = letters_chosen n (run_bound m₁ n) contract.entries (leb n (length word)) (leb (run_bound m₁ n) (length first)) (leb (n + 1) (length second)) k (sym (within_answered within) ∙ e) in
        let w = take k.letters word' in
        let a₁ = contract.first_accepts k e in
        let a₂ = contract.second_accepts k e in
        record {
          letters = front_size contract.of_word k.letters (ap (λ (x : Result (Option Lengths) Refusal). (common_values x).letters) e);
          common = (both w).0 ((common_runs m₁ l₁ m₂ l₂ fine w).1 ((take k.first first', a₁), (take k.second second', a₂)));
          least = λ v c. let l = no_shorter m₁ l₁ m₂ l₂ fine v ((both v).1 c) in omega arith;
          first_bounded =
              subst (λ (n : ℕ). n ≤ run_bound m₁ k.letters) (ap (λ (x : Result (Option Lengths) Refusal). (common_values x).first) e)
              (subst (λ (n : ℕ). (common_values r).first ≤ run_bound m₁ n) (ap (λ (x : Result (Option Lengths) Refusal). (common_values x).letters) e) contract.bounded);
          first_entries = front_size contract.of_first k.first (ap (λ (x : Result (Option Lengths) Refusal). (common_values x).first) e);
          first_accepts = a₁;
          first_run = accepting_written m₁ l₁ w (take k.first first') a₁;
          second_entries = front_size contract.of_second k.second (ap (λ (x : Result (Option Lengths) Refusal). (common_values x).second) e);
          second_accepts = a₂;
          second_run = accepting_written m₂ l₂ w (take k.second second') a₂;
        }

    -- a shortest word, where there is one at all
    some_shortest : (w : List ℕ) → C w → (k : ℕ) × (k ≤ 515970) × Shortest C k
    some_shortest w c =
        let within = (any_common m₁ l₁ m₂ l₂ fine).1 (w, (both w).1 c) in
        let (v, e, cv) = least_common_lem m₁ l₁ m₂ l₂ fine within in
        (least_common m₁ l₁ m₂ l₂, within, record { word = v; letters = e; common = (both v).0 cv; least = λ u d. no_shorter m₁ l₁ m₂ l₂ fine u ((both u).1 d) })

    demand : Demand C m₁ l₁ m₂ l₂ (length word) (length first) (length second) word' first' second' r
    demand =
        let i = none_chosen n (run_bound m₁ n) contract.entries (leb n word_bound) (leb n (length word)) (leb (run_bound m₁ n) (length first)) (leb (n + 1) (length second)) in
        record {
          no_common_word = (
            λ e. none_of (leb-false n word_bound (i.0 (sym answered ∙ e))),
            λ h. answered ∙ i.1 (lt-leb n word_bound (none_at_all h)),
          );
          shortest = some_shortest;
          word_too_short = λ k s. let (e, h) = shortest_is k s in subst (λ (k : ℕ). Refuses r (ShortWord k) ↔ (length word < k)) e (word_at h);
          first_too_short = λ k s. let (e, h) = shortest_is k s in subst (λ (k : ℕ). Refuses r (ShortRun (run_bound m₁ k)) ↔ ((k ≤ length word) × (length first < run_bound m₁ k))) e (first_at h);
          second_too_short = λ k s. let (e, h) = shortest_is k s in subst (λ (k : ℕ). Refuses r (ShortRun (k + 1)) ↔ ((k ≤ length word) × (run_bound m₁ k ≤ length first) × (length second < k + 1))) e (second_at h);
          found = λ k s. let (e, h) = shortest_is k s in subst (λ (k : ℕ). ((l : Lengths) × (r ≡ Ok (Some l))) ↔ ((k ≤ length word) × (run_bound m₁ k ≤ length first) × (k + 1 ≤ length second))) e (found_at h);
          common_word = written_word;
        }

  pub demand_runs : Demand (BothAccept m₁ l₁ m₂ l₂) m₁ l₁ m₂ l₂ (length word) (length first) (length second) word' first' second' r
  demand_runs = demand (BothAccept m₁ l₁ m₂ l₂) (common_runs m₁ l₁ m₂ l₂ fine)

  pub demand_published : Demand (BothPublished m₁ l₁ m₂ l₂) m₁ l₁ m₂ l₂ (length word) (length first) (length second) word' first' second' r
  demand_published = demand (BothPublished m₁ l₁ m₂ l₂) (common_published m₁ l₁ m₂ l₂ fine)
