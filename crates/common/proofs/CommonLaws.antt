-- The laws of specs/Common.antt: least_common speaks of words of any length.
--
-- common_runs, common_published == a word is common exactly if each machine has an accepting run of it; if it is in both published languages
-- answer_fault, answer_none, answer_word, answer_first, answer_second, answer_found == the answer in each case
-- values_agree         == its number and values
-- common_parts         == exactly if each accepts it
-- common_joined        == exactly if the product accepts it, with anything behind its list
-- common_letters       == the letters of a common word are letters of the first machine
-- least_common_lem         == where it is within the bound some common word has as many letters
-- no_shorter           == no common word has fewer
-- any_common           == it is within the bound exactly if there is a common word
-- none_common          == it is past the bound exactly if there is none
use Rattle.std.specs.Prelude.{ℕ, zero, suc, ◌+◌, ◌≤◌, ◌<◌, ◌≡◌, ◌↔◌, ◌⊎◌, false, ◌&&◌}
use Rattle.std.proofs.Math.Path.{refl}
use Rattle.std.proofs.Common.{sym, ap, ◌∙◌, inl, inr}
use Rattle.std.proofs.Math.Bool.{Bool, true, cond}
use mathlib.Core.List.{List, [], ◌++◌}
use native.Mathlib.Omega.{arith}
use Rattle.std.proofs.Math.Decide.{dec_le, ℕ_discrete}
use Rattle.std.proofs.Math.ListN.{length}
use Rattle.std.proofs.Math.Dec.{eqb, leb}
use borrow.Author.Tests.{eqb-true, eq-eqb, ne_eqb, le-leb, lt-leb}
use Rattle.basics.specs.Search.{AllBelow, none, more}
use Rattle.basics.specs.Search.Laws.{and_true, and_both_true, true_or_false, not_both, exists_list_true}
use Rattle.basics.specs.Search.Loops.{first, second}
use Rattle.graphs.specs.Least.Laws.{least_bound, least_has, least_first}
use Rattle.fsbm.specs.Machine.{max_letters, well_formed}
use Rattle.fsbm.specs.Moves.{accepting}
use Rattle.fsbm.specs.Accepted.{run_bound, accepted}
use Rattle.fsbm.specs.Answers.{refusal, needed_of}
use Rattle.fsbm.specs.Published.{FSBM, fsbm_of, symbol, InLanguage}
use Rattle.fsbm.specs.Rules.{rules}
use Rattle.fsbm.specs.declared.machine.Machine.{Machine}
use Rattle.language.specs.Agreement.{run_path}
use Rattle.language.specs.Bound.{accepted_iff_run, accepted_iff_published}
use Rattle.product.specs.Product.{joined_transitions, joined_machine, join_fault}
use Rattle.product.specs.Answers.{join_numbered}
use Rattle.product.specs.Tables.{Joinable, joinable}
use Rattle.product.specs.WellFormed.{joined_well_formed}
use Rattle.product.specs.Common.{joined_accepted}
use Rattle.pieces.specs.Pieces.{Stores, stored, store, Leads, ended, read, copy}
use Rattle.pieces.specs.Pieces.Laws.{path_leads}
use Rattle.pieces.specs.Bound.{word_bound}
use Rattle.pieces.proofs.BoundLaws.{short_word}
use Rattle.std.specs.Prelude.{None, Some, Ok, Err}
use Rattle.fsbm.specs.declared.answer.Refusal.TheVariants.{ShortRun, ShortWord}
use Rattle.common.specs.Common.{is_common, has_common, least_common, common_answer, common_values, answer_values, nothing_found}

-- The answer in each case

module _ (m₁ : Machine) (l₁ : List ℕ) (m₂ : Machine) (l₂ : List ℕ) (word first_run second_run entries : ℕ) where
  abbrev n : ℕ
  n = least_common m₁ l₁ m₂ l₂

  abbrev fault : ℕ
  fault = join_fault m₁ l₁ m₂ l₂

  pub answer_fault : (fault ≡ 0 → ⊥) → Err (refusal fault) ≡ common_answer m₁ l₁ m₂ l₂ word first_run second_run entries
  unfolding common_answer
  answer_fault h = second _ (ne_eqb fault 0 h) refl

  pub answer_none : fault ≡ 0 → word_bound < n → (Ok None) ≡ common_answer m₁ l₁ m₂ l₂ word first_run second_run entries
  unfolding common_answer
  answer_none h past = first _ (eq-eqb fault 0 h) (second _ (lt-leb n word_bound past) refl)

  pub answer_word : fault ≡ 0 → n ≤ word_bound → word < n → Err (ShortWord n) ≡ common_answer m₁ l₁ m₂ l₂ word first_run second_run entries
  unfolding common_answer
  answer_word h within short = first _ (eq-eqb fault 0 h) (first _ (le-leb n word_bound within) (second _ (lt-leb n word short) refl))

  pub answer_first : fault ≡ 0 → n ≤ word_bound → n ≤ word → first_run < run_bound m₁ n → Err (ShortRun (run_bound m₁ n)) ≡ common_answer m₁ l₁ m₂ l₂ word first_run second_run entries
  unfolding common_answer
  answer_first h within fits short = first _ (eq-eqb fault 0 h) (first _ (le-leb n word_bound within) (first _ (le-leb n word fits) (second _ (lt-leb (run_bound m₁ n) first_run short) refl)))

  pub answer_second : fault ≡ 0 → n ≤ word_bound → n ≤ word → run_bound m₁ n ≤ first_run → second_run < n + 1
      → Err (ShortRun (n + 1)) ≡ common_answer m₁ l₁ m₂ l₂ word first_run second_run entries
  unfolding common_answer
  answer_second h within fits fits-first short =
      first _ (eq-eqb fault 0 h)
      (first _ (le-leb n word_bound within) (first _ (le-leb n word fits) (first _ (le-leb (run_bound m₁ n) first_run fits-first) (second _ (lt-leb (n + 1) second_run short) refl))))

  pub answer_found : fault ≡ 0 → n ≤ word_bound → n ≤ word → run_bound m₁ n ≤ first_run → n + 1 ≤ second_run
      → Ok (Some (record { letters = n; first = entries; second = n + 1 })) ≡ common_answer m₁ l₁ m₂ l₂ word first_run second_run entries
  unfolding common_answer
  answer_found h within fits fits-first fits-second =
      first _ (eq-eqb fault 0 h)
      (first _ (le-leb n word_bound within) (first _ (le-leb n word fits) (first _ (le-leb (run_bound m₁ n) first_run fits-first) (first _ (le-leb (n + 1) second_run fits-second) refl))))

  -- the numbers of the answer are those that the rules give
  pub values_agree : common_values (common_answer m₁ l₁ m₂ l₂ word first_run second_run entries) ≡ answer_values m₁ l₁ m₂ l₂ word first_run second_run entries
  unfolding common_answer answer_values
  values_agree = at (ℕ_discrete fault 0)
    where
      searched : (within fits fits-first fits-second : Bool)
          → common_values (cond within (cond fits (cond fits-first (cond fits-second (Ok (Some (record { letters = n; first = entries; second = n + 1 }))) (Err (ShortRun (n + 1)))) (Err (ShortRun (run_bound m₁ n)))) (Err (ShortWord n))) (Ok None))
          ≡ cond within
          (cond fits (cond fits-first (cond fits-second (record { refusal = 0; needed = 0; found = 1; letters = n; first = entries; second = n + 1 }) (nothing_found 17 (n + 1))) (nothing_found 17 (run_bound m₁ n))) (nothing_found 18 n))
          (nothing_found 0 0)
      searched false b c d = refl
      searched true false c d = refl
      searched true true false d = refl
      searched true true true false = refl
      searched true true true true = refl

      at : Dec (fault ≡ 0) → common_values (common_answer m₁ l₁ m₂ l₂ word first_run second_run entries) ≡ answer_values m₁ l₁ m₂ l₂ word first_run second_run entries
      at (yes e) =
          ap common_values (sym (first _ (eq-eqb fault 0 e) refl))
          ∙ (searched (leb n word_bound) (leb n word) (leb (run_bound m₁ n) first_run) (leb (n + 1) second_run) ∙ first _ (eq-eqb fault 0 e) refl)
      at (no h) =
          let f = join_numbered m₁ l₁ m₂ l₂ in
          ap common_values (sym (second _ (ne_eqb fault 0 h) refl)) ∙ (ap (λ (x : ℕ). nothing_found x (needed_of (refusal fault))) (f.number h)
          ∙ (ap (λ (x : ℕ). nothing_found fault x) (f.needed h) ∙ second _ (ne_eqb fault 0 h) refl))

-- The letters of an accepted word

below_append : {n : ℕ} {u v : List ℕ} → AllBelow n u → AllBelow n v → AllBelow n (u ++ v)
below_append none b = b
below_append (more h a) b = more h (below_append a b)

below_more : {n k : ℕ} {w : List ℕ} → n ≤ k → AllBelow n w → AllBelow k w
below_more l none = none
below_more l (more {x = x} h b) = more {x = x} (omega arith) (below_more l b)

below_symbol : {n : ℕ} (a : ℕ) → a < n → AllBelow n (symbol a)
below_symbol zero h = none
below_symbol (suc a) h = more h none

module _ (M : FSBM) (n : ℕ) (letters : (p a q : ℕ) → M.δ p a q → a < n) where
  stores_below : {s h k : ℕ} {x : List ℕ} → Stores M s x h k → AllBelow n x
  stores_below stored = none
  stores_below (store {s = s} {a = a} {t = t} δ apart outside r) = below_append (below_symbol a (letters s a t δ)) (stores_below r)

  leads_below : {q f k : ℕ} {w : List ℕ} → Leads M q w f k → AllBelow n w
  leads_below ended = none
  leads_below (read {p = p} {a = a} {q = q} δ apart outside r) = below_append (below_symbol a (letters p a q δ)) (leads_below r)
  leads_below (copy g s h m z r) = below_append (stores_below s) (below_append (stores_below s) (leads_below r))

accepted_letters : (m : Machine) (list : List ℕ) → well_formed m list ≡ true → (w : List ℕ) → accepted m list w ≡ true → AllBelow (suc m.letters) w
accepted_letters m list good w t =
    let l = (accepted_iff_published m list w good).0 t in
    let tab = rules m list good in
    leads_below (fsbm_of m list) (suc m.letters)
    (λ p a q d. omega (arith, tab.letter_below d.number d.listed, d.letter))
    (path_leads (run_path m list l.run))

module _ (m₁ : Machine) (l₁ : List ℕ) (m₂ : Machine) (l₂ : List ℕ) (fine : join_fault m₁ l₁ m₂ l₂ ≡ 0) where
  j : Joinable m₁ l₁ m₂ l₂
  j = joinable m₁ l₁ m₂ l₂ fine

  pub common_parts : (w : List ℕ) → (is_common m₁ l₁ m₂ l₂ w ≡ true) ↔ ((accepted m₁ l₁ w ≡ true) × (accepted m₂ l₂ w ≡ true))
  unfolding is_common
  common_parts w = (and_true (accepted m₁ l₁ w) (accepted m₂ l₂ w), λ t. and_both_true (accepted m₁ l₁ w) (accepted m₂ l₂ w) t.0 t.1)

  pub common_runs : (w : List ℕ) → (is_common m₁ l₁ m₂ l₂ w ≡ true) ↔ (((run : List ℕ) × (accepting m₁ l₁ w run ≡ true)) × ((run : List ℕ) × (accepting m₂ l₂ w run ≡ true)))
  common_runs w = (
    λ t. let (t₁, t₂) = (common_parts w).0 t in ((accepted_iff_run m₁ l₁ w j.good₁).0 t₁, (accepted_iff_run m₂ l₂ w j.good₂).0 t₂),
    λ s. (common_parts w).1 ((accepted_iff_run m₁ l₁ w j.good₁).1 s.0, (accepted_iff_run m₂ l₂ w j.good₂).1 s.1),
  )

  pub common_published : (w : List ℕ) → (is_common m₁ l₁ m₂ l₂ w ≡ true) ↔ (InLanguage (fsbm_of m₁ l₁) w × InLanguage (fsbm_of m₂ l₂) w)
  common_published w = (
    λ t. let (t₁, t₂) = (common_parts w).0 t in ((accepted_iff_published m₁ l₁ w j.good₁).0 t₁, (accepted_iff_published m₂ l₂ w j.good₂).0 t₂),
    λ s. (common_parts w).1 ((accepted_iff_published m₁ l₁ w j.good₁).1 s.0, (accepted_iff_published m₂ l₂ w j.good₂).1 s.1),
  )

  pub common_joined : (rest w : List ℕ) → accepted (joined_machine m₁ l₁ m₂ l₂) (joined_transitions m₁ l₁ m₂ l₂ ++ rest) w ≡ is_common m₁ l₁ m₂ l₂ w
  unfolding is_common
  common_joined rest w = joined_accepted m₁ l₁ m₂ l₂ fine rest w

  pub common_letters : (w : List ℕ) → is_common m₁ l₁ m₂ l₂ w ≡ true → AllBelow (suc m₁.letters) w
  common_letters w t = accepted_letters m₁ l₁ j.good₁ w ((common_parts w).0 t).0

  -- The least number of letters

  has_common_lem : (n : ℕ) → (has_common m₁ l₁ m₂ l₂ n ≡ true) ↔ ((w : List ℕ) × (length w ≡ n) × (is_common m₁ l₁ m₂ l₂ w ≡ true))
  unfolding has_common
  has_common_lem n = (to, from)
    where
      to : has_common m₁ l₁ m₂ l₂ n ≡ true → (w : List ℕ) × (length w ≡ n) × (is_common m₁ l₁ m₂ l₂ w ≡ true)
      to t =
          let (w, short, below, is) = (exists_list_true (suc max_letters) n (λ w. eqb (length w) n && is_common m₁ l₁ m₂ l₂ w)).0 t in
          let (e, c) = and_true (eqb (length w) n) (is_common m₁ l₁ m₂ l₂ w) is in
          (w, eqb-true (length w) n e, c)

      from : (w : List ℕ) × (length w ≡ n) × (is_common m₁ l₁ m₂ l₂ w ≡ true) → has_common m₁ l₁ m₂ l₂ n ≡ true
      from (w, e, c) =
          (exists_list_true (suc max_letters) n (λ w. eqb (length w) n && is_common m₁ l₁ m₂ l₂ w)).1
          (w, omega arith, below_more (let few = j.first.letters_fit in omega arith) (common_letters w c), and_both_true (eqb (length w) n) (is_common m₁ l₁ m₂ l₂ w) (eq-eqb (length w) n e) c)

  pub least_common_lem : least_common m₁ l₁ m₂ l₂ ≤ word_bound → (w : List ℕ) × (length w ≡ least_common m₁ l₁ m₂ l₂) × (is_common m₁ l₁ m₂ l₂ w ≡ true)
  unfolding least_common
  least_common_lem h = (has_common_lem (least_common m₁ l₁ m₂ l₂)).0 (least_has (suc word_bound) (has_common m₁ l₁ m₂ l₂) (omega arith))

  pub no_shorter : (w : List ℕ) → is_common m₁ l₁ m₂ l₂ w ≡ true → least_common m₁ l₁ m₂ l₂ ≤ length w
  unfolding least_common
  no_shorter w c = at (dec_le (length w) word_bound)
    where
      at : Dec (length w ≤ word_bound) → least_common m₁ l₁ m₂ l₂ ≤ length w
      at (yes h) = least_first (suc word_bound) (has_common m₁ l₁ m₂ l₂) (length w) ((has_common_lem (length w)).1 (w, refl, c)) (omega arith)
      at (no h) = let b = least_bound (suc word_bound) (has_common m₁ l₁ m₂ l₂) in omega arith

  -- a common word within the bound, where there is one at all
  short_common : (w : List ℕ) → is_common m₁ l₁ m₂ l₂ w ≡ true → (w' : List ℕ) × (length w' ≤ word_bound) × (is_common m₁ l₁ m₂ l₂ w' ≡ true)
  short_common w c =
      let J = joined_machine m₁ l₁ m₂ l₂ in
      let L = joined_transitions m₁ l₁ m₂ l₂ ++ [] in
      let good = joined_well_formed m₁ l₁ m₂ l₂ fine [] in
      let (w', short, l) = short_word J L good w ((accepted_iff_published J L w good).0 (common_joined [] w ∙ c)) in
      (w', short, sym (common_joined [] w') ∙ (accepted_iff_published J L w' good).1 l)

  pub any_common : (least_common m₁ l₁ m₂ l₂ ≤ word_bound) ↔ ((w : List ℕ) × (is_common m₁ l₁ m₂ l₂ w ≡ true))
  any_common = (
    λ h. let (w, e, c) = least_common_lem h in (w, c),
    λ s. let (w, short, c) = short_common s.0 s.1 in let l = no_shorter w c in omega arith,
  )

  pub none_common : (word_bound < least_common m₁ l₁ m₂ l₂) ↔ ((w : List ℕ) → is_common m₁ l₁ m₂ l₂ w ≡ false)
  none_common = (λ h w. at h w (true_or_false (is_common m₁ l₁ m₂ l₂ w)), λ h. past h (dec_le (least_common m₁ l₁ m₂ l₂) word_bound))
    where
      at : word_bound < least_common m₁ l₁ m₂ l₂ → (w : List ℕ) → (is_common m₁ l₁ m₂ l₂ w ≡ true) ⊎ (is_common m₁ l₁ m₂ l₂ w ≡ false) → is_common m₁ l₁ m₂ l₂ w ≡ false
      at h w (inl c) = let l = any_common.1 (w, c) in absurd (omega arith)
      at h w (inr f) = f

      past : ((w : List ℕ) → is_common m₁ l₁ m₂ l₂ w ≡ false) → Dec (least_common m₁ l₁ m₂ l₂ ≤ word_bound) → word_bound < least_common m₁ l₁ m₂ l₂
      past h (yes l) = let (w, c) = any_common.0 l in absurd (not_both c (h w))
      past h (no f) = omega arith
