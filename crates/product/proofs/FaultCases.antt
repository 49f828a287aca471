-- The functions of src/fault.rt and src/marks.rt case by case, over plain variables.
--
-- all_range               == a test of each number of a range, as the tests of a machine say it
-- letter_few              == no letter is counted more often than there are transitions
-- letter_small            == a letter of a table has a place among 256
-- tally_start, count_fits, tally_next == the loop that counts letters: no transition, and one more
-- products_next, products_end == the loop over the letters
-- product_small            == the product of two counts
-- count_is                 == what count_joined adds up
-- pair_mark_is            == the mark of a pair from its four parts
-- marks_end               == the loop over the marks
-- made_good, made_machine, made_list, not_made, tables == what is known of the table of a record and its list, and of two
-- bad_first, .., counted_lem == the ways through first_fault
use Prim.Native.Nat.{ℕ, zero, suc, ◌+◌, ◌*◌, ◌-◌, ◌≤◌, ◌<◌, ◌^◌}
use mathlib.Core.Path.{◌≡◌, refl, sym, ap, ◌∙◌, subst}
use mathlib.Core.Bool.{Bool, true, false, cond, ◌&&◌}
use mathlib.Core.List.{List, [], ◌∷◌, replicate}
use native.Mathlib.Omega.{arith}
use native.Mathlib.Numerals.{add-one}
use Rattle.std.proofs.Common.{add-zero, zero-add, one-mul, zero-mul}
use Rattle.std.specs.Int.{from_bool}
use Rattle.std.specs.Prelude.{Option, None, Some, MatchOption, Result, Ok, Err}
use Rattle.std.specs.Option.{ok_or}
use Rattle.std.specs.List.{list_all, range_with_len}
use native.Mathlib.Decide.{ℕ_discrete}
use native.Mathlib.Nat.{mul-le-mul}
use lib.ListN.{length, get_or, set, length-set, get_or-replicate}
use lib.Seq.{get_or-set_same, get_or-set_other, ext_get_or}
use lib.Dec.{eqb}
use borrow.Author.Tests.{eq-eqb, ne_eqb, le-leb, lt-leb}
use Rattle.basics.specs.Search.{all_below}
use Rattle.basics.specs.Search.Loops.{first, second}
use Rattle.fsbm.specs.Machine.{initial, final, buffering, matching, transition_at, max_states, well_formed}
use Rattle.fsbm.specs.Rules.{Rules, rules}
use Rattle.fsbm.specs.Answers.{refusal, unless}
use Rattle.fsbm.specs.declared.answer.Refusal.{Refusal}
use Rattle.fsbm.specs.declared.answer.Refusal.TheVariants.{BadTable, NotPlain, LettersDiffer, ManyStates, ManyTransitions}
use Rattle.fsbm.specs.declared.machine.Machine.{Machine}
use Rattle.fsbm.specs.declared.table.Table.{Table}
use Rattle.fsbm.specs.declared.machine.Transition.{Transition}
use Rattle.product.specs.Each.{each, sum_over}
use Rattle.product.specs.Each.Laws.{each_single, length_each}
use Rattle.product.specs.Each.Sums.{sum_const, sum_same}
use Rattle.product.specs.Product.{plain, letter_count, joined_count, pair_mark, joined_mark, joined_marks, join_fault}

-- A test of each number of a range

swap_and : (x l b : Bool) → ((x && l) && b) ≡ (l && (x && b))
swap_and true l b = refl
swap_and false true b = refl
swap_and false false b = refl

all_range_from : (p : ℕ → Bool) (a n : ℕ) → (list_all p (range_with_len a n) && all_below a p) ≡ all_below (a + n) p
unfolding all_below
all_range_from p a zero = ap (λ (k : ℕ). all_below k p) (sym (add-zero a))
all_range_from p a (suc n) =
    swap_and (p a) (list_all p (range_with_len (a + 1) n)) (all_below a p)
    ∙ (ap (λ (b : Bool). list_all p (range_with_len (a + 1) n) && b) (one a) ∙ (all_range_from p (a + 1) n ∙ ap (λ (k : ℕ). all_below k p) (sum a n)))
  where
    one : (k : ℕ) → (p k && all_below k p) ≡ all_below (k + 1) p
    one k = ap (λ (j : ℕ). all_below j p) (sym (add-one k))

    sum : (k n : ℕ) → k + 1 + n ≡ k + suc n
    sum k n = omega arith

pub all_range : (p : ℕ → Bool) (n : ℕ) → list_all p (range_with_len 0 n) ≡ all_below n p
unfolding all_below
all_range p n = start ∙ (all_range_from p 0 n ∙ ap (λ (k : ℕ). all_below k p) (zero-add n))
  where
    and_true : (b : Bool) → b ≡ (b && true)
    and_true true = refl
    and_true false = refl

    start : list_all p (range_with_len 0 n) ≡ (list_all p (range_with_len 0 n) && all_below 0 p)
    start = and_true (list_all p (range_with_len 0 n))

-- Letters

cond_few : (b : Bool) → cond b 1 0 ≤ 1
cond_few true = omega arith
cond_few false = omega arith

pub letter_few : (list : List ℕ) (n x : ℕ) → letter_count list n x ≤ n
unfolding letter_count
letter_few list zero x = omega arith
letter_few list (suc n) x = let h = letter_few list n x in let one = cond_few (eqb (transition_at list n).letter x) in omega arith

letter_next : (list : List ℕ) (k x : ℕ) → letter_count list (k + 1) x ≡ letter_count list k x + cond (eqb (transition_at list k).letter x) 1 0
unfolding letter_count
letter_next list k x = ap (λ (n : ℕ). letter_count list n x) (add-one k)

pub tally_start : (list : List ℕ) (x : ℕ) → x < 256 → get_or (replicate 256 0) x 0 ≡ letter_count list 0 x
unfolding letter_count
tally_start list x lt = get_or-replicate 256 x 0 0 lt

-- transition t is number k of a table, and x is its letter
module _ (m : Machine) (list : List ℕ) (good : well_formed m list ≡ true) (k : ℕ) (inside : k < m.transitions) (t : Transition) (at-t : t ≡ transition_at list k) (x : ℕ) (at_x : x ≡ t.letter) where
  the_letter : x ≡ (transition_at list k).letter
  the_letter = at_x ∙ ap (λ (z : Transition). z.letter) at-t

  pub letter_small : x < 256
  letter_small = let r = rules m list good in let e = the_letter in omega (arith, r.letter_below k inside, r.letters_fit)

  module _ (counts : List ℕ) (size : length counts ≡ 256) (so_far : (y : ℕ) → y < 256 → get_or counts y 0 ≡ letter_count list k y) where
    pub count_fits : get_or counts x 0 + 1 < 2 ^ 64
    count_fits = let r = rules m list good in let e = so_far x letter_small in omega (arith, letter_few list k x, r.transitions_fit)

    pub tally_next : (length (set counts x (get_or counts x 0 + 1)) ≡ 256) × ((y : ℕ) → y < 256 → get_or (set counts x (get_or counts x 0 + 1)) y 0 ≡ letter_count list (k + 1) y)
    tally_next = (length-set counts x (get_or counts x 0 + 1) ∙ size, λ y lt. at y lt (ℕ_discrete y x))
      where
        at : (y : ℕ) → y < 256 → Dec (y ≡ x) → get_or (set counts x (get_or counts x 0 + 1)) y 0 ≡ letter_count list (k + 1) y
        at y lt (yes e) =
            let here : ◌≡◌ {A = ℕ} 1 (cond (eqb (transition_at list k).letter y) 1 0) = first 0 (eq-eqb (transition_at list k).letter y (sym the_letter ∙ sym e)) refl in
            let next = letter_next list k y in
            let now = so_far y lt in
            let same = ap (λ (n : ℕ). get_or counts n 0) e in
            ap (λ (n : ℕ). get_or (set counts x (get_or counts x 0 + 1)) n 0) e
            ∙ get_or-set_same counts x (get_or counts x 0 + 1) 0 (omega arith)
            ∙ omega arith
        at y lt (no d) =
            let here : ◌≡◌ {A = ℕ} 0 (cond (eqb (transition_at list k).letter y) 1 0) = second 1 (ne_eqb (transition_at list k).letter y (λ z. d (sym (the_letter ∙ z)))) refl in
            let next = letter_next list k y in
            let now = so_far y lt in
            get_or-set_other counts x y (get_or counts x 0 + 1) 0 d ∙ omega arith

pub product_small : (a b : ℕ) → a ≤ 4000 → b ≤ 4000 → a * b ≤ 16000000
product_small a b ha hb = mul-le-mul ha hb

module _ (f : ℕ → ℕ) (letters total x : ℕ) (so_far : total + sum_over x (suc letters - x) f ≡ sum_over 1 letters f) where
  pub products_next : x ≤ letters → total + f x + sum_over (x + 1) (suc letters - (x + 1)) f ≡ sum_over 1 letters f
  unfolding sum_over
  products_next le =
      let less : suc letters - x ≡ suc (suc letters - (x + 1)) = omega arith in
      let step : sum_over x (suc letters - x) f ≡ f x + sum_over (x + 1) (suc letters - (x + 1)) f =
      ap (λ (k : ℕ). sum_over x k f) less ∙ ap (λ (k : ℕ). f x + sum_over k (suc letters - (x + 1)) f) (sym (add-one x)) in
      omega arith

  pub products_end : letters < x → total ≡ sum_over 1 letters f
  unfolding sum_over
  products_end lt =
      let none : suc letters - x ≡ 0 = omega arith in
      let rest : sum_over x (suc letters - x) f ≡ 0 = ap (λ (k : ℕ). sum_over x k f) none in
      omega arith

pub count_is : (m₁ : Machine) (l₁ : List ℕ) (m₂ : Machine) (l₂ a b : List ℕ) → Rules m₁ l₁ → ((x : ℕ) → x < 256 → get_or a x 0 ≡ letter_count l₁ m₁.transitions x)
    → ((x : ℕ) → x < 256 → get_or b x 0 ≡ letter_count l₂ m₂.transitions x) → (total : ℕ) → total ≡ sum_over 1 m₁.letters (λ x. get_or a x 0 * get_or b x 0)
    → get_or a 0 0 * m₂.states + total ≡ joined_count m₁ l₁ m₂ l₂
unfolding joined_count
count_is m₁ l₁ m₂ l₂ a b t at_a at_b total at-total =
    ap (λ (z : ℕ). z * m₂.states + total) (at_a 0 (omega arith))
    ∙ ap (λ (z : ℕ). letter_count l₁ m₁.transitions 0 * m₂.states + z)
    (at-total
    ∙ sum_same 1 m₁.letters (λ x. get_or a x 0 * get_or b x 0) (λ x. letter_count l₁ m₁.transitions x * letter_count l₂ m₂.transitions x)
    (λ x low high.
    ap (λ (z : ℕ). z * get_or b x 0) (at_a x (omega (arith, t.letters_fit)))
    ∙ ap (λ (z : ℕ). letter_count l₁ m₁.transitions x * z) (at_b x (omega (arith, t.letters_fit)))))

-- The first refusal

-- what Table::new answers
abbrev pub Made : Machine → List ℕ → Option Table → Type 0
Made m list o = MatchOption o (well_formed m list ≡ false) (λ t. (t.machine ≡ m) × (t.list.now ≡ list))

-- the table of a record and its list, where it was made
module _ (m : Machine) (list : List ℕ) (o : Option Table) (made : Made m list o) where
  made_at : {t : Table} → o ≡ Some t → (t.machine ≡ m) × (t.list.now ≡ list)
  made_at e = subst (λ (z : Option Table). Made m list z) e made

  pub made_machine : {t : Table} → o ≡ Some t → t.machine ≡ m
  made_machine e = (made_at e).0

  pub made_list : {t : Table} → o ≡ Some t → t.list.now ≡ list
  made_list e = (made_at e).1

  pub made_good : {t : Table} → o ≡ Some t → well_formed m list ≡ true
  made_good {t} e = (λ i. well_formed (sym (made_at e).0 i) (sym (made_at e).1 i)) ∙ t.obeys

  pub not_made : {f : Refusal} → Err f ≡ ok_or o BadTable → (well_formed m list ≡ false) × (f ≡ BadTable)
  not_made {f} e = at o made e
    where
      at : (o : Option Table) → Made m list o → Err f ≡ ok_or o BadTable → (well_formed m list ≡ false) × (f ≡ BadTable)
      at None h e = (h, cc)
      at (Some t) h e = absurd (cc)

-- what is known of two records and their lists whose tables were made
pub record Tables (m₁ : Machine) (l₁ : List ℕ) (m₂ : Machine) (l₂ : List ℕ) (t t' : Table) : Type 0 where
  pub good₁ : well_formed m₁ l₁ ≡ true
  pub good₂ : well_formed m₂ l₂ ≡ true
  pub plain : plain t'.machine t'.list.now ≡ plain m₂ l₂
  pub count : joined_count t.machine t.list.now t'.machine t'.list.now ≡ joined_count m₁ l₁ m₂ l₂

module _ (m₁ : Machine) (l₁ : List ℕ) (m₂ : Machine) (l₂ : List ℕ) where
  pub tables : {o o' : Option Table} {t t' : Table} → Made m₁ l₁ o → Made m₂ l₂ o' → o ≡ Some t → o' ≡ Some t' → Tables m₁ l₁ m₂ l₂ t t'
  tables {o} {o'} {t} {t'} a b e e' =
      record {
        good₁ = made_good m₁ l₁ o a e;
        good₂ = made_good m₂ l₂ o' b e';
        plain = λ i. plain (made_machine m₂ l₂ o' b e' i) (made_list m₂ l₂ o' b e' i);
        count = λ i. joined_count (made_machine m₁ l₁ o a e i) (made_list m₁ l₁ o a e i) (made_machine m₂ l₂ o' b e' i) (made_list m₂ l₂ o' b e' i);
      }

module _ (m₁ : Machine) (l₁ : List ℕ) (m₂ : Machine) (l₂ : List ℕ) where
  abbrev pub FirstFault : Result ℕ Refusal → Type 0
  FirstFault r = r ≡ unless (join_fault m₁ l₁ m₂ l₂) (Ok (joined_count m₁ l₁ m₂ l₂))

  by : {r : Result ℕ Refusal} (n : ℕ) → n ≡ join_fault m₁ l₁ m₂ l₂ → r ≡ unless n (Ok (joined_count m₁ l₁ m₂ l₂)) → FirstFault r
  by n e h = h ∙ ap (λ (k : ℕ). unless k (Ok (joined_count m₁ l₁ m₂ l₂))) e

  pub bad_first : well_formed m₁ l₁ ≡ false → FirstFault (Err BadTable)
  unfolding join_fault refusal
  bad_first e = by 16 (second _ e refl) refl

  pub bad_second : well_formed m₁ l₁ ≡ true → well_formed m₂ l₂ ≡ false → FirstFault (Err BadTable)
  unfolding join_fault refusal
  bad_second good e = by 16 (first _ good (second _ e refl)) refl

  module _ {t t' : Table} (k : Tables m₁ l₁ m₂ l₂ t t') where
    pub states_fit : m₁.states * m₂.states ≤ 4096
    states_fit = mul-le-mul (rules m₁ l₁ k.good₁).states_fit (rules m₂ l₂ k.good₂).states_fit

    module _ {b : Bool} (test : b ≡ plain t'.machine t'.list.now) where
      pub not_plain : b ≡ false → FirstFault (Err NotPlain)
      unfolding join_fault refusal
      not_plain e = by 10 (first _ k.good₁ (first _ k.good₂ (second _ (sym k.plain ∙ (sym test ∙ e)) refl))) refl

      module _ (yes : b ≡ true) where
        is-plain : plain m₂ l₂ ≡ true
        is-plain = sym k.plain ∙ (sym test ∙ yes)

        pub letters_differ : (m₁.letters ≡ m₂.letters → ⊥) → FirstFault (Err LettersDiffer)
        unfolding join_fault refusal
        letters_differ d = by 11 (first _ k.good₁ (first _ k.good₂ (first _ is-plain (second _ (ne_eqb _ _ d) refl)))) refl

        module _ (same : m₁.letters ≡ m₂.letters) where
          pub many_states : 64 < m₁.states * m₂.states → FirstFault (Err ManyStates)
          unfolding join_fault refusal
          many_states h = by 12 (first _ k.good₁ (first _ k.good₂ (first _ is-plain (first _ (eq-eqb _ _ same) (second _ (lt-leb _ _ h) refl))))) refl

          module _ (few : m₁.states * m₂.states ≤ 64) {count : ℕ} (counts : count ≡ joined_count t.machine t.list.now t'.machine t'.list.now) where
            at_count : count ≡ joined_count m₁ l₁ m₂ l₂
            at_count = counts ∙ k.count

            pub many_transitions : 4000 < count → FirstFault (Err ManyTransitions)
            unfolding join_fault refusal
            many_transitions h =
                by 13 (first _ k.good₁ (first _ k.good₂ (first _ is-plain (first _ (eq-eqb _ _ same) (first _ (le-leb _ _ few) (second _ (lt-leb _ _ (subst (λ (n : ℕ). 4000 < n) at_count h)) refl))))))
                refl

            pub counted_lem : count ≤ 4000 → FirstFault (Ok count)
            unfolding join_fault refusal
            counted_lem h =
                by 0 (first _ k.good₁ (first _ k.good₂ (first _ is-plain (first _ (eq-eqb _ _ same) (first _ (le-leb _ _ few) (first _ (le-leb _ _ (subst (λ (n : ℕ). n ≤ 4000) at_count h)) refl))))))
                (ap (λ (n : ℕ). Ok n) at_count)

-- Marks

worth_lem : (b : Bool) (v : ℕ) → from_bool b * v ≡ cond b v 0
worth_lem true v = one-mul v
worth_lem false v = zero-mul v

bit_lem : (b : Bool) → from_bool b ≡ cond b 1 0
bit_lem true = refl
bit_lem false = refl

pub pair_mark_is : (marks₁ : List ℕ) (p : ℕ) (marks₂ : List ℕ) (r : ℕ) {a b c d : Bool} {n m k l : ℕ} → a ≡ (initial marks₁ p && initial marks₂ r) → b ≡ (final marks₁ p && final marks₂ r)
    → c ≡ buffering marks₁ p → d ≡ matching marks₁ p → n ≡ from_bool a → m ≡ from_bool b → k ≡ from_bool c → l ≡ from_bool d
    → n + m * 2 + k * 4 + l * 8 ≡ pair_mark marks₁ p marks₂ r
unfolding pair_mark
pair_mark_is marks₁ p marks₂ r {a} {b} {c} {d} ea eb ec ed en em ek el =
    (λ i. en i + em i * 2 + ek i * 4 + el i * 8)
    ∙ ((λ i. bit_lem a i + worth_lem b 2 i + worth_lem c 4 i + worth_lem d 8 i)
    ∙ (λ i. cond (ea i) 1 0 + cond (eb i) 2 0 + cond (ec i) 4 0 + cond (ed i) 8 0))

pub marks_end : (m₁ m₂ : Machine) (marks : List ℕ) (q : ℕ) → 64 ≤ q → length marks ≡ 64 → ((x : ℕ) → x < q → get_or marks x 0 ≡ joined_mark m₁ m₂ x) → marks ≡ joined_marks m₁ m₂
unfolding joined_marks
marks_end m₁ m₂ marks q done size so_far =
    let long : length (each 0 max_states (λ q. joined_mark m₁ m₂ q ∷ [])) ≡ 64 = length_each 0 max_states (λ q. joined_mark m₁ m₂ q ∷ []) ∙ sum_const 0 max_states 1 in
    ext_get_or 0 marks (each 0 max_states (λ q. joined_mark m₁ m₂ q ∷ [])) (size ∙ sym long)
    (λ i lt. let start : 0 + i ≡ i = omega arith in
    so_far i (omega arith) ∙ ap (joined_mark m₁ m₂) (sym start) ∙ sym (each_single 0 max_states (joined_mark m₁ m₂) i 0 (omega arith)))
