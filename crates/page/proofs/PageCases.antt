-- The functions of src/lib.rt case by case, over plain variables: what each turn of the loop and each way through a function gives.
--
-- taken, turned          == where an allowed entry leads: by a transition, by a change of mode
-- entry_line_lem, last_line  == columns put one by one, and byte 10, are the line
-- Following c t i        == what the loop has done before entry i: the configuration, the tally, the rest of the run
-- follow_start, follow_next, follow_end == the loop begins, passes an entry, ends
-- follow_placed, follow_ranges == a move is allowed from the configuration on the way, and its numbers are small
-- follow_on              == the next one has read no less
-- follow_here            == which configuration it is
-- Laid page₀ page i      == page is page₀ with the lines of the entries before i at its front
-- laid_first, laid_next, laid_end == the first line, one more, all and the last line
-- Extends, extends_next  == the same from the page with the first line on, as the loop finds it
-- fault_word             == fault, where the table obeys the rules and the run is not too long
-- tested                 == what no refusal of these says
-- early, not_accepting, no_room, laid == the ways through write_page: its answer and the slice afterwards
-- page_says              == the number and values of its answer
use Prim.Native.Nat.{ℕ, suc, ◌+◌, ◌*◌, ◌-◌, ◌≤◌, ◌<◌}
use mathlib.Core.Path.{◌≡◌, refl, sym, ap, ◌∙◌, subst}
use mathlib.Core.Bool.{Bool, true, false, cond, ◌&&◌}
use mathlib.Core.List.{List, [], ◌∷◌, ◌++◌}
use native.Mathlib.Omega.{arith}
use native.Mathlib.Numerals.{add-one}
use lib.ListN.{length, get_or, drop, set, drop_of_length-le}
use lib.Seq.{drop-cons}
use lib.Dec.{leb}
use borrow.Author.Tests.{le-leb}
use Rattle.basics.specs.Search.Loops.{first}
use Rattle.basics.specs.Lists.{put}
use Rattle.basics.specs.Lists.Laws.{put_more, put_zero}
use Rattle.basics.specs.Each.{each_below}
use Rattle.basics.specs.Each.Laws.{each_none, each_more, each_length}
use Rattle.columns.specs.Column.{column_of}
use Rattle.columns.specs.Line.{line_of}
use Rattle.columns.specs.Line.Laws.{columns_of, columns_none, columns_more, columns_end, line_length}
use Rattle.fsbm.specs.Machine.{well_formed, transition_at}
use Rattle.fsbm.specs.Rules.{rules, Placed}
use Rattle.fsbm.specs.Moves.{after, changes, move, start_at, accepting}
use Rattle.fsbm.specs.Moves.Laws.{move_elim}
use Rattle.fsbm.specs.Reaches.{same_mode}
use Rattle.fsbm.specs.Answers.{number_of, needed_of, by_refusal, passed, good_letters, word_fault, count_values}
use Rattle.fsbm.specs.Answers.Laws.{passed_ok, passed_err, run_numbers}
use Rattle.fsbm.specs.declared.machine.Machine.{Machine}
use Rattle.fsbm.specs.declared.machine.Transition.{Transition}
use Rattle.fsbm.specs.declared.config.Config.{Config}
use Rattle.fsbm.specs.declared.config.Move.{Move}
use Rattle.fsbm.specs.declared.config.Mode.{Mode}
use Rattle.fsbm.specs.declared.config.Mode.TheVariants.{Normal, Buffering, Emptying}
use Rattle.fsbm.specs.declared.answer.Refusal.{Refusal}
use Rattle.copies.specs.Letters.{letters_at, letters_from, letters_in, plain_letters, stored_letters}
use Rattle.copies.specs.Letters.Laws.{move_forward}
use Rattle.fsbm.specs.declared.answer.Refusal.TheVariants.{NotAccepting, ShortSheet}
use Rattle.std.specs.Prelude.{Option, None, Some, Result, Ok, Err}
use Rattle.page.specs.declared.Tally.{Tally}
use Rattle.page.specs.Page.{longest_word, longest_run, page_column, after_entry, entry_numbers, entry_line, last_numbers, page_of, page_length, page_fault, page_refusal, page_answer, page_after, page_values}
use Rattle.page.specs.Page.Laws.{entry_wide, page_long, reached, entry_allowed, some_entry, fault_none, Leaves}
use Rattle.page.specs.Page.Laws as laws

-- The tally

module _ (from next : Config) where
  -- no letter is counted twice
  letters_once : letters_at Normal from next + letters_at Buffering from next ≤ next.position - from.position
  letters_once = at from.mode
    where
      at : (t : Mode) → cond (same_mode t Normal) (next.position - from.position) 0 + cond (same_mode t Buffering) (next.position - from.position) 0 ≤ next.position - from.position
      at Normal = omega arith
      at Buffering = omega arith
      at Emptying = omega arith

-- One entry

module _ (m : Machine) (list w : List ℕ) (c : Config) (e : ℕ) (allowed : (move m list w c e).allowed ≡ true) where
  pub taken : e < m.transitions → (t : Transition) → t ≡ transition_at list e → (next : Config) → next ≡ after c t c.mode → next ≡ (move m list w c e).config
  taken lt t at-t next is =
      move_elim m list w c e (λ (d : Config). next ≡ d)
      (λ p lt₂ took. is ∙ ap (λ (z : Transition). after c z c.mode) at-t)
      (λ p ge h. absurd (omega arith))
      allowed

  pub turned : m.transitions ≤ e → (v : Move) → v ≡ changes m.marks c e c.mode → v.config ≡ (move m list w c e).config
  unfolding changes
  turned ge v is =
      move_elim m list w c e (λ (d : Config). v.config ≡ d)
      (λ p lt took. absurd (omega arith))
      (λ p ge₂ h. ap (λ (z : Move). z.config) is ∙ sym (first _ h refl))
      allowed

-- The lines

module _ (l : List ℕ) (at a b d : ℕ) (l1 l2 l3 : List ℕ) (first-put : l1 ≡ put at l (column_of 6 a)) (second_put : l2 ≡ put (at + 6) l1 (column_of 6 b))
    (third-put : l3 ≡ put (at + 12) l2 (column_of 6 d)) where
  three_columns : at + 18 ≤ length l → l3 ≡ put at l (columns_of 6 (a ∷ b ∷ d ∷ []))
  three_columns h =
      let one = columns_more 6 l at [] l at (columns_none 6 l at) (omega arith) a l1 first-put (omega arith) in
      let two = columns_more 6 l at (a ∷ []) l1 (at + 6) one (omega arith) b l2 second_put (omega arith) in
      columns_more 6 l at (a ∷ b ∷ []) l2 (at + 12) two (omega arith) d l3 third-put (omega arith)

  pub last_line : at + 19 ≤ length l → set l3 (at + 18) 10 ≡ put at l (line_of 6 (a ∷ b ∷ d ∷ []))
  last_line h = columns_end 6 l at (a ∷ b ∷ d ∷ []) l3 (at + 18) (three_columns (omega arith)) (omega arith) (omega arith)

  pub entry_line_lem : (e f : ℕ) (l4 l5 : List ℕ) → l4 ≡ put (at + 18) l3 (column_of 6 e) → l5 ≡ put (at + 24) l4 (column_of 6 f) → at + 31 ≤ length l
      → set l5 (at + 30) 10 ≡ put at l (line_of 6 (a ∷ b ∷ d ∷ e ∷ f ∷ []))
  entry_line_lem e f l4 l5 fourth-put fifth-put h =
      let four = columns_more 6 l at (a ∷ b ∷ d ∷ []) l3 (at + 18) (three_columns (omega arith)) (omega arith) e l4 fourth-put (omega arith) in
      let five = columns_more 6 l at (a ∷ b ∷ d ∷ e ∷ []) l4 (at + 24) four (omega arith) f l5 fifth-put (omega arith) in
      columns_end 6 l at (a ∷ b ∷ d ∷ e ∷ f ∷ []) l5 (at + 30) five (omega arith) (omega arith)

-- The loop through the run

module _ (m : Machine) (list w run : List ℕ) where
  pub record Following (c : Config) (t : Tally) (i : ℕ) : Type 0 where
    pub some : 1 ≤ i
    pub within : i ≤ length run
    pub here : c ≡ after_entry m list w run (i - 1)
    pub plain : t.plain + letters_from Normal m list w c (drop i run) ≡ plain_letters m list w run
    pub stored : t.stored + letters_from Buffering m list w c (drop i run) ≡ stored_letters m list w run
    pub few : t.plain + t.stored ≤ c.position

  module _ (good : well_formed m list ≡ true) (accepts : accepting m list w run ≡ true) where
    pub follow_start : (c : Config) → c ≡ start_at (get_or run 0 0) → (t : Tally) → t.plain ≡ 0 → t.stored ≡ 0 → Following c t 1
    unfolding after_entry
    follow_start c is t p s =
        let all_plain = letters Normal run refl in
        let all_stored = letters Buffering run refl in
        record { some = omega arith; within = some_entry m list w run good accepts; here = is; plain = omega arith; stored = omega arith; few = omega arith }
      where
        letters : (r : Mode) (all : List ℕ) → run ≡ all → letters_from r m list w c (drop 1 run) ≡ letters_in r m list w run
        letters r [] e = let none : length run ≡ 0 = ap length e in let some = some_entry m list w run good accepts in absurd (omega arith)
        letters r (q ∷ es) e =
            ap (λ (d : Config). letters_from r m list w d (drop 1 run)) is
            ∙ (ap (λ (l : List ℕ). letters_from r m list w (start_at (get_or l 0 0)) (drop 1 l)) e ∙ (unfold letters_in in ap (letters_in r m list w) (sym e)))

    module _ {c : Config} {t : Tally} {i : ℕ} (f : Following c t i) where
      pub follow_placed : Placed m w c c.mode
      follow_placed = subst (λ (d : Config). Placed m w d d.mode) (sym f.here) (reached m list w run good accepts (i - 1) (omega (arith, f.some, f.within))).placed

      pub follow_ranges : length w ≤ longest_word → (c.state < 100) × (c.position ≤ longest_word) × (c.start ≤ c.end) × (c.end ≤ c.position)
      follow_ranges short =
          let few_states = (rules m list good).states_fit in
          (omega (arith, follow_placed.state_below), omega (arith, follow_placed.in_word), follow_placed.forward, follow_placed.behind)

      module _ (lt : i < length run) where
        before : suc (i - 1) ≡ i
        before = omega (arith, f.some)

        entry_goes : (move m list w c (get_or run i 0)).allowed ≡ true
        entry_goes =
            subst (λ (d : Config). (move m list w d (get_or run i 0)).allowed ≡ true) (sym f.here)
            (subst (λ (j : ℕ). (move m list w (after_entry m list w run (i - 1)) (get_or run j 0)).allowed ≡ true) before
            (entry_allowed m list w run good accepts (i - 1) (omega (arith, before))))

        module _ (next : Config) (goes : (move m list w c (get_or run i 0)).allowed ≡ true → next ≡ (move m list w c (get_or run i 0)).config) where
          is : next ≡ (move m list w c (get_or run i 0)).config
          is = goes entry_goes

          pub follow_on : c.position ≤ next.position
          follow_on = subst (λ (d : Config). c.position ≤ d.position) (sym is) (move_forward m list w c (get_or run i 0) entry_goes)

          letters_next : (r : Mode) → letters_from r m list w c (drop i run) ≡ letters_at r c next + letters_from r m list w next (drop (i + 1) run)
          unfolding letters_from
          letters_next r =
              ap (letters_from r m list w c) (drop-cons run i 0 lt ∙ ap (λ (j : ℕ). get_or run i 0 ∷ drop j run) (sym (add-one i)))
              ∙ ap (λ (d : Config). letters_at r c d + letters_from r m list w d (drop (i + 1) run)) (sym is)

          pub follow_next : (u : Tally) → (u.plain ≡ t.plain + letters_at Normal c next) × (u.stored ≡ t.stored + letters_at Buffering c next) → Following next u (i + 1)
          unfolding after_entry
          follow_next u (p, s) =
              let on = follow_on in
              let once = letters_once c next in
              let more-plain = letters_next Normal in
              let more-stored = letters_next Buffering in
              let same : suc (i - 1) ≡ i + 1 - 1 = omega (arith, f.some) in
              record {
                some = omega arith;
                within = omega arith;
                here =
                    is
                    ∙ (ap (λ (d : Config). (move m list w d (get_or run i 0)).config) f.here
                    ∙ (ap (λ (j : ℕ). (move m list w (after_entry m list w run (i - 1)) (get_or run j 0)).config) (sym before) ∙ ap (after_entry m list w run) same));
                plain = omega (arith, f.plain);
                stored = omega (arith, f.stored);
                few = omega (arith, f.few);
              }

      pub follow_end : length run ≤ i → (t.plain ≡ plain_letters m list w run) × (t.stored ≡ stored_letters m list w run)
      unfolding letters_from
      follow_end h =
          let none : (r : Mode) → letters_from r m list w c (drop i run) ≡ 0 = λ r. ap (letters_from r m list w c) (drop_of_length-le run h) in
          let no_plain = none Normal in
          let no-stored = none Buffering in
          (omega (arith, f.plain), omega (arith, f.stored))

  -- once entry i is passed, the configuration is the one after it
  pub follow_here : {c : Config} {t : Tally} (i : ℕ) → Following c t (i + 1) → c ≡ after_entry m list w run i
  follow_here i f = let same : i + 1 - 1 ≡ i = omega arith in f.here ∙ ap (after_entry m list w run) same

  -- the lines of the entries before i
  abbrev pub Laid : List ℕ → List ℕ → ℕ → Type 0
  Laid page₀ page i = page ≡ put 0 page₀ (each_below i (entry_line m list w run))

  module _ (page₀ : List ℕ) where
    line_is : (i : ℕ) (c : Config) → c ≡ after_entry m list w run i → line_of page_column (entry_numbers i c) ≡ entry_line m list w run i
    unfolding entry_line
    line_is i c e = ap (λ (d : Config). line_of page_column (entry_numbers i d)) e

    pub laid_next : (page after : List ℕ) (at i : ℕ) (c : Config) → Laid page₀ page i → c ≡ after_entry m list w run i → at ≡ 31 * i
        → after ≡ put at page (line_of page_column (entry_numbers i c)) → at + 31 ≤ length page₀ → Laid page₀ after (i + 1)
    laid_next page after at i c so_far is place put-here room =
        each_more 31 0 (entry_line m list w run) (entry_wide m list w run) page₀ page after _ i at so_far put-here (line_is i c is) (omega arith) (omega arith)

    pub laid_first : (after : List ℕ) (c : Config) → c ≡ start_at (get_or run 0 0) → after ≡ put 0 page₀ (line_of page_column (entry_numbers 0 c)) → 31 ≤ length page₀ → Laid page₀ after 1
    unfolding after_entry
    laid_first after c is put-here room = laid_next page₀ after 0 0 c (each_none 0 page₀ (entry_line m list w run)) is refl put-here room

  -- the lines of the entries from 1 on, written behind the first line in page₁
  abbrev pub Extends : List ℕ → List ℕ → ℕ → Type 0
  Extends page₁ page i = (page₀ : List ℕ) → length page₀ ≡ length page₁ → Laid page₀ page₁ 1 → Laid page₀ page i

  pub extends_next : (page₁ page after : List ℕ) (at i : ℕ) (c : Config) → Extends page₁ page i → c ≡ after_entry m list w run i → at ≡ 31 * i
      → after ≡ put at page (line_of page_column (entry_numbers i c)) → at + 31 ≤ length page₁ → Extends page₁ after (i + 1)
  extends_next page₁ page after at i c so_far is place put-here room page₀ same first-laid =
      laid_next page₀ page after at i c (so_far page₀ same first-laid) is place put-here (omega arith)

  module _ (page₀ : List ℕ) where
    pub laid_end : (page after : List ℕ) (at i : ℕ) (t : Tally) → Laid page₀ page i → i ≤ length run → length run ≤ i → at ≡ 31 * i
        → (t.plain ≡ plain_letters m list w run) × (t.stored ≡ stored_letters m list w run)
        → after ≡ put at page (line_of page_column (t.plain ∷ t.stored ∷ length w ∷ [])) → page_length (length run) ≤ length page₀ → after ≡ put 0 page₀ (page_of m list w run)
    unfolding page_of
    laid_end page after at i t so_far within done place (p, s) put-here room =
        let all : i ≡ length run = omega arith in
        let entries = each_length 31 (entry_line m list w run) (entry_wide m list w run) (length run) in
        let last : length (line_of page_column (last_numbers m list w run)) ≡ 19 = line_length page_column (last_numbers m list w run) in
        let laid : page ≡ put 0 page₀ (each_below (length run) (entry_line m list w run)) = so_far ∙ ap (λ (j : ℕ). put 0 page₀ (each_below j (entry_line m list w run))) all in
        let totals : line_of page_column (t.plain ∷ t.stored ∷ length w ∷ []) ≡ line_of page_column (last_numbers m list w run) = λ j. line_of page_column (p j ∷ s j ∷ length w ∷ []) in
        put_more page₀ page after (each_below (length run) (entry_line m list w run)) (line_of page_column (last_numbers m list w run)) 0 at laid (put-here ∙ ap (put at page) totals) (omega arith) (omega arith)

-- The first refusals

module _ (m : Machine) (list w run : List ℕ) where
  pub fault_word : well_formed m list ≡ true → length run ≤ longest_run → word_fault longest_word m.letters w ≡ page_fault m list w run
  unfolding page_fault
  fault_word h short = first _ h (at (leb (length w) longest_word) (leb (length run) longest_run) (le-leb (length run) longest_run short))
    where
      at : (b d : Bool) → d ≡ true → ◌≡◌ {A = ℕ} (cond b (cond (good_letters m.letters w) 0 8) 9) (cond (b && d) (cond (good_letters m.letters w) 0 8) 9)
      at true d e = first _ e refl
      at false d e = refl

-- The answer

module _ (m : Machine) (list w run slice : List ℕ) where
  pub page_says : (r : Result ℕ Refusal) (after : List ℕ) → Leaves m list w run slice r after
      → (r ≡ page_answer m list w run (length slice)) × (after ≡ page_after m list w run slice) × (count_values r ≡ page_values m list w run (length slice))
  unfolding page_answer page_values page_refusal
  page_says r after (a, s) = (
    a,
    s,
    ap count_values a
        ∙ (by (page_refusal m list w run (length slice))
        ∙ run_numbers (page_fault m list w run) (accepting m list w run) (ShortSheet (page_length (length run))) (length slice) (record { refusal = 0; needed = 0; count = page_length (length run) })
        (λ n l. record { refusal = n; needed = l; count = 0 }) (laws.page_numbered m list w run)),
  )
    where
      by : (o : Option Refusal)
          → count_values (by_refusal o (Ok (page_length (length run))) (λ f. Err f))
          ≡ by_refusal o (record { refusal = 0; needed = 0; count = page_length (length run) }) (λ f. record { refusal = number_of f; needed = needed_of f; count = 0 })
      by None = refl
      by (Some f) = refl

  pub early : (f : Refusal) → Err f ≡ passed (page_fault m list w run) → Leaves m list w run slice (Err f) slice
  early f e =
      let h = passed_err (page_fault m list w run) f e in
      let (a, s) = laws.refused_first m list w run slice h.0 in
      (ap (λ (z : Refusal). Err z) h.1 ∙ a, s)

  module _ (passes : Ok tt ≡ passed (page_fault m list w run)) where
    none : page_fault m list w run ≡ 0
    none = passed_ok (page_fault m list w run) passes

    pub tested : (well_formed m list ≡ true) × (length w ≤ longest_word) × (length run ≤ longest_run)
    tested = let all = (fault_none m list w run).0 none in (all.0, all.1, all.2)

    pub not_accepting : accepting m list w run ≡ false → Leaves m list w run slice (Err NotAccepting) slice
    not_accepting h = laws.refused_run m list w run slice none h

    module _ (a : accepting m list w run ≡ true) where
      pub no_room : length slice < page_length (length run) → Leaves m list w run slice (Err (ShortSheet (page_length (length run)))) slice
      no_room h = laws.refused_room m list w run slice none a h

      pub laid : page_length (length run) ≤ length slice → (after : List ℕ) → after ≡ put 0 slice (page_of m list w run) → Leaves m list w run slice (Ok (page_length (length run))) after
      laid h after is =
          let (answer, left) = laws.written_all m list w run slice none a h in
          (answer, is ∙ (put_zero slice (page_of m list w run) ∙ (ap (λ (k : ℕ). page_of m list w run ++ drop k slice) (page_long m list w run) ∙ left)))
