-- The laws of specs/Letters.antt.
--
-- move_forward        == an allowed move does not take the position back
-- Balance c t next    == from c in mode t to next: letters read in normal mode, and stored ones times_read times, account for the positions and the buffers
-- move_balance        == every allowed move keeps the balance
-- plain_and_stored    == of an accepting run, letters read in normal mode and times_read times the letters stored make the word's length
use Rattle.std.specs.Prelude.{ℕ, ◌+◌, ◌*◌, ◌-◌, ◌≤◌, ◌≡◌, true, cond, ◌&&◌, length, ltb, eqb}
use Rattle.std.proofs.lemmas.Bool.{false≢true}
use mathlib.Core.List.{List, [], ◌∷◌}
use native.Mathlib.Omega.{arith}
use Rattle.std.proofs.Common.{eqb-true}
use Rattle.basics.specs.Search.Laws.{and_true}
use Rattle.fsbm.specs.Machine.{transition_at, initial, buffering}
use Rattle.fsbm.specs.Moves.{reads_stored, after, may_change, changed, move, start_at, accepting_from, accepting, begin_buffering}
use Rattle.fsbm.specs.Moves.Laws.{advanced_by, advanced_fits, move_elim, accepts_says}
use Rattle.fsbm.specs.Reaches.{same_mode}
use Rattle.fsbm.specs.Rules.{Placed}
use Rattle.fsbm.specs.declared.machine.Machine.{Machine}
use Rattle.fsbm.specs.declared.machine.Transition.{Transition}
use Rattle.fsbm.specs.declared.config.Config.{Config}
use Rattle.fsbm.specs.declared.config.Mode.{Mode}
use Rattle.fsbm.specs.declared.config.Mode.TheVariants.{Normal, Buffering, Emptying}
use Rattle.copies.specs.Letters.{times_read, in_buffer, letters_from, letters_in, plain_letters, stored_letters}

-- the letters that a move from c in mode t to next reads, if t is the mode s
abbrev read_in : Mode → Config → Mode → Config → ℕ
read_in s c t next = cond (same_mode t s) (next.position - c.position) 0

abbrev Balance : Config → Mode → Config → Type 0
Balance c t next = read_in Normal c t next + times_read * read_in Buffering c t next + (c.position + in_buffer c) ≡ next.position + in_buffer next

module _ (m : Machine) (list w : List ℕ) where
  after_balance : (c : Config) (tr : Transition) (t : Mode) → Placed m w c t → reads_stored w c tr t ≡ true → Balance c t (after c tr t)
  unfolding reads_stored after
  after_balance c tr Normal p stored = let by = advanced_by c.position tr.letter in omega arith
  after_balance c tr Buffering p stored =
      let by = advanced_by c.position tr.letter in
      let by_end = advanced_by c.end tr.letter in
      omega (arith, p.forward)
  after_balance c tr Emptying p stored =
      let (on, inside) = advanced_fits w c.start c.end tr.letter p.forward stored in
      let by = advanced_by c.position tr.letter in
      let by-start = advanced_by c.start tr.letter in
      omega (arith, p.forward)

  after_forward : (c : Config) (tr : Transition) (t : Mode) → c.position ≤ (after c tr t).position
  unfolding after
  after_forward c tr Normal = let by = advanced_by c.position tr.letter in omega arith
  after_forward c tr Buffering = let by = advanced_by c.position tr.letter in omega arith
  after_forward c tr Emptying = let by = advanced_by c.position tr.letter in omega arith

  changed_forward : (c : Config) (t : Mode) → c.position ≤ (changed c t).position
  changed_forward c Normal = omega arith
  changed_forward c Buffering = omega arith
  changed_forward c Emptying = omega arith

  pub move_forward : (c : Config) (e : ℕ) → (move m list w c e).allowed ≡ true → c.position ≤ (move m list w c e).config.position
  move_forward c e =
      move_elim m list w c e (λ (next : Config). c.position ≤ next.position)
      (λ p lt t. after_forward c (transition_at list e) c.mode)
      (λ p ge h. changed_forward c c.mode)

  changed_balance : (c : Config) (e : ℕ) (t : Mode) → may_change m.marks c e t ≡ true → Balance c t (changed c t)
  changed_balance c e Normal h =
      let (entry, r) = and_true (eqb e begin_buffering) (buffering m.marks c.state && eqb c.start c.end) h in
      let (is, equal) = and_true (buffering m.marks c.state) (eqb c.start c.end) r in
      let same = eqb-true c.start c.end equal in
      omega arith
  changed_balance c e Buffering h = omega arith
  changed_balance c e Emptying h = omega arith

  pub move_balance : (c : Config) (e : ℕ) → (move m list w c e).allowed ≡ true → Balance c c.mode (move m list w c e).config
  move_balance c e =
      move_elim m list w c e (Balance c c.mode)
      (λ p lt t. after_balance c (transition_at list e) c.mode p t.stored)
      (λ p ge h. changed_balance c e c.mode h)

  balance_from : (c : Config) (es : List ℕ) → accepting_from m list w c es ≡ true
      → letters_from Normal m list w c es + times_read * letters_from Buffering m list w c es + (c.position + in_buffer c) ≡ length w
  unfolding accepting_from letters_from
  balance_from c [] h = let (n, s, p) = accepts_says m.marks (length w) c h in omega arith
  balance_from c (e ∷ es) h =
      let next = (move m list w c e).config in
      let (a, rest) = and_true (move m list w c e).allowed (accepting_from m list w next es) h in
      let here = move_balance c e a in
      let there = balance_from next es rest in
      omega arith

  pub plain_and_stored : (run : List ℕ) → accepting m list w run ≡ true → plain_letters m list w run + times_read * stored_letters m list w run ≡ length w
  unfolding accepting letters_in
  plain_and_stored [] h = absurd (false≢true h)
  plain_and_stored (q ∷ es) h =
      let (lt, r) = and_true (ltb q m.states) (initial m.marks q && accepting_from m list w (start_at q) es) h in
      let (i, a) = and_true (initial m.marks q) (accepting_from m list w (start_at q) es) r in
      let all = balance_from (start_at q) es a in
      omega arith
