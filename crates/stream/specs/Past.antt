-- Nothing past a machine's transitions is looked at.
--
-- accepted_past == a list that goes on past the transitions gives the same answer to a word
-- prints_past   == and to a piece of input
-- end_past      == and at its end
use Rattle.std.specs.Prelude.{ℕ, ◌+◌, ◌*◌, ◌<◌, ◌≤◌, ◌≡◌, Bool, ◌&&◌, length, eqb}
use Rattle.std.proofs.Math.Path.{refl, ap}
use Rattle.std.proofs.Common.{sym, ◌∙◌, arith, ltb-true}
use mathlib.Core.List.{List, [], ◌∷◌, ◌++◌}
use Rattle.std.proofs.Math.Bool.{true, false, cond}
use Rattle.std.proofs.Math.ListN.{get_or-append}
use Rattle.std.proofs.Math.Dec.{ltb}
use Rattle.basics.specs.Bools.{same_truth}
use Rattle.fsbm.specs.Machine.{transition_at}
use Rattle.fsbm.specs.Moves.{may_take, after, changes, goes, well_placed, move, accepting_from, accepting, start_at}
use Rattle.fsbm.specs.Accepted.{accepted}
use Rattle.fsbm.specs.Accepted.Laws.{accepted_true}
use Rattle.fsbm.specs.Machine.{initial}
use Rattle.fsbm.specs.declared.machine.Machine.{Machine}
use Rattle.fsbm.specs.declared.machine.Transition.{Transition}
use Rattle.fsbm.specs.declared.config.Config.{Config}
use Rattle.fsbm.specs.declared.config.Move.{Move}
use Rattle.lines.specs.declared.Answer.{Answer}
use Rattle.lines.specs.Line.{line_answer, line_refusal, answer_line, word_of}
use Rattle.stream.specs.Listing.{word_line, most_words}
use Rattle.stream.specs.Pieces.{Pending, after_byte, byte_prints, piece_prints, end_prints}

module _ (m : Machine) (list more : List ℕ) (long : m.transitions * 3 ≤ length list) where
  same_transition : (k : ℕ) → k < m.transitions → transition_at (list ++ more) k ≡ transition_at list k
  same_transition k h = λ j. record {
    from = get_or-append list more 0 (k * 3) (omega arith) j;
    letter = get_or-append list more 0 (k * 3 + 1) (omega arith) j;
    to = get_or-append list more 0 (k * 3 + 2) (omega arith) j;
  }

  module _ (w : List ℕ) where
    -- an entry that is a transition's number, for any transition
    by : Config → ℕ → Transition → Move
    by c e t = goes (may_take m.marks w c t) (after c t c.mode) c

    same_move : (c : Config) (e : ℕ) → move m (list ++ more) w c e ≡ move m list w c e
    unfolding move by
    same_move c e = at (ltb e m.transitions) refl
      where
        at : (b : Bool) → ltb e m.transitions ≡ b
            → cond (well_placed m.states (length w) c) (cond (ltb e m.transitions) (by c e (transition_at (list ++ more) e)) (changes m.marks c e c.mode)) (goes false c c)
            ≡ cond (well_placed m.states (length w) c) (cond (ltb e m.transitions) (by c e (transition_at list e)) (changes m.marks c e c.mode)) (goes false c c)
        at true t =
            ap (λ (z : Transition). cond (well_placed m.states (length w) c) (cond (ltb e m.transitions) (by c e z) (changes m.marks c e c.mode)) (goes false c c))
            (same_transition e (ltb-true _ _ t))
        at false f =
            ap (λ (z : Bool). cond (well_placed m.states (length w) c) (cond z (by c e (transition_at (list ++ more) e)) (changes m.marks c e c.mode)) (goes false c c)) f
            ∙ ap (λ (z : Bool). cond (well_placed m.states (length w) c) (cond z (by c e (transition_at list e)) (changes m.marks c e c.mode)) (goes false c c)) (sym f)

    same_from : (c : Config) (es : List ℕ) → accepting_from m (list ++ more) w c es ≡ accepting_from m list w c es
    unfolding accepting_from
    same_from c [] = refl
    same_from c (e ∷ es) =
        ap (λ (z : Move). z.allowed && accepting_from m (list ++ more) w z.config es) (same_move c e)
        ∙ ap (λ (z : Bool). (move m list w c e).allowed && z) (same_from (move m list w c e).config es)

    same_run : (run : List ℕ) → accepting m (list ++ more) w run ≡ accepting m list w run
    unfolding accepting
    same_run [] = refl
    same_run (q ∷ es) = ap (λ (z : Bool). ltb q m.states && (initial m.marks q && z)) (same_from (start_at q) es)

    pub accepted_past : accepted m (list ++ more) w ≡ accepted m list w
    accepted_past = same_truth _ _ to from
      where
        to : accepted m (list ++ more) w ≡ true → accepted m list w ≡ true
        to e = let (run, short, below, yes-run) = (accepted_true m (list ++ more) w).0 e in (accepted_true m list w).1 (run, short, below, sym (same_run run) ∙ yes-run)

        from : accepted m list w ≡ true → accepted m (list ++ more) w ≡ true
        from e = let (run, short, below, yes-run) = (accepted_true m list w).0 e in (accepted_true m (list ++ more) w).1 (run, short, below, same_run run ∙ yes-run)

  answer_past : (line : List ℕ) → line_answer m (list ++ more) line ≡ line_answer m list line
  unfolding line_answer
  answer_past line =
      ap {B = Answer} (λ (z : Bool). cond (eqb (line_refusal m.letters line) 0) (record { answer = cond z 1 0; refusal = 0 }) (record { answer = 2; refusal = line_refusal m.letters line })) (accepted_past (word_of line))

  line_past : (i : ℕ) (line : List ℕ) → word_line m (list ++ more) i line ≡ word_line m list i line
  unfolding word_line
  line_past i line = ap (λ (a : Answer). answer_line i a.answer a.refusal) (answer_past line)

  pub prints_past : (p : Pending) (x : List ℕ) → piece_prints m (list ++ more) p x ≡ piece_prints m list p x
  unfolding piece_prints byte_prints
  prints_past p [] = refl
  prints_past p (b ∷ x) =
      ap (λ (z : List ℕ). cond (ltb p.words most_words) (cond (eqb b 10) z []) [] ++ piece_prints m (list ++ more) (after_byte p b) x) (line_past (p.words + 1) p.bytes)
      ∙ ap (λ (z : List ℕ). byte_prints m list p b ++ z) (prints_past (after_byte p b) x)

  pub end_past : (p : Pending) → end_prints m (list ++ more) p ≡ end_prints m list p
  unfolding end_prints
  end_past p = ap (λ (z : List ℕ). cond (ltb p.words most_words) (cond (eqb (length p.bytes) 0) [] z) []) (line_past (p.words + 1) p.bytes)
