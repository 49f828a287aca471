-- The laws of a whole copy: what walk_back leaves, with the changes of mode, the letters once more and the entries that were kept.
--
-- copy_room, copy_going     == a copy fits; walk_back may begin
-- Finished, copy_finished   == where everything goes after walk_back
-- copy_done                 == what copy ensures
use Prim.Native.Nat.{ℕ, suc, ◌+◌, ◌-◌, ◌≤◌, ◌<◌}
use Rattle.std.specs.Prelude.{◌≡◌, true, length, set, take, drop}
use Rattle.std.proofs.Common.{sym, ap, ◌∙◌, subst, length-set, take_at}
use mathlib.Core.List.{List, [], ◌∷◌, ◌++◌, append_assoc, append-nil}
use native.Mathlib.Omega.{arith}
use Rattle.std.proofs.Math.ListN.{length-append}
use Rattle.basics.specs.Lists.Laws.{drop_set}
use Rattle.fsbm.specs.Machine.{well_formed}
use Rattle.fsbm.specs.Moves.{begin_buffering, begin_emptying, back_to_normal}
use Rattle.fsbm.specs.declared.machine.Machine.{Machine}
use Rattle.pieces.specs.Pieces.{stored, matched, ended, copy}
use Rattle.pieces.specs.Pieces.Laws.{stores_append, matches_append}
use Rattle.pieces.specs.Pairs.{both}
use Rattle.pieces.proofs.PairsLaws.{apart}
use Rattle.pieces.specs.Blocks.{cell, block_of}
use Rattle.pieces.proofs.BlocksLaws.{block_realised}
use Rattle.pieces.specs.Written.{MatchesBy}
use Rattle.pieces.specs.Written as by
use Rattle.pieces.specs.Written.Laws.{stores_counted, matches_counted}
use Rattle.shortest.specs.Put.{Again, Unloaded}
use Rattle.shortest.specs.Put.Laws.{later_size}
use Rattle.shortest.specs.Copy.{Room, Walking, Going, Gone, CopyReady, Stepped}
use Rattle.shortest.specs.Copy.Laws.{kept_below}
use Rattle.shortest.specs.declared.copy.Progress.{Progress}
use Rattle.shortest.specs.declared.copy.Walk.{Walk}

module _ (m : Machine) (list d b : List ℕ) (h z : ℕ) (word : List ℕ) (i : ℕ) (run : List ℕ) (r : ℕ) (good : well_formed m list ≡ true) (c : CopyReady m list d b h z word i run r) where
  copy_room : Room m list b h z i (r - 1)
  unfolding block_of
  copy_room s t y j k st mt weight =
      let low = c.low in
      let tight = c.tight in
      let g = block_realised c.settles (both s t) (omega arith) in
      let o = apart g.route in
      let x = o.string ++ y in
      let whole = copy g.buffers (stores_append o.stores st) c.turns (matches_append o.matches mt) c.ends ended in
      let l = length-append o.string y in
      let l' = length-append x (x ++ []) in
      let l'' = length-append x [] in
      let total = g.total in
      let weighs = o.weight in
      let (a, e) = c.fits g.first (x ++ (x ++ [])) (suc (o.storing_moves + j + suc (o.matching_moves + k + suc 0))) whole (omega arith) in
      (omega arith, omega arith)

  copy_low : 2 ≤ r - 1
  copy_low = let (a, e) = copy_room h z [] 0 0 stored matched (omega arith) in omega arith

  abbrev run₁ : List ℕ
  run₁ = set run (r - 1) 65535

  pub copy_going : Going m list d b h z word i run₁ (r - 1)
  copy_going =
      record {
        set = c.set;
        settles = c.settles;
        low = let l = c.low in let t = c.tight in omega arith;
        room = copy_room;
        word_fits = c.word_fits;
        run_fits = let f = c.run_fits in let s = length-set run (r - 1) 65535 in omega arith;
      }

  pub copy_first : 0 < r
  copy_first = let l = copy_low in omega arith

  module _ (word₂ run₂ later₂ : List ℕ) (w : Walk) (g : Gone m list d b h z word i run₁ (r - 1) word₂ run₂ later₂ w) where
    abbrev W : Walking m list b h z word i run₁ (r - 1) word₂ run₂ later₂ w
    W = g.walking

    -- where everything goes
    pub record Finished : Type 0 where
      pub kept : w.kept ≡ length W.storing
      pub kept_few : w.kept ≤ 4096
      pub letters : i - w.letter ≡ length W.read
      pub letters_room : length W.read ≤ w.letter
      pub letters_fit : w.letter ≤ i
      pub word_fits : w.letter + (i - w.letter) ≤ length word₂
      pub entries_room : w.kept + 2 ≤ w.entry
      pub run_fits : w.entry ≤ length run₂
      pub run_bound : w.entry ≤ length run

    pub copy_finished : Finished
    copy_finished =
        let (a, e) = copy_room w.storing w.matching W.read (length W.storing) (length W.matching) (stores_counted W.stores) (matches_counted W.matches) W.weight in
        let k = sym (later_size later₂ w.kept) ∙ ap length W.later_is in
        let wp = W.word_place in
        let rp = W.run_place in
        record {
          kept = k;
          kept_few = let l = kept_below m list d b h z word i run₁ (r - 1) good copy_going word₂ run₂ later₂ w W in omega arith;
          letters = omega arith;
          letters_room = omega arith;
          letters_fit = omega arith;
          word_fits = let f = c.word_fits in let s = W.word_size in omega arith;
          entries_room = omega arith;
          run_fits = let f = c.run_fits in let s = W.run_size in let l = length-set run (r - 1) 65535 in omega arith;
          run_bound = let f = c.run_fits in omega arith;
        }

    abbrev run₃ : List ℕ
    run₃ = set run₂ (w.entry - 1) 65534

    module _ (word₃ : List ℕ) (again : Again word₂ w.letter (i - w.letter) word₃) (run₄ : List ℕ) (u : Unloaded later₂ w.kept run₃ (w.entry - 1) run₄) where
      abbrev e : ℕ
      e = w.entry - 1 - w.kept - 1

      abbrev end : Progress
      end = record { state = w.storing; letter = w.letter - (i - w.letter); entry = e }

      abbrev tail : List ℕ
      tail = back_to_normal ∷ drop r run

      word_end : drop (w.letter - (i - w.letter)) word₃ ≡ W.read ++ (W.read ++ drop i word)
      word_end =
          again.is
          ∙ (ap (λ (l : List ℕ). take (i - w.letter) l ++ l) W.word_is
          ∙ ap (λ (l : List ℕ). l ++ (W.read ++ drop i word)) (take_at W.read (drop i word) (i - w.letter) (sym copy_finished.letters)))

      run_middle : drop (w.entry - 1) run₃ ≡ begin_emptying ∷ (W.matching ++ tail)
      run_middle =
          drop_set run₂ w.entry (w.entry - 1) 65534 (let f = copy_finished.entries_room in omega arith) copy_finished.run_fits
          ∙ ap (λ (l : List ℕ). begin_emptying ∷ l)
          (W.run_is ∙ ap (λ (l : List ℕ). W.matching ++ l) (drop_set run r (r - 1) 65535 (let f = copy_first in omega arith) c.run_fits))

      run_end : drop e (set run₄ e 65533) ≡ begin_buffering ∷ (W.storing ++ (begin_emptying ∷ (W.matching ++ tail)))
      run_end =
          drop_set run₄ (w.entry - 1 - w.kept) e 65533 (let f = copy_finished.entries_room in omega arith)
          (let f = copy_finished.run_fits in let s = u.size in let l = length-set run₂ (w.entry - 1) 65534 in omega arith)
          ∙ ap (λ (l : List ℕ). begin_buffering ∷ l) (u.is ∙ (ap (λ (l : List ℕ). l ++ drop (w.entry - 1) run₃) W.later_is ∙ ap (λ (l : List ℕ). W.storing ++ l) run_middle))

      pub copy_done : Stepped m list d z word i run r word₃ (set run₄ e 65533) end
      copy_done =
          let y = W.read in
          let st = W.storing in
          let mt = W.matching in
          let es = begin_buffering ∷ (st ++ (begin_emptying ∷ (mt ++ (back_to_normal ∷ [])))) in
          let ly = length-append y (y ++ []) in
          let ly' = length-append y [] in
          let le = length-append st (begin_emptying ∷ (mt ++ (back_to_normal ∷ []))) in
          let le' = length-append mt (back_to_normal ∷ []) in
          let f = copy_finished in
          let fl = f.letters in
          let fr = f.letters_room in
          let ff = f.letters_fit in
          let fe = f.entries_room in
          let fk = f.kept in
          let rp = W.run_place in
          let same_cell : cell b w.storing w.matching ≡ cell b w.storing h = ap (cell b w.storing) g.arrived in
          record {
            read = y ++ (y ++ []);
            entries = es;
            leads = by.copy g.buffers W.stores c.turns (subst (λ (t : ℕ). MatchesBy m list t y mt z) g.arrived W.matches) c.ends by.ended;
            tight = let begins = g.begins in let weight = W.weight in let tight = c.tight in omega arith;
            some = omega arith;
            word_size = again.size ∙ W.word_size;
            word_is = word_end ∙ simp (append_assoc, append-nil);
            word_place = omega arith;
            run_size = length-set run₄ e 65533 ∙ (u.size ∙ (length-set run₂ (w.entry - 1) 65534 ∙ (W.run_size ∙ length-set run (r - 1) 65535)));
            run_is = run_end ∙ simp append_assoc;
            run_place = omega arith;
          }
