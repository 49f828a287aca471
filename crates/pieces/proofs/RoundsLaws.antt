-- The laws of specs/Rounds.antt.
--
-- NormalDone, CopiesDone == no normal move out of a state, no copy out of a state, would lower a number
-- rounds_start         == 0 at the initial states, which all wait, and top elsewhere
-- rounds_turn          == numbers lowered at once, each along a piece from the old numbers; whoever newly does not wait was looked at
-- rounds_looked, rounds_copied == the numbers as they were; a state's normal moves, its copies, were looked at
-- rounds_end           == where nothing waits the numbers are settled: the least weights from a start
-- stores_enters        == storing that begins in a buffering and ends in a matching state ends with a move into it from one that is not matching
-- copy_origin          == a settled block's number, and for the changes of mode 2 more, is the weight of a copy with that guess
use Rattle.std.specs.Prelude.{ℕ, ◌+◌, ◌≤◌, ◌<◌, ◌≡◌, refl, ◌⊎◌, List}
use Rattle.std.proofs.Common.{inl, inr, arith}
use Rattle.graphs.specs.Cost.{Route, ToGoal, Settled}
use Rattle.graphs.specs.Cost.Laws.{to_goal_edge, realised_start}
use Rattle.graphs.specs.Back.{Back}
use Rattle.fsbm.specs.Published.{FSBM}
use Rattle.pieces.specs.Pieces.{Stores, stored, store}
use Rattle.pieces.specs.Pairs.{Pair, both, PairMove, NormalMove, Piece, moved, copied}
use Rattle.pieces.proofs.PairsLaws.{apart}
use Rattle.pieces.specs.Blocks.{Node, outside, inside, BlockEdge}
use Rattle.pieces.proofs.BlocksLaws.{block_realised}
use Rattle.pieces.specs.Rounds.{Rounds}

abbrev pub NormalDone : FSBM → ℕ → (ℕ → ℕ) → ℕ → Type 0
NormalDone M top D p = (q w : ℕ) → NormalMove M p q w → w + D p < top → D q ≤ w + D p

abbrev pub CopiesDone : FSBM → ℕ → (ℕ → ℕ) → ℕ → Type 0
CopiesDone M top D g = (h z n : ℕ) → M.G g → M.H h → M.H z → Route Pair (PairMove M) (both g h) (both h z) n → 3 + n + D g < top → D z ≤ 3 + n + D g

module _ {M : FSBM} {top : ℕ} where
  pub rounds_start : (Fresh Started : ℕ → Type 0) (D : ℕ → ℕ) → ((q : ℕ) → M.I q → Fresh q × Started q × (D q ≡ 0)) → ((q : ℕ) → M.I q ⊎ (top ≤ D q)) → Rounds M top Fresh Started D
  rounds_start Fresh Started D none else =
      record {
        at_start = λ q i. (none q i).2;
        realised = realised_start (Back (Piece M)) M.I top D (λ q. at q (else q));
        normal = λ p q w e quiet l. normal_at p q w quiet l (else p);
        copies = λ g h z n a b c r quiet l. copies_at g z n quiet l (else g);
      }
    where
      at : (q : ℕ) → M.I q ⊎ (top ≤ D q) → (M.I q × (D q ≡ 0)) ⊎ (top ≤ D q)
      at q (inl i) = inl (i, (none q i).2)
      at q (inr l) = inr l

      normal_at : (p q w : ℕ) → (Fresh p → ⊥) → w + D p < top → M.I p ⊎ (top ≤ D p) → D q ≤ w + D p
      normal_at p q w quiet l (inl i) = absurd (quiet (none p i).0)
      normal_at p q w quiet l (inr k) = absurd (omega arith)

      copies_at : (g z n : ℕ) → (Started g → ⊥) → 3 + n + D g < top → M.I g ⊎ (top ≤ D g) → D z ≤ 3 + n + D g
      copies_at g z n quiet l (inl i) = absurd (quiet (none g i).1)
      copies_at g z n quiet l (inr k) = absurd (omega arith)

  module _ {Fresh Started Fresh' Started' : ℕ → Type 0} {D : ℕ → ℕ} (so_far : Rounds M top Fresh Started D) where
    pub rounds_turn : (D' : ℕ → ℕ) → ((q : ℕ) → D' q ≤ D q) → ((q : ℕ) → (D' q ≡ D q) ⊎ ((p : ℕ) × (w : ℕ) × Piece M p q w × (D' q ≡ w + D p)))
        → ((p : ℕ) → (Fresh' p → ⊥) → ((Fresh p → ⊥) × (D' p ≡ D p)) ⊎ NormalDone M top D' p)
        → ((g : ℕ) → (Started' g → ⊥) → ((Started g → ⊥) × (D' g ≡ D g)) ⊎ CopiesDone M top D' g)
        → Rounds M top Fresh' Started' D'
    rounds_turn D' lower origin normal-looked copies-looked =
        record {
          at_start = λ q i. let z = so_far.at_start q i in let l = lower q in omega arith;
          realised = λ q l. at q l (origin q);
          normal = λ p q w e quiet l. normal_at p q w e l (normal-looked p quiet);
          copies = λ g h z n a b c r quiet l. copies_at g h z n a b c r l (copies-looked g quiet);
        }
      where
        at : (q : ℕ) → D' q < top → (D' q ≡ D q) ⊎ ((p : ℕ) × (w : ℕ) × Piece M p q w × (D' q ≡ w + D p)) → ToGoal (Back (Piece M)) M.I q (D' q)
        at q l (inl e) = rw e (so_far.realised q (omega arith))
        at q l (inr (p, w, e, is)) = rw is (to_goal_edge w e (so_far.realised p (omega arith)))

        normal_at : (p q w : ℕ) → NormalMove M p q w → w + D' p < top → ((Fresh p → ⊥) × (D' p ≡ D p)) ⊎ NormalDone M top D' p → D' q ≤ w + D' p
        normal_at p q w e l (inl (quiet, same)) = let k = so_far.normal p q w e quiet (omega arith) in let d = lower q in omega arith
        normal_at p q w e l (inr all) = all q w e l

        copies_at : (g h z n : ℕ) → M.G g → M.H h → M.H z → Route Pair (PairMove M) (both g h) (both h z) n → 3 + n + D' g < top
            → ((Started g → ⊥) × (D' g ≡ D g)) ⊎ CopiesDone M top D' g → D' z ≤ 3 + n + D' g
        copies_at g h z n a b c r l (inl (quiet, same)) = let k = so_far.copies g h z n a b c r quiet (omega arith) in let d = lower z in omega arith
        copies_at g h z n a b c r l (inr all) = all h z n a b c r l

  module _ {Fresh Started : ℕ → Type 0} {D : ℕ → ℕ} (so_far : Rounds M top Fresh Started D) where
    pub rounds_looked : (Fresh' : ℕ → Type 0) → ((p : ℕ) → (Fresh' p → ⊥) → (Fresh p → ⊥) ⊎ NormalDone M top D p) → Rounds M top Fresh' Started D
    rounds_looked Fresh' looked = rounds_turn so_far D (λ q. omega arith) (λ q. inl refl) (λ p quiet. at p (looked p quiet)) (λ g quiet. inl (quiet, refl))
      where
        at : (p : ℕ) → (Fresh p → ⊥) ⊎ NormalDone M top D p → ((Fresh p → ⊥) × (D p ≡ D p)) ⊎ NormalDone M top D p
        at p (inl quiet) = inl (quiet, refl)
        at p (inr all) = inr all

    pub rounds_copied : (Started' : ℕ → Type 0) → ((g : ℕ) → (Started' g → ⊥) → (Started g → ⊥) ⊎ CopiesDone M top D g) → Rounds M top Fresh Started' D
    rounds_copied Started' looked = rounds_turn so_far D (λ q. omega arith) (λ q. inl refl) (λ p quiet. inl (quiet, refl)) (λ g quiet. at g (looked g quiet))
      where
        at : (g : ℕ) → (Started g → ⊥) ⊎ CopiesDone M top D g → ((Started g → ⊥) × (D g ≡ D g)) ⊎ CopiesDone M top D g
        at g (inl quiet) = inl (quiet, refl)
        at g (inr all) = inr all

    pub rounds_end : ((q : ℕ) → Fresh q → ⊥) → ((q : ℕ) → Started q → ⊥) → Settled (Back (Piece M)) M.I top D
    rounds_end fresh started = record { at_goal = so_far.at_start; on_edge = λ u v w e l. edge u v w e l; realised = so_far.realised }
      where
        edge : (u v w : ℕ) → Piece M v u w → w + D v < top → D u ≤ w + D v
        edge u v w (moved e) l = so_far.normal v u w e (fresh v) l
        edge u v w (copied {h = h} {n = n} a b c r) l = so_far.copies v h u n a b c r (started v) l

-- Which guesses are needed

-- the last of some storing moves: none at all, or one into h
last_store : {M : FSBM} {s h k : ℕ} {x : List ℕ} → Stores M s x h k → (s ≡ h) ⊎ ((p a : ℕ) × M.δ p a h × (M.H p × M.H h → ⊥) × (M.G h → ⊥))
last_store stored = inl refl
last_store {M} {h = h} (store {s = s} {a = a} {t = t} δ none n r) = at (last_store r)
  where
    at : (t ≡ h) ⊎ ((p a : ℕ) × M.δ p a h × (M.H p × M.H h → ⊥) × (M.G h → ⊥)) → (s ≡ h) ⊎ ((p a : ℕ) × M.δ p a h × (M.H p × M.H h → ⊥) × (M.G h → ⊥))
    at (inl e) = inr (s, a, rw e at δ, rw e at none, rw e at n)
    at (inr found) = inr found

module _ {M : FSBM} (kinds : (q : ℕ) → M.G q → M.H q → ⊥) where
  pub stores_enters : {g h z n : ℕ} → M.G g → M.H h → Route Pair (PairMove M) (both g h) (both h z) n → (p a : ℕ) × M.δ p a h × (M.H p → ⊥)
  stores_enters {g} {h} buffers matches r = at (last_store (apart r).stores)
    where
      at : (g ≡ h) ⊎ ((p a : ℕ) × M.δ p a h × (M.H p × M.H h → ⊥) × (M.G h → ⊥)) → (p a : ℕ) × M.δ p a h × (M.H p → ⊥)
      at (inl e) = absurd (kinds h (rw e at buffers) matches)
      at (inr (p, a, δ, none, n)) = (p, a, δ, λ from. none (from, matches))

-- What a block says of the numbers

module _ {M : FSBM} {h : ℕ} {D : ℕ → ℕ} {S : ℕ → Type 0} {top : ℕ} {B : Node → ℕ} (s : Settled (BlockEdge M h D S) (λ (u : Node). u ≡ outside) top B) where
  pub copy_origin : (z : ℕ) → M.H h → M.H z → B (inside (both h z)) < top → (g : ℕ) × (w : ℕ) × S g × Piece M g z w × (B (inside (both h z)) + 2 ≡ w + D g)
  copy_origin z turns ends l =
      let b = block_realised s (both h z) l in
      (b.first, 3 + b.weight, b.member, copied b.buffers turns ends b.route, let t = b.total in omega arith)
