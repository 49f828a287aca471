-- The laws of specs/Write.antt.
--
-- number_below            == a state with a number is one of those that can have one
-- read_ready, read_steps  == a normal move along which the number of q is reached
-- copy_there              == where no normal move is one, a copy is
-- tried_not, tried_block  == the ways through try_guess
-- guess_start, guess_next, guess_found, guess_end == the loop of guess
-- copy_ready, step_ready  == copy may begin, step may
-- write_start, write_fits, write_turn, write_end == the loop of write
use Rattle.std.specs.Prelude.{ℕ, suc, ◌+◌, ◌*◌, ◌-◌, ◌≤◌, ◌<◌, ◌%◌, ◌≡◌, refl, ◌⊎◌, Bool, true, false, List, [], ◌∷◌, ◌++◌, length, set, drop, eqb}
use Rattle.std.proofs.Common.{sym, ap, ◌∙◌, subst, subst₂, inl, inr, append-nil, arith, length-append, length-drop, drop-set-lt, get_or-set_same, below_more}
use Rattle.std.proofs.lemmas.Bool.{false≢true}
use Rattle.std.proofs.Math.Decide.{dec_lt}
use Rattle.std.proofs.Math.Seq.{drop-length}
use borrow.Author.Tests.{eqb-true, eq-eqb}
use Rattle.graphs.specs.Cost.Laws.{settled_under}
use Rattle.basics.specs.Search.Laws.{not_both}
use Rattle.stateset.specs.Set.{In}
use Rattle.fsbm.specs.Machine.{transition_at, matching, buffering, well_formed}
use Rattle.fsbm.specs.Published.{fsbm_of, symbol}
use Rattle.fsbm.specs.Rules.{Rules, rules, matching_below, one_kind}
use Rattle.fsbm.specs.declared.machine.Machine.{Machine}
use Rattle.pieces.specs.Pieces.Laws.{leads_append}
use Rattle.pieces.specs.Pairs.{unit}
use Rattle.pieces.proofs.PairsLaws.{weigh_symbol}
use Rattle.pieces.specs.Blocks.{nothing, cost_of, cell, block_of}
use Rattle.pieces.proofs.BlocksLaws.{cost_past}
use Rattle.pieces.proofs.Tight.{TightMove, TightCopy, settled_back, settled_start, settled_leads, block_tight}
use Rattle.pieces.proofs.RoundsLaws.{stores_enters}
use Rattle.pieces.specs.Written.{Takes, LeadsBy, ended, read}
use Rattle.pieces.specs.Written.Laws.{leads_counted, by_append}
use Rattle.blocks.specs.Works.{Kind}
use Rattle.blocks.specs.Settling.{Past, Block}
use Rattle.least.specs.Turns.{Entered}
use Rattle.shortest.specs.Find.{NormalFits}
use Rattle.shortest.specs.Find.Tests.{normal_says, normal_true}
use Rattle.shortest.specs.Put.{PutReady}
use Rattle.shortest.specs.Put.Laws.{some_symbol}
use Rattle.shortest.specs.Copy.{Fits, CopyReady, Stepped}
use Rattle.shortest.specs.Write.{Read, Least, Searching, CopyThere, TriedGuess, Guessed, Guessing, StepReady, Aim, Writing, Shortest}
use Rattle.shortest.specs.declared.copy.Progress.{Progress}

pub number_below : (d : List ℕ) (q : ℕ) {top : ℕ} → top ≤ nothing → cost_of d q < top → q < 64
number_below d q small l = at (dec_lt q 64)
  where
    at : Dec (q < 64) → q < 64
    at (yes k) = k
    at (no k) = let e = cost_past d q (omega arith) in absurd (omega arith)

-- A normal move

module _ (m : Machine) (list d : List ℕ) (q : ℕ) (word : List ℕ) (i : ℕ) (run : List ℕ) (r : ℕ) (t : Rules m list) (fits : Fits m list d q i r) (word_fits : i ≤ length word) (run_fits : r ≤ length run)
    (k : ℕ) (below : k < m.transitions) (f : NormalFits m list d q k) where
  abbrev from : ℕ
  from = (transition_at list k).from

  abbrev by : ℕ
  by = (transition_at list k).letter

  takes : Takes m list k from by q
  takes = record { listed = below; from = refl; letter = refl; to = f.0 }

  moves : LeadsBy m list from (symbol by ++ []) (k ∷ []) q
  moves =
      let (apart, free, tight) = normal_says m list d (cost_of d q) k f.1 in
      read takes (λ h. apart (h.0, subst (λ (o : ℕ). matching m.marks o ≡ true) (sym f.0) h.1)) free ended

  reached : cost_of d from + (length (symbol by ++ []) * unit + 1) ≡ cost_of d q
  reached =
      let (apart, free, tight) = normal_says m list d (cost_of d q) k f.1 in
      let e = weigh_symbol by in
      let l = ap length (append-nil (symbol by)) in
      omega arith

  pub read_ready : PutReady list k word i run r
  read_ready =
      let (a, e) = fits from (symbol by ++ []) 1 (leads_counted moves) reached in
      let l = ap length (append-nil (symbol by)) in
      record {
        small = let n = t.transitions_fit in omega arith;
        letter_small = let n = t.letter_below k below in let o = t.letters_fit in omega arith;
        run_room = omega arith;
        run_fits = run_fits;
        word_room = λ some. let o = ap length (some_symbol by some) in omega arith;
        word_fits = word_fits;
      }

  pub read_steps : (word' run' : List ℕ) (p : Progress) → Read list k word i run r word' run' p → Stepped m list d q word i run r word' run' p
  read_steps word' run' p x =
      let put = x.put in
      let l = ap length (append-nil (symbol by)) in
      record {
        read = symbol by ++ [];
        entries = k ∷ [];
        leads = subst (λ (o : ℕ). LeadsBy m list o (symbol by ++ []) (k ∷ []) q) (sym x.state) moves;
        tight = let e = ap (cost_of d) x.state in let h = reached in omega arith;
        some = omega arith;
        word_size = put.word_size;
        word_is = put.word_is ∙ ap (λ (o : List ℕ). o ++ drop i word) (sym (append-nil (symbol by)));
        word_place = let e = put.place in omega arith;
        run_size = put.run_size;
        run_is = ap (λ (o : ℕ). drop o run') x.entry ∙ put.run_is;
        run_place = let e = x.entry in let h = read_ready.run_room in omega arith;
      }

-- A copy, where no normal move is found

pub copy_there : {top : ℕ} (m : Machine) (list d : List ℕ) (q : ℕ) → Least top m list d → 0 < cost_of d q → cost_of d q < top → ((k : ℕ) → k < m.transitions → NormalFits m list d q k → ⊥)
    → CopyThere m list d q
copy_there m list d q s positive low none = at (settled_back s q positive low)
  where
    at : TightMove (fsbm_of m list) (cost_of d) q ⊎ TightCopy (fsbm_of m list) (cost_of d) q → CopyThere m list d q
    at (inl t) =
        absurd (none t.listed.number t.listed.listed (t.listed.to, normal_true m list t.listed d (cost_of d q) t.not_both t.not_from (let e = t.tight in omega arith)))
    at (inr t) = t

-- The guesses

module _ (m : Machine) (list : List ℕ) (starts middles : ℕ) (d : List ℕ) (q : ℕ) (good : well_formed m list ≡ true) (buffers : Kind (buffering m.marks) starts) (turnings : Entered m list middles) where
  -- a block keeps what the search asks
  block_searching : (b b' : List ℕ) (h : ℕ) → Searching m list d b q → Block m list h starts d b' → Searching m list d b' q
  block_searching b b' h s k = record { top = s.top; top_small = s.top_small; settled = s.settled; past = k.past; low = s.low }

  pub tried_not : (b : List ℕ) (h : ℕ) → Searching m list d b q → (In middles h → ⊥) → TriedGuess m list starts d b q h false
  tried_not b h s out =
      record {
        searching = s;
        turns = λ e. absurd (false≢true e);
        block = λ e. absurd (false≢true e);
        tight = λ e. absurd (false≢true e);
        bad = λ e t is.
            let (p, a, δ, other) = stores_enters (one_kind m list (rules m list good)) t.buffers t.turns t.route in
            out (subst (λ (o : ℕ). In middles o) is (turnings.all p a t.middle δ t.turns other));
      }

  pub tried_block : (b b' : List ℕ) (h : ℕ) (r : Bool) → Searching m list d b q → In middles h → Block m list h starts d b' → r ≡ eqb (cell b' h q + 2) (cost_of d q)
      → TriedGuess m list starts d b' q h r
  unfolding block_of
  tried_block b b' h r s there k is =
      record {
        searching = block_searching b b' h s k;
        turns = λ e. turnings.only h there;
        block = λ e. k;
        tight = λ e. eqb-true (cell b' h q + 2) (cost_of d q) (sym is ∙ e);
        bad = λ e t middle.
            let tight = block_tight s.settled (settled_under s.top_small k.settles) q t middle ((buffers t.from).1 t.buffers) s.low in
            not_both (is ∙ eq-eqb (cell b' h q + 2) (cost_of d q) (sym tight)) e;
      }

  module _ (first : ℕ) where
    pub guess_start : (b : List ℕ) → Searching m list d b q → Guessing m list d b q first 0
    guess_start b s = record { searching = s; tried = λ j l. absurd (omega arith) }

    pub guess_next : (b b' : List ℕ) (k : ℕ) (r : Bool) → Guessing m list d b q first k → TriedGuess m list starts d b' q ((first + k) % 64) r → r ≡ false
        → Guessing m list d b' q first (k + 1)
    guess_next b b' k r g t e = record { searching = t.searching; tried = below_more _ k g.tried (t.bad e) }

    pub guess_found : (b' : List ℕ) (h : ℕ) (r : Bool) → CopyThere m list d q → TriedGuess m list starts d b' q h r → r ≡ true → Guessed m list starts d b' q h
    guess_found b' h r x t e = record { searching = t.searching; turns = t.turns e; ends_there = x.ends; block = t.block e; tight = t.tight e }

    -- each of the 64 guesses stands at some place of the round
    around : (h : ℕ) → h < 64 → h ≡ (first + (h + 64 - first % 64) % 64) % 64
    around h l = omega arith

    pub guess_end : (b : List ℕ) (k : ℕ) → CopyThere m list d q → 64 ≤ k → Guessing m list d b q first k → ⊥
    guess_end b k x past g =
        let r = rules m list good in
        let l = matching_below m list r x.middle x.turns in
        let n = r.states_fit in
        let below : x.middle < 64 = omega arith in
        let j = (x.middle + 64 - first % 64) % 64 in
        g.tried j (omega arith) x (around x.middle below)

pub copy_ready : (m : Machine) (list : List ℕ) (starts : ℕ) (d b b' : List ℕ) (q : ℕ) (word : List ℕ) (i : ℕ) (run : List ℕ) (r h : ℕ)
    → StepReady m list d b q word i run r → Guessed m list starts d b' q h → CopyReady m list d b' h q word i run r
copy_ready m list starts d b b' q word i run r h s g =
    record {
      set = starts;
      settles = g.block.settles;
      turns = g.turns;
      ends = g.ends_there;
      tight = g.tight;
      low = let l = s.searching.low in let t = s.searching.top_small in omega arith;
      fits = s.fits;
      word_fits = s.word_fits;
      run_fits = s.run_fits;
    }

-- The run from its end

module _ (m : Machine) (list d : List ℕ) (f : ℕ) (word₀ run₀ : List ℕ) (a : Aim m list d f (length word₀) (length run₀)) where
  pub write_start : Writing m list d f word₀ run₀ word₀ run₀ (record { state = f; letter = length word₀; entry = length run₀ })
  write_start =
      record {
        leads = subst₂ (λ (x : List ℕ) (y : List ℕ). LeadsBy m list f x y f) (sym (drop-length word₀)) (sym (drop-length run₀)) ended;
        sum = let x = ap length (drop-length word₀) in let y = ap length (drop-length run₀) in omega arith;
        word_size = refl;
        run_size = refl;
        word_fits = omega arith;
        run_fits = omega arith;
      }

  module _ (word run : List ℕ) (p : Progress) (w : Writing m list d f word₀ run₀ word run p) where
    pub write_low : cost_of d p.state < a.top
    write_low = let s = w.sum in let l = a.low in omega arith

    pub write_fits : Fits m list d p.state p.letter p.entry
    write_fits o x k leads tight =
        let low = write_low in
        let (q, u, j, start, to, e) = settled_leads a.settled o (omega arith) in
        let rest = leads_counted w.leads in
        let whole = leads_append to (leads_append leads rest) in
        let least = a.fewest q (u ++ (x ++ drop p.letter word)) _ start whole in
        let l = length-append u (x ++ drop p.letter word) in
        let l' = length-append x (drop p.letter word) in
        let dw = length-drop p.letter word in
        let dr = length-drop p.entry run in
        numbers (length u) (length x) (length (drop p.letter word)) (length word₀) p.letter j k (length (drop p.entry run)) (length run₀) p.entry
        (omega arith) (let z = w.word_size in let y = w.word_fits in omega arith) (let z = w.run_size in let y = w.run_fits in omega arith)
        (let s = w.sum in let v = a.weight in omega arith) a.small
      where
        -- u, x, c letters and j, k, t moves: no fewer letters than n, and n letters and e moves in all
        numbers : (u x c n i j k t e r : ℕ) → n ≤ u + (x + c) → c + i ≡ n → t + r ≡ e → suc (u * unit + j + (x * unit + k) + (c * unit + t)) ≡ n * unit + e → e < unit → (x ≤ i) × (k < r)
        numbers u x c n i j k t e r least at-word at_run sum small = (omega arith, omega arith)

    pub write_turn : (word' run' : List ℕ) (p' : Progress) → Stepped m list d p.state word p.letter run p.entry word' run' p'
        → Writing m list d f word₀ run₀ word' run' p' × (cost_of d p'.state < cost_of d p.state)
    write_turn word' run' p' s =
        let lw = length-append s.read (drop p.letter word) in
        let lr = length-append s.entries (drop p.entry run) in
        let ew = ap length s.word_is in
        let er = ap length s.run_is in (
          record {
            leads = subst₂ (λ (x : List ℕ) (y : List ℕ). LeadsBy m list p'.state x y f) (sym s.word_is) (sym s.run_is) (by_append s.leads w.leads);
            sum = let t = s.tight in let o = w.sum in omega arith;
            word_size = s.word_size ∙ w.word_size;
            run_size = s.run_size ∙ w.run_size;
            word_fits = let x = s.word_place in let y = w.word_fits in let z = s.word_size in omega arith;
            run_fits = let x = s.run_place in let y = w.run_fits in let z = s.run_size in omega arith;
          },
          let t = s.tight in let o = s.some in omega arith,
        )

    pub write_end : cost_of d p.state ≡ 0 → Shortest m list f word (set run 0 p.state)
    write_end z =
        let start = settled_start a.settled p.state (let l = a.low in omega arith) z in
        let least = a.fewest p.state (drop p.letter word) _ start (leads_counted w.leads) in
        let dw = length-drop p.letter word in
        let dr = length-drop p.entry run in
        let ws = w.word_size in
        let rs = w.run_size in
        let wf = w.word_fits in
        let rf = w.run_fits in
        let first : p.letter ≡ 0 = omega arith in
        let one : p.entry ≡ 1 = let s = w.sum in let v = a.weight in let o = a.some in omega arith in
        let here = get_or-set_same run 0 p.state 0 (let o = a.some in omega arith) in
        record {
          start = subst (λ (q : ℕ). (fsbm_of m list).I q) (sym here) start;
          leads = subst (λ (q : ℕ). LeadsBy m list q word (drop 1 (set run 0 p.state)) f) (sym here)
              (subst (λ (y : List ℕ). LeadsBy m list p.state word y f) (sym (drop-set-lt 1 run 0 p.state (omega arith)))
              (subst₂ (λ (i : ℕ) (r : ℕ). LeadsBy m list p.state (drop i word) (drop r run) f) first one w.leads));
        }

-- What a step asks, where the run is written from a place on

pub step_ready : (m : Machine) (list d : List ℕ) (f : ℕ) (word₀ run₀ : List ℕ) → Aim m list d f (length word₀) (length run₀) → (word run : List ℕ) (p : Progress) → Writing m list d f word₀ run₀ word run p → 0 < cost_of d p.state
    → (b : List ℕ) → Past m b → StepReady m list d b p.state word p.letter run p.entry
step_ready m list d f word₀ run₀ a word run p w positive b past =
    record {
      searching = record { top = a.top; top_small = a.top_small; settled = a.settled; past = past; low = write_low m list d f word₀ run₀ a word run p w };
      positive = positive;
      fits = write_fits m list d f word₀ run₀ a word run p w;
      word_fits = w.word_fits;
      run_fits = w.run_fits;
    }
