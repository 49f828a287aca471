-- The laws of specs/Written.antt.
--
-- takes_listed         == a transition that an entry names is listed
-- stores_counted, matches_counted, leads_counted == entries are moves: as many as there are entries
-- by_append            == written pieces, then written pieces
-- leads_run            == written pieces are a published run with these entries
-- written_run          == from an initial to a final state they are a written run of what they read
-- written_accepts      == and so, behind their start state, an accepting run of it
use Rattle.std.specs.Prelude.{ℕ, suc, ◌+◌, ◌<◌, ◌≡◌, refl, true, length}
use Rattle.std.proofs.Common.{sym, subst₂, arith, length-append}
use Rattle.std.proofs.Math.Path.{ap, subst}
use mathlib.Core.List.{List, [], ◌∷◌, ◌++◌, append_assoc, append-nil}
use Rattle.fsbm.specs.Moves.{begin_buffering, begin_emptying, back_to_normal}
use Rattle.fsbm.specs.Machine.{initial, final, well_formed}
use Rattle.fsbm.specs.Moves.{accepting}
use Rattle.fsbm.specs.Published.{fsbm_of, Configuration, config, symbol, Yields, normal, buffer, empty, begins_buffering, begins_emptying, returns_to_normal, Run, done}
use Rattle.fsbm.specs.Entries.{entry_of, entries_of, WrittenRun}
use Rattle.fsbm.specs.declared.machine.Machine.{Machine}
use Rattle.fsbm.specs.declared.config.Mode.TheVariants.{Normal, Buffering, Emptying}
use Rattle.language.specs.Agreement.{written_accepting}
use Rattle.pieces.specs.Pieces.{Stores, Matches, Leads}
use Rattle.pieces.specs.Pieces as counted
use Rattle.pieces.specs.Written.{Takes, StoresBy, stored, store, MatchesBy, matched, match, LeadsBy, ended, read, copy}

module _ {m : Machine} {list : List ℕ} where
  pub takes_listed : {e p a q : ℕ} → Takes m list e p a q → (fsbm_of m list).δ p a q
  takes_listed {e} t = record { number = e; listed = t.listed; from = t.from; letter = t.letter; to = t.to }

  -- From entries to moves

  pub stores_counted : {s h : ℕ} {x es : List ℕ} → StoresBy m list s x es h → Stores (fsbm_of m list) s x h (length es)
  stores_counted stored = counted.stored
  stores_counted (store t none n r) = counted.store (takes_listed t) none n (stores_counted r)

  pub matches_counted : {t z : ℕ} {x es : List ℕ} → MatchesBy m list t x es z → Matches (fsbm_of m list) t x z (length es)
  matches_counted matched = counted.matched
  matches_counted (match t from to r) = counted.match (takes_listed t) from to (matches_counted r)

  pub leads_counted : {q f : ℕ} {w es : List ℕ} → LeadsBy m list q w es f → Leads (fsbm_of m list) q w f (length es)
  leads_counted ended = counted.ended
  leads_counted (read t none n r) = counted.read (takes_listed t) none n (leads_counted r)
  leads_counted {f = f} (copy {g = q} {x = x} {w = w} {es = es} {ds = ds} {rest = rest} g s h d z r) =
      let outer = length-append es (begin_emptying ∷ (ds ++ (back_to_normal ∷ rest))) in
      let inner = length-append ds (back_to_normal ∷ rest) in
      subst (λ (k : ℕ). Leads (fsbm_of m list) q (x ++ (x ++ w)) f k)
      (let e : suc (length es + suc (length ds + suc (length rest))) ≡ suc (length (es ++ (begin_emptying ∷ (ds ++ (back_to_normal ∷ rest))))) = omega arith in e)
      (counted.copy g (stores_counted s) h (matches_counted d) z (leads_counted r))

  -- Entries put behind one another

  pub by_append : {p q f : ℕ} {u es w ds : List ℕ} → LeadsBy m list p u es q → LeadsBy m list q w ds f → LeadsBy m list p (u ++ w) (es ++ ds) f
  by_append ended r = r
  by_append {f = f} {w = w} {ds = ds} (read {e = e} {p = p} {a = a} {w = u} {es = es} t none n l) r =
      subst (λ (x : List ℕ). LeadsBy m list p x (e ∷ (es ++ ds)) f) (sym (append_assoc (symbol a) u w)) (read t none n (by_append l r))
  by_append {f = f} {w = w} {ds = ds} (copy {g = g} {x = x} {w = u} {es = es} {ds = fs} {rest = rest} b s h d z l) r =
      subst₂ (λ (y : List ℕ) (o : List ℕ). LeadsBy m list g y o f)
      (let e : x ++ (x ++ (u ++ w)) ≡ (x ++ (x ++ u)) ++ w = simp append_assoc in e)
      (let e : begin_buffering ∷ (es ++ (begin_emptying ∷ (fs ++ (back_to_normal ∷ (rest ++ ds))))) ≡ (begin_buffering ∷ (es ++ (begin_emptying ∷ (fs ++ (back_to_normal ∷ rest))))) ++ ds = simp append_assoc in e)
      (copy b s h d z (by_append l r))

-- Written pieces as a run

-- a published run with these entries
abbrev RunBy : Machine → List ℕ → List ℕ → Configuration → Configuration → Type 0
RunBy m list es D D' = (s : Run (fsbm_of m list) D D') × (entries_of m list s ≡ es)

module _ (m : Machine) (list : List ℕ) where
  first_move : {D D' D'' : Configuration} {es : List ℕ} (y : Yields (fsbm_of m list) D D') → RunBy m list es D' D'' → RunBy m list (entry_of m list y ∷ es) D D''
  unfolding entries_of
  first_move y (s, e) = (Run.more y s, ap (λ (l : List ℕ). entry_of m list y ∷ l) e)

  stores_run : {s h : ℕ} {x es : List ℕ} {D : Configuration} → StoresBy m list s x es h → (u v ds : List ℕ) → RunBy m list ds (config u h (v ++ x) Buffering) D
      → RunBy m list (es ++ ds) (config (x ++ u) s v Buffering) D
  unfolding entry_of takes_listed
  stores_run {s = s} {D = D} stored u v ds r = subst (λ (y : List ℕ). RunBy m list ds (config u s y Buffering) D) (append-nil v) r
  stores_run {h = h} {D = D} (store {e = e} {s = s} {a = a} {x = x} {es = es} t none n p) u v ds r =
      let rest = stores_run p u (v ++ symbol a) ds (subst (λ (y : List ℕ). RunBy m list ds (config u h y Buffering) D) (sym (append_assoc v (symbol a) x)) r) in
      subst (λ (y : List ℕ). RunBy m list (e ∷ (es ++ ds)) (config y s v Buffering) D) (sym (append_assoc (symbol a) x u)) (first_move (buffer (takes_listed t) none n) rest)

  matches_run : {t z : ℕ} {x es : List ℕ} {D : Configuration} → MatchesBy m list t x es z → (u ds : List ℕ) → RunBy m list ds (config u z [] Emptying) D
      → RunBy m list (es ++ ds) (config (x ++ u) t x Emptying) D
  unfolding entry_of takes_listed
  matches_run matched u ds r = r
  matches_run {D = D} (match {e = e} {s = s} {a = a} {x = x} {es = es} t from to p) u ds r =
      subst (λ (y : List ℕ). RunBy m list (e ∷ (es ++ ds)) (config y s (symbol a ++ x) Emptying) D) (sym (append_assoc (symbol a) x u))
      (first_move (empty (takes_listed t) from to) (matches_run p u ds r))

  pub leads_run : {q f : ℕ} {w es : List ℕ} → LeadsBy m list q w es f → (s : Run (fsbm_of m list) (config w q [] Normal) (config [] f [] Normal)) × (entries_of m list s ≡ es)
  unfolding entries_of entry_of takes_listed
  leads_run ended = (done, refl)
  leads_run (read t none n p) = first_move (normal (takes_listed t) none n) (leads_run p)
  leads_run (copy {x = x} {w = w} {es = es} {ds = ds} {rest = rest} g s h d z p) =
      first_move (begins_buffering g)
      (stores_run s (x ++ w) [] (begin_emptying ∷ (ds ++ (back_to_normal ∷ rest)))
      (first_move (begins_emptying h) (matches_run d w (back_to_normal ∷ rest) (first_move (returns_to_normal z) (leads_run p)))))

  pub written_run : {q f : ℕ} {w es : List ℕ} → q < m.states → initial m.marks q ≡ true → final m.marks f ≡ true → LeadsBy m list q w es f → WrittenRun m list w (q ∷ es)
  written_run {q} {f} lt i last p =
      let (s, e) = leads_run p in
      record { accepting_run = record { first = q; last = f; first_initial = (lt, i); last_final = last; run = s }; written = ap (λ (l : List ℕ). q ∷ l) (sym e) }

  pub written_accepts : well_formed m list ≡ true → {q f : ℕ} {w es : List ℕ} → q < m.states → initial m.marks q ≡ true → final m.marks f ≡ true → LeadsBy m list q w es f
      → accepting m list w (q ∷ es) ≡ true
  written_accepts good {q} {w = w} {es = es} lt i last p = written_accepting m list w good (q ∷ es) (written_run lt i last p)
