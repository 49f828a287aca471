-- The laws of specs/Pieces.antt.
--
-- stores_path, matches_path == a half of a copy is a published path of as many moves
-- leads_path           == pieces of k moves are a published path of k moves
-- path_leads           == and a published path of k moves, in normal mode at both ends, is pieces of k moves
-- leads_append         == pieces, then pieces
-- stores_append, matches_append == a half of a copy, then more of it
use Rattle.std.specs.Prelude.{ℕ, zero, suc, ◌+◌, ◌≡◌, refl, List, [], ◌++◌}
use Rattle.std.proofs.Common.{sym, ap, ◌∙◌, subst, subst₂, append_assoc, append-nil, arith, zero-add, suc-add}
use Rattle.graphs.specs.Paths.{Path, here, step}
use Rattle.graphs.specs.Paths.Laws.{append}
use Rattle.fsbm.specs.Published.{FSBM, Configuration, config, symbol, Yields, normal, buffer, empty, begins_buffering, begins_emptying, returns_to_normal}
use Rattle.fsbm.specs.declared.config.Mode.{Mode}
use Rattle.fsbm.specs.declared.config.Mode.TheVariants.{Normal, Buffering, Emptying}
use Rattle.pieces.specs.Pieces.{Stores, stored, store, Matches, matched, match, Leads, ended, read, copy}

-- From pieces to a path

module _ {M : FSBM} where
  pub stores_path : {s h k : ℕ} {x : List ℕ} → Stores M s x h k → (u v : List ℕ) → Path Configuration (Yields M) (config (x ++ u) s v Buffering) (config u h (v ++ x) Buffering) k
  stores_path {s = s} stored u v = rw (append-nil v) here
  stores_path {h = h} (store {s = s} {a = a} {t = t} {k = k} {x = x} δ apart n r) u v =
      let rest : Path Configuration (Yields M) (config (x ++ u) t (v ++ symbol a) Buffering) (config u h (v ++ (symbol a ++ x)) Buffering) k = rw append_assoc at (stores_path r u (v ++ symbol a)) in
      rw append_assoc (step (buffer δ apart n) rest)

  pub matches_path : {t z k : ℕ} {x : List ℕ} → Matches M t x z k → (u : List ℕ) → Path Configuration (Yields M) (config (x ++ u) t x Emptying) (config u z [] Emptying) k
  matches_path matched u = here
  matches_path (match {a = a} {x = x} δ from to r) u = rw append_assoc (step (empty δ from to) (matches_path r u))

  pub leads_path : {q f k : ℕ} {w : List ℕ} → Leads M q w f k → Path Configuration (Yields M) (config w q [] Normal) (config [] f [] Normal) k
  leads_path ended = here
  leads_path (read δ apart n r) = step (normal δ apart n) (leads_path r)
  leads_path (copy {x = x} {w = w} g s h m z r) =
      step (begins_buffering g) (append (stores_path s (x ++ w) []) (step (begins_emptying h) (append (matches_path m w) (step (returns_to_normal z) (leads_path r)))))

-- From a path to pieces

-- what is left of a copy that matches v, and what comes after it
record Matching (M : FSBM) (u v : List ℕ) (t f n : ℕ) : Type 0 where
  last : ℕ
  rest : List ℕ
  matching_moves : ℕ
  other_moves : ℕ
  input : u ≡ v ++ rest
  matches : Matches M t v last matching_moves
  ends : M.H last
  leads : Leads M last rest f other_moves
  count : n ≡ matching_moves + suc other_moves

-- what is left of a copy that has stored v, and what comes after it
record Storing (M : FSBM) (u v : List ℕ) (s f n : ℕ) : Type 0 where
  left : List ℕ
  input_left : List ℕ
  middle : ℕ
  storing_moves : ℕ
  later_moves : ℕ
  input : u ≡ left ++ input_left
  stores : Stores M s left middle storing_moves
  turns : M.H middle
  then : Matching M input_left (v ++ left) middle f later_moves
  count : n ≡ storing_moves + suc later_moves

abbrev Rest : FSBM → Mode → List ℕ → ℕ → List ℕ → ℕ → ℕ → Type 0
Rest M Normal u s v f n = Leads M s u f n
Rest M Buffering u s v f n = Storing M u v s f n
Rest M Emptying u s v f n = Matching M u v s f n

module _ {M : FSBM} where
  rest_of : {f n : ℕ} {D D' : Configuration} → Path Configuration (Yields M) D D' n → D' ≡ config [] f [] Normal → Rest M D.mode D.input D.state D.buffer f n
  rest_of {f} (here {u = D}) e = subst (λ (C : Configuration). Rest M C.mode C.input C.state C.buffer f zero) (sym e) ended
  rest_of (step (normal δ apart n) p) e = read δ apart n (rest_of p e)
  rest_of {f} (step {n = k} (buffer {p = p} {x = a} {q = q} {u = u} {v = v} δ apart n) path) e =
      let r = rest_of path e in
      let input : symbol a ++ u ≡ (symbol a ++ r.left) ++ r.input_left = ap (λ (z : List ℕ). symbol a ++ z) r.input ∙ sym (append_assoc (symbol a) r.left r.input_left) in
      record {
        left = symbol a ++ r.left;
        input_left = r.input_left;
        middle = r.middle;
        storing_moves = suc r.storing_moves;
        later_moves = r.later_moves;
        input = input;
        stores = store δ apart n r.stores;
        turns = r.turns;
        then = subst (λ (y : List ℕ). Matching M r.input_left y r.middle f r.later_moves) (append_assoc v (symbol a) r.left) r.then;
        count = let c = r.count in omega arith;
      }
  rest_of (step (empty {x = a} {u = u} {v = v} δ from to) path) e =
      let r = rest_of path e in
      record {
        last = r.last;
        rest = r.rest;
        matching_moves = suc r.matching_moves;
        other_moves = r.other_moves;
        input = ap (λ (z : List ℕ). symbol a ++ z) r.input ∙ sym (append_assoc (symbol a) v r.rest);
        matches = match δ from to r.matches;
        ends = r.ends;
        leads = r.leads;
        count = let c = r.count in omega arith;
      }
  rest_of {f} (step {n = k} (begins_buffering {q = q} {u = u} is) path) e =
      let r = rest_of path e in
      let t = r.then in
      let input : u ≡ r.left ++ (r.left ++ t.rest) = r.input ∙ ap (λ (z : List ℕ). r.left ++ z) t.input in
      let count : suc k ≡ suc (r.storing_moves + suc (t.matching_moves + suc t.other_moves)) = let c = r.count in let d = t.count in omega arith in
      subst₂ (λ (w : List ℕ) (n : ℕ). Leads M q w f n) (sym input) (sym count) (copy is r.stores r.turns t.matches t.ends t.leads)
  rest_of {f} (step {n = k} (begins_emptying {q = q} {u = u} {v = v} is) path) e =
      record {
        left = [];
        input_left = u;
        middle = q;
        storing_moves = zero;
        later_moves = k;
        input = refl;
        stores = stored;
        turns = is;
        then = subst (λ (y : List ℕ). Matching M u y q f k) (sym (append-nil v)) (rest_of path e);
        count = omega arith;
      }
  rest_of (step {n = k} (returns_to_normal {q = q} {u = u} is) path) e =
      record { last = q; rest = u; matching_moves = zero; other_moves = k; input = refl; matches = matched; ends = is; leads = rest_of path e; count = omega arith }

  pub path_leads : {q f k : ℕ} {w : List ℕ} → Path Configuration (Yields M) (config w q [] Normal) (config [] f [] Normal) k → Leads M q w f k
  path_leads p = rest_of p refl

  -- Pieces put together

  pub leads_append : {p q f i k : ℕ} {u w : List ℕ} → Leads M p u q i → Leads M q w f k → Leads M p (u ++ w) f (i + k)
  leads_append {k = k} ended l = rw zero-add l
  leads_append {f = f} {k = k} {w = w} (read {p = p} {a = a} {k = i} {w = u} δ apart n r) l =
      subst₂ (λ (y : List ℕ) (n : ℕ). Leads M p y f n) (sym (append_assoc (symbol a) u w)) (sym (suc-add i k)) (read δ apart n (leads_append r l))
  leads_append {f = f} {k = k} {w = w} (copy {g = p} {i = i} {j = j} {k = n} {x = x} {w = u} g s h m z r) l =
      let string : x ++ (x ++ (u ++ w)) ≡ (x ++ (x ++ u)) ++ w = ap (λ (y : List ℕ). x ++ y) (sym (append_assoc x u w)) ∙ sym (append_assoc x (x ++ u) w) in
      subst₂ (λ (y : List ℕ) (n : ℕ). Leads M p y f n) string
      (let e : suc (i + suc (j + suc (n + k))) ≡ suc (i + suc (j + suc n)) + k = omega arith in e)
      (copy g s h m z (leads_append r l))

  pub stores_append : {s t h i k : ℕ} {x y : List ℕ} → Stores M s x t i → Stores M t y h k → Stores M s (x ++ y) h (i + k)
  stores_append {h = h} {k = k} {y = y} (stored {s = s}) r = subst (λ (n : ℕ). Stores M s y h n) (let e : k ≡ 0 + k = omega arith in e) r
  stores_append {h = h} {k = k} {y = y} (store {s = s} {a = a} {k = i} {x = x} δ none n q) r =
      let e : suc (i + k) ≡ suc i + k = omega arith in
      subst (λ (n : ℕ). Stores M s ((symbol a ++ x) ++ y) h n) e (subst (λ (z : List ℕ). Stores M s z h (suc (i + k))) (sym (append_assoc (symbol a) x y)) (store δ none n (stores_append q r)))

  pub matches_append : {s t z i k : ℕ} {x y : List ℕ} → Matches M s x t i → Matches M t y z k → Matches M s (x ++ y) z (i + k)
  matches_append {z = z} {k = k} {y = y} (matched {t = t}) r = subst (λ (n : ℕ). Matches M t y z n) (let e : k ≡ 0 + k = omega arith in e) r
  matches_append {z = z} {k = k} {y = y} (match {s = s} {a = a} {k = i} {x = x} δ p q o) r =
      let e : suc (i + k) ≡ suc i + k = omega arith in
      subst (λ (n : ℕ). Matches M s ((symbol a ++ x) ++ y) z n) e (subst (λ (u : List ℕ). Matches M s u z (suc (i + k))) (sym (append_assoc (symbol a) x y)) (match δ p q (matches_append o r)))
