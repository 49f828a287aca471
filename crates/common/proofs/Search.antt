-- What settled least weights of the product say of common words.
--
-- bound_small          == the longest run that is needed has fewer entries than a letter weighs
-- common_leads, leads_common == an accepting run of the first machine on a common word as pieces of the product, and pieces of the product as a common word
-- fewest               == pieces of the product from an initial to a final state read no fewer letters than a shortest common word has
-- found                == the least weight at a final state, below top: its letters are least_common, and the first run fits in the length stated for it
-- none                 == no number at a final state below top, which is 2⁵² at least: there is no common word
use Rattle.std.specs.Prelude.{ℕ, suc, ◌+◌, ◌*◌, ◌/◌, ◌%◌, ◌≤◌, ◌<◌, ◌≡◌, true, List, ◌++◌, length}
use Rattle.std.proofs.Common.{sym, ◌∙◌, arith, mul-le-mul}
use Rattle.std.proofs.Math.Decide.{dec_le, dec_lt}
use Rattle.graphs.specs.Cost.{Settled}
use Rattle.graphs.specs.Cost.Laws.{lower_bound}
use Rattle.graphs.specs.Back.{Back}
use Rattle.graphs.specs.Back.Laws.{route_back}
use Rattle.fsbm.specs.Accepted.{run_bound}
use Rattle.fsbm.specs.Accepted.Laws.{accepted_true}
use Rattle.fsbm.specs.Published.{FSBM, fsbm_of}
use Rattle.fsbm.specs.declared.machine.Machine.{Machine}
use Rattle.language.specs.Agreement.{accepting_path, path_run}
use Rattle.language.specs.Bound.{accepted_iff_published}
use Rattle.product.specs.Product.{joined_transitions, joined_machine, join_fault}
use Rattle.product.specs.Tables.{joinable}
use Rattle.product.specs.WellFormed.{joined_well_formed}
use Rattle.product.specs.Common.{splits_join}
use Rattle.pieces.specs.Pieces.{Leads}
use Rattle.pieces.specs.Pieces.Laws.{path_leads, leads_path}
use Rattle.pieces.specs.Pairs.{unit, Piece}
use Rattle.pieces.proofs.PairsLaws.{leads_route}
use Rattle.pieces.specs.Bound.{word_bound}
use Rattle.pieces.proofs.Tight.{settled_leads}
use Rattle.common.specs.Common.{is_common, least_common}
use Rattle.common.proofs.CommonLaws.{common_parts, common_joined, least_common_lem, no_shorter, any_common}

pub bound_small : (m : Machine) (n : ℕ) → m.states ≤ 64 → n ≤ word_bound → run_bound m n < unit
unfolding run_bound
bound_small m n few short =
    let a : 3 * m.states ≤ 192 = omega arith in
    let b : n + 1 ≤ 515971 = omega arith in
    let k = mul-le-mul a b in
    omega arith

module _ (m₁ : Machine) (l₁ : List ℕ) (m₂ : Machine) (l₂ : List ℕ) (fine : join_fault m₁ l₁ m₂ l₂ ≡ 0) (rest : List ℕ) where
  abbrev J : Machine
  J = joined_machine m₁ l₁ m₂ l₂

  abbrev L : List ℕ
  L = joined_transitions m₁ l₁ m₂ l₂ ++ rest

  abbrev M : FSBM
  M = fsbm_of J L

  pub leads_common : {q f k : ℕ} {w : List ℕ} → M.I q → M.F f → Leads M q w f k → is_common m₁ l₁ m₂ l₂ w ≡ true
  leads_common {q} {f} {w = w} i last l =
      sym (common_joined m₁ l₁ m₂ l₂ fine rest w)
      ∙ (accepted_iff_published J L w (joined_well_formed m₁ l₁ m₂ l₂ fine rest)).1
      (record { first = q; last = f; first_initial = i; last_final = last; run = (path_run J L (leads_path l)).0 })

  pub common_leads : (w : List ℕ) → is_common m₁ l₁ m₂ l₂ w ≡ true → (q f k : ℕ) × M.I q × M.F f × Leads M q w f k × (suc k ≤ run_bound m₁ (length w))
  common_leads w c =
      let (t₁, t₂) = (common_parts m₁ l₁ m₂ l₂ fine w).0 c in
      let (run₁, fits, below₁, a₁) = (accepted_true m₁ l₁ w).0 t₁ in
      let (run₂, fits₂, below₂, a₂) = (accepted_true m₂ l₂ w).0 t₂ in
      let (run, same, below, a) = splits_join m₁ l₁ m₂ l₂ fine rest w run₁ run₂ a₁ a₂ in
      let (q, f, n, size, i, last, p) = accepting_path J L w run a in
      (q, f, n, i, last, path_leads p, omega arith)

  pub fewest : (f : ℕ) → M.F f → (q : ℕ) (w : List ℕ) (k : ℕ) → M.I q → Leads M q w f k → least_common m₁ l₁ m₂ l₂ ≤ length w
  fewest f last q w k i l = no_shorter m₁ l₁ m₂ l₂ fine w (leads_common i last l)

  module _ {top : ℕ} {D : ℕ → ℕ} (s : Settled (Back (Piece M)) M.I top D) where
    -- a number below top at a final state is at most the weight of each way there
    at_most : {q f k : ℕ} {w : List ℕ} → M.I q → Leads M q w f k → length w * unit + k < top → D f ≤ length w * unit + k
    at_most {q} {f} i l below = lower_bound s {u = f} (record { goal = q; is_goal = i; route = route_back (Piece M) (leads_route l) }) below

    -- some final state is reached by a word of least_common letters, in few enough moves
    least_leads : least_common m₁ l₁ m₂ l₂ ≤ word_bound
        → (q f k : ℕ) × (w : List ℕ) × M.I q × M.F f × Leads M q w f k × (length w ≡ least_common m₁ l₁ m₂ l₂) × (suc k ≤ run_bound m₁ (least_common m₁ l₁ m₂ l₂))
    least_leads h =
        let (w, e, c) = least_common_lem m₁ l₁ m₂ l₂ fine h in
        let (q, f, k, i, last, l, fits) = common_leads w c in
        (q, f, k, w, i, last, l, e, rw e at fits)

    pub found : (f : ℕ) → M.F f → D f < top → ((g : ℕ) → M.F g → D f ≤ D g)
        → (least_common m₁ l₁ m₂ l₂ ≤ word_bound) × (D f / unit ≡ least_common m₁ l₁ m₂ l₂) × (D f % unit + 1 ≤ run_bound m₁ (least_common m₁ l₁ m₂ l₂)) × (run_bound m₁ (least_common m₁ l₁ m₂ l₂) < unit)
    found f last below least =
        let (p, w, k, i, l, e) = settled_leads s f below in
        let c = leads_common i last l in
        let within = (any_common m₁ l₁ m₂ l₂ fine).1 (w, c) in
        let short = no_shorter m₁ l₁ m₂ l₂ fine w c in
        let (q, g, n, v, i', last', l', same, fits) = least_leads within in
        let up = under l' i' (least g last') (dec_lt (length v * unit + n) top) in
        let small = bound_small m₁ (least_common m₁ l₁ m₂ l₂) (joinable m₁ l₁ m₂ l₂ fine).first.states_fit within in
        let letters : length w ≡ least_common m₁ l₁ m₂ l₂ = omega arith in
        (within, omega arith, omega arith, small)
      where
        under : {q g n : ℕ} {v : List ℕ} → Leads M q v g n → M.I q → D f ≤ D g → Dec (length v * unit + n < top) → D f ≤ length v * unit + n
        under l i h (yes b) = let z = at_most i l b in omega arith
        under l i h (no b) = omega arith

    pub none : 4503599627370496 ≤ top → ((f : ℕ) → M.F f → top ≤ D f) → word_bound < least_common m₁ l₁ m₂ l₂
    none large all = at (dec_le (least_common m₁ l₁ m₂ l₂) word_bound)
      where
        at : Dec (least_common m₁ l₁ m₂ l₂ ≤ word_bound) → word_bound < least_common m₁ l₁ m₂ l₂
        at (no h) = omega arith
        at (yes h) =
            let (q, f, k, w, i, last, l, e, fits) = least_leads h in
            let small = bound_small m₁ (least_common m₁ l₁ m₂ l₂) (joinable m₁ l₁ m₂ l₂ fine).first.states_fit h in
            let low = at_most i l (omega arith) in
            let high = all f last in
            absurd (omega arith)
