-- The states that the runs on a word reach at each position in each mode. The laws stand in specs/Reaches/Laws.antt; the ties to the
-- published definition in language/specs/Reaches.antt.
--
-- same_mode s t                == s and t are the same mode (a Bool)
-- is_at p t q c                == the configuration c has the position p, the mode t and the state q
-- leads_from m list w p t q c es == the entries es lead from c to such a configuration
-- leads m list w p t q run    == the written run, an initial state and then entries, leads to such a configuration
-- reaches m list w p t q      == some written run of m on w leads to such a configuration
-- Reachable M w p t q         == some run of the published definition on w gets to state q in mode t with all but the first p letters of w left
use Rattle.std.specs.Prelude.{ℕ, ◌≤◌, List, [], ◌∷◌, Bool, false, ◌&&◌, length, drop, ltb, eqb}
use Rattle.basics.specs.Search.{exists_list}
use Rattle.fsbm.specs.Machine.{initial}
use Rattle.fsbm.specs.Moves.{mode_number, move, start_at}
use Rattle.fsbm.specs.Accepted.{run_bound}
use Rattle.fsbm.specs.Published.{FSBM, config, Run}
use Rattle.fsbm.specs.declared.machine.Machine.{Machine}
use Rattle.fsbm.specs.declared.config.Config.{Config}
use Rattle.fsbm.specs.declared.config.Mode.{Mode}
use Rattle.fsbm.specs.declared.config.Mode.TheVariants.{Normal}
pub mod Laws

abbrev pub same_mode : Mode → Mode → Bool
same_mode s t = eqb (mode_number s) (mode_number t)

abbrev pub is_at : ℕ → Mode → ℕ → Config → Bool
is_at p t q c = eqb c.position p && (same_mode c.mode t && eqb c.state q)

-- each entry is an allowed move from where those before it lead
unfoldable pub leads_from : Machine → List ℕ → List ℕ → ℕ → Mode → ℕ → Config → List ℕ → Bool
leads_from m list w p t q c [] = is_at p t q c
leads_from m list w p t q c (e ∷ es) = (move m list w c e).allowed && leads_from m list w p t q (move m list w c e).config es

unfoldable pub leads : Machine → List ℕ → List ℕ → ℕ → Mode → ℕ → List ℕ → Bool
leads m list w p t q [] = false
leads m list w p t q (o ∷ es) = ltb o m.states && (initial m.marks o && leads_from m list w p t q (start_at o) es)

-- a search through all written runs of at most run_bound entries, each a 16-bit number: no more are needed (reaches_iff_run). It is never computed.
pub reaches : Machine → List ℕ → List ℕ → ℕ → Mode → ℕ → Bool
reaches m list w p t q = exists_list 65536 (run_bound m (length w)) (leads m list w p t q)

-- whatever is in the buffer
pub record Reachable (M : FSBM) (w : List ℕ) (p : ℕ) (t : Mode) (q : ℕ) : Type 0 where
  pub first : ℕ
  pub first_initial : M.I first
  pub within : p ≤ length w
  pub buffer : List ℕ
  pub run : Run M (config w first [] Normal) (config (drop p w) q buffer t)
