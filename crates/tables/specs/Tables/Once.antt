-- known_once == what is known of a word holds in one way only, so that a type can keep it
use Rattle.std.specs.Prelude.{ℕ, List}
use Rattle.fsbm.specs.Rules.{rules}
use Rattle.fsbm.specs.declared.machine.Machine.{Machine}
use Rattle.layers.specs.Rows.Once.{given_once, row_once}
use Rattle.tables.specs.Tables.{Known}

pub known_once : (m : Machine) (list targets : List ℕ) (g h : ℕ) (w : List ℕ) → IsProp (Known m list targets g h w)
known_once m list targets g h w a = once a
  where
    once : IsProp (Known m list targets g h w)
    once = hlevel (given_once, row_once m list (rules m list a.given.good))
