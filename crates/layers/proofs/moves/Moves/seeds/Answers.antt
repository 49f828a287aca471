use Rattle.std.proofs.Common.{arith}
use Rattle.fsbm.specs.Rules.{rules as rules_of}
use Rattle.layers.proofs.LayerCases.{seed_start, seed_joined}
use Rattle.layers.proofs.moves.Moves.seeds.Goals as goal
use Rattle.layers.proofs.moves.Moves.seeds.Goals.{then-is_final, else-is_final}

pub loop-q-init : goal.loop-q-init
loop-q-init c = seed_start _ _ c.blank-row.ensures

pub loop-q-preserved : goal.loop-q-preserved
loop-q-preserved c =
    let joined = seed_joined _ _ _ (omega (arith, (rules_of _ _ c.args.self.now.table.obeys).states_fit)) c.loop-q.invariant _ c.is_final.ensures in
    elim c.if-is_final.branch [
      | then-is_final w ↦ joined.0 w.if-is_final.true _ w.row-is
      | else-is_final w ↦ joined.1 w.if-is_final.false _ w.row-is
    ]
