use Rattle.runs.proofs.WalkCases.{known}
use Rattle.runs.proofs.walk.write_run.Goals as goal

pub invariant_of-moves : goal.invariant_of-moves
invariant_of-moves c = record { given = (known _ _ _ _ _ c.args.table.now.obeys c.requires.4 c.requires.3).given }
