use Rattle.std.proofs.Common.{refl}
use Rattle.tables.specs.Halves.Laws.{shared_end}
use Rattle.tables.proofs.FillCases.{zero_at}
use Rattle.tables.proofs.word.Word.fill.Goals as goal

pub loop-p-init : goal.loop-p-init
loop-p-init c = (c.fill_end.ensures _ (shared_end _ _ refl zero_at), refl)
