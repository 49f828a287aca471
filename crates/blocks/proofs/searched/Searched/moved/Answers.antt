use Rattle.blocks.specs.Works.Laws.{moved_none, moved_letter}
use Rattle.blocks.proofs.searched.Searched.moved.Goals as goal

pub returns-then-x-eq0 : goal.returns-then-x-eq0
returns-then-x-eq0 c = moved_none c.if-x-eq0.true c.stay.ensures

pub returns-else-x-eq0 : goal.returns-else-x-eq0
returns-else-x-eq0 c = moved_letter c.if-x-eq0.false c.gather.ensures
