use Rattle.basics.specs.Search.Laws.{not_both}
use Rattle.images.proofs.SetCases.{members_is}
use Rattle.decide.proofs.SquareCases.{turning_none, turning_some, turning_apart}
use Rattle.decide.proofs.squares.turning.Goals as goal

pub returns-then-ready-eq0 : goal.returns-then-ready-eq0
returns-then-ready-eq0 c = turning_none _ _ _ _ _ _ _ (members_is c.intersection-ready.ensures) c.if-ready-eq0.true

pub returns-then-is_square : goal.returns-then-is_square
returns-then-is_square c = turning_some _ _ _ _ _ _ _ (members_is c.intersection-ready.ensures) _ c.is_square.ensures.kept (c.is_square.ensures.says.0 c.if-is_square.true)

pub returns-else-is_square : goal.returns-else-is_square
returns-else-is_square c = turning_apart _ _ _ _ _ _ _ (members_is c.intersection-ready.ensures) _ c.is_square.ensures.kept (λ m. not_both (c.is_square.ensures.says.1 m) c.if-is_square.false)
