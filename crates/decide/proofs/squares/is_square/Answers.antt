use Rattle.decide.proofs.SquareCases.{square_says}
use Rattle.decide.proofs.squares.is_square.Goals as goal

pub returns : goal.returns
returns c = square_says _ _ _ _ _ _ c.requires.0 c.requires.1 c.known_end.ensures
