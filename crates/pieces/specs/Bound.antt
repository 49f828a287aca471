-- How long a shortest word can be. The law stands in specs/Bound/Laws.antt.
--
-- word_bound            == 515,970 letters: a route of pairs with distinct nodes has fewer moves than there are pairs of states, each of them
--                         reads at most one letter in both halves, and a route of pieces with distinct nodes has fewer pieces than states
use Rattle.std.specs.Prelude.{ℕ, ◌*◌, ◌-◌}
use Rattle.pieces.specs.Pairs.{halves}
use Rattle.pieces.specs.Blocks.{most_states}

abbrev pub word_bound : ℕ
word_bound = (most_states - 1) * (most_states * most_states - 1) * halves
