use Prim.Native.Nat.{ℕ, ◌+◌}
use mathlib.Core.Path.{sym, ap, ◌∙◌}
use lib.Dec.{eqb}
use borrow.Author.Tests.{eq-eqb, eqb-true}
use Rattle.basics.specs.Search.Laws.{not_both}
use Rattle.pieces.specs.Blocks.{cell}
use Rattle.shortest.specs.Write.Laws.{number_below, tried_not, tried_block}
use Rattle.shortest.proofs.traced.Traced.try_guess.Goals as goal

pub returns-then-not-member : goal.returns-then-not-member
returns-then-not-member c = tried_not _ _ _ _ _ _ c.args.self.now.searched.now.ready.good c.args.self.now.searched.now.buffers c.args.self.now.turnings _ _ c.requires.0 (λ i. not_both (eq-eqb _ _ i) (sym c.member.ensures ∙ c.if-not-member.true))

pub number-requires : goal.number-requires
number-requires c = (c.requires.1, number_below _ _ c.requires.0.top_small c.requires.0.low)

pub returns : goal.returns
returns c = tried_block _ _ _ _ _ _ c.args.self.now.searched.now.ready.good c.args.self.now.searched.now.buffers c.args.self.now.turnings _ _ _ _ c.requires.0 (eqb-true _ _ (sym c.member.ensures ∙ c.if-not-member.false)) c.block.ensures
    (c.makes.ensures ∙ (ap (λ (v : ℕ). eqb (v + 2) c.cost.result) c.number.ensures ∙ ap (λ (v : ℕ). eqb (cell c.block.new.pairs.numbers c.args.h c.args.q + 2) v) c.cost.ensures))
