use borrow.Author.Tests.{le-leb, lt-leb, lt-ltb, le-ltb}
use Rattle.fsbm.specs.Moves.{well_placed}
use Rattle.basics.specs.Search.Loops.{pass, stop}
use Rattle.fsbm.proofs.config.Config.is_well_placed.Goals as goal

pub returns-then-n-self : goal.returns-then-n-self
unfolding well_placed
returns-then-n-self c = stop _ (lt-leb _ _ c.if-n-self.true)

pub returns-then-states-self : goal.returns-then-states-self
unfolding well_placed
returns-then-states-self c = pass (le-leb _ _ c.if-n-self.false) (stop _ (le-ltb _ _ c.if-states-self.true))

pub returns-then-self : goal.returns-then-self
unfolding well_placed
returns-then-self c = pass (le-leb _ _ c.if-n-self.false) (pass (lt-ltb _ _ c.if-states-self.false) (stop _ (lt-leb _ _ c.if-self.true)))

pub returns-then-self-2 : goal.returns-then-self-2
unfolding well_placed
returns-then-self-2 c = pass (le-leb _ _ c.if-n-self.false) (pass (lt-ltb _ _ c.if-states-self.false) (pass (le-leb _ _ c.if-self.false) (stop _ (lt-leb _ _ c.if-self-2.true))))

pub returns : goal.returns
unfolding well_placed
returns c = pass (le-leb _ _ c.if-n-self.false) (pass (lt-ltb _ _ c.if-states-self.false) (pass (le-leb _ _ c.if-self.false) (pass (le-leb _ _ c.if-self-2.false) c.buffer_fits.ensures)))
