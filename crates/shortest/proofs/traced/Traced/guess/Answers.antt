use Rattle.shortest.specs.Write.Laws.{guess_next, guess_found, guess_end}
use Rattle.shortest.proofs.traced.Traced.guess.Goals as goal

pub returns-then-try_guess : goal.returns-then-try_guess
returns-then-try_guess c = guess_found _ _ _ _ _ _ c.args.self.now.searched.now.ready.good c.args.self.now.searched.now.buffers c.args.self.now.turnings c.from-first.result _ _ _ c.requires.1 c.try_guess.ensures c.if-try_guess.true

pub loop-k-preserved : goal.loop-k-preserved
loop-k-preserved c = guess_next _ _ _ _ _ _ c.args.self.now.searched.now.ready.good c.args.self.now.searched.now.buffers c.args.self.now.turnings _ _ _ _ _ c.loop-k.invariant c.try_guess.ensures c.if-try_guess.false

pub unreachable-requires : goal.unreachable-requires
unreachable-requires c = guess_end _ _ _ _ _ _ c.args.self.now.searched.now.ready.good c.args.self.now.searched.now.buffers c.args.self.now.turnings _ _ _ c.requires.1 c.loop-k-test.false c.loop-k.invariant
