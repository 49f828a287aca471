use Rattle.fsbm.specs.Rules.{rules as rules_of}
use Rattle.shortest.specs.Write.Laws.{number_below, read_ready, read_steps, copy_there, copy_ready}
use Rattle.shortest.proofs.traced.Traced.step.Goals as goal

pub find_normal-requires : goal.find_normal-requires
find_normal-requires c = number_below _ _ c.requires.searching.top_small c.requires.searching.low

pub read-requires : goal.read-requires
read-requires c = read_ready _ _ _ _ _ _ _ _ (rules_of _ _ c.args.self.now.searched.now.ready.good) c.requires.fits c.requires.word_fits c.requires.run_fits _ c.in-Some.ensures.0 c.in-Some.ensures.1

pub returns-in-Some : goal.returns-in-Some
returns-in-Some c = record { stepped = read_steps _ _ _ _ _ _ _ _ (rules_of _ _ c.args.self.now.searched.now.ready.good) c.requires.fits c.requires.word_fits c.requires.run_fits _ c.in-Some.ensures.0 c.in-Some.ensures.1 _ _ _ c.read.ensures; past = c.requires.searching.past }

pub bounds-self-p : goal.bounds-self-p
bounds-self-p c = number_below _ _ c.requires.searching.top_small c.requires.searching.low

pub guess-h-requires : goal.guess-h-requires
guess-h-requires c = (c.requires.searching, copy_there c.args.self.now.searched.now.table.machine c.args.self.now.searched.now.table.list.now c.args.self.now.weights.now.least c.args.p.state c.requires.searching.settled c.requires.positive c.requires.searching.low c.in_default.ensures)

pub copy-requires : goal.copy-requires
copy-requires c = copy_ready _ _ _ _ _ _ _ _ _ _ _ _ c.requires c.guess-h.ensures

pub returns : goal.returns
returns c = record { stepped = c.copy.ensures; past = c.guess-h.ensures.searching.past }
