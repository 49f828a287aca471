use mathlib.Core.Path.{refl}
use native.Mathlib.Omega.{arith}
use Rattle.fsbm.specs.declared.config.Mode.TheVariants.{Emptying}
use Rattle.images.specs.Graph.{Free}
use Rattle.images.specs.Moves.{graph_of}
use Rattle.subsets.specs.Rows.Laws.{from_begun}
use Rattle.subsets.proofs.MemoCases.{same_join}
use Rattle.decide.proofs.CopyCases.{tailed_on, tailed_anew}
use Rattle.decide.proofs.walks.tail_to.Goals as goal

pub returns-then-tail-ready : goal.returns-then-tail-ready
returns-then-tail-ready c = (tailed_on (graph_of c.args.t.now) c.args.word.now c.args.i c.args.tail _ _ _ c.requires.1 c.if-tail-ready.true c.requires.2 c.walk_on-on.ensures.0, refl, refl, c.walk_on-on.ensures.1, c.walk_on-on.ensures.2)

pub walk_on-anew-requires : goal.walk_on-anew-requires
walk_on-anew-requires c = (c.requires.0, omega (arith, c.requires.1.from, c.requires.2), c.requires.3, c.begin-near.ensures.1)

pub returns : goal.returns
returns c = (tailed_anew (graph_of c.args.t.now) c.args.word.now c.args.i c.args.ready c.begin-near.result.set c.args.j _ (omega (arith, c.requires.1.from, c.requires.2)) (from_begun c.args.s.set c.args.t.now.matching c.args.ready c.begin-near.result.set (Free (graph_of c.args.t.now) Emptying) c.requires.4 c.begin-near.ensures.0) c.walk_on-anew.ensures.0, refl, refl, c.walk_on-anew.ensures.1, same_join c.begin-near.ensures.2 c.walk_on-anew.ensures.2)
