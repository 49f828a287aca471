use Rattle.std.proofs.Common.{◌≡◌, ℕ, ◌+◌, ◌-◌, ap, refl, subst, arith}
use Rattle.fsbm.specs.declared.config.Move.{Move}
use Rattle.runs.specs.Walk.{Written}
use Rattle.runs.specs.Walk.Laws.{walk_start, walk_next, walk_end}
use Rattle.runs.proofs.WalkCases.{walk_entry, walk_refresh}
use Rattle.runs.proofs.lookup.Lookup.walk.Goals as goal

pub loop-d-init : goal.loop-d-init
loop-d-init c =
    let z : 1 + c.args.moves - c.args.moves ≡ 1 = omega arith in
    (rw z (walk_start c.args.self.now.word.moves.table.machine c.args.self.now.word.moves.table.list.now c.args.self.now.word.sets.now c.args.self.now.word.letters.now c.args.self.now.positions.now _ _ c.args.run.now c.args.q c.args.moves c.requires.0 c.requires.1 c.requires.2 c.requires.3 c.requires.4 c.requires.5 c.requires.6 c.requires.7 _ c.start_at-c.ensures), omega arith)

pub entry-e-requires : goal.entry-e-requires
entry-e-requires c =
    let f = walk_entry c.args.self.now.word.moves.table.machine c.args.self.now.word.moves.table.list.now c.args.self.now.word.sets.now c.args.self.now.word.letters.now c.args.self.now.positions.now _ _ _ _ _ _ _ c.loop-d-test.true c.loop-d.invariant.0 in
    (c.loop-d.invariant.0.placed_there, c.loop-d.invariant.0.ready, f.0, f.1)

pub refresh-requires : goal.refresh-requires
refresh-requires c = walk_refresh c.args.self.now.word.moves.table.machine c.args.self.now.word.moves.table.list.now c.args.self.now.word.sets.now c.args.self.now.word.letters.now c.args.self.now.word.moves.table.obeys c.args.self.now.positions.now _ _ _ _ _ _ _ c.loop-d-test.true c.loop-d.invariant.0 c.entry-e.ensures _ (c.moved-v.ensures c.args.self.now.word.moves.table.machine refl refl refl)

pub loop-d-preserved : goal.loop-d-preserved
loop-d-preserved c =
    let here : c.args.moves - (c.loop-d.d - 1) ≡ 1 + c.args.moves - c.loop-d.d = omega arith in
    let next : 1 + c.args.moves - (c.loop-d.d - 1) ≡ 1 + c.args.moves - c.loop-d.d + 1 = omega arith in
    (rw (here, next) (walk_next c.args.self.now.word.moves.table.machine c.args.self.now.word.moves.table.list.now c.args.self.now.word.sets.now c.args.self.now.word.letters.now c.args.self.now.positions.now _ _ _ _ _ _ _ _ _ _ c.args.self.now.word.moves.table.obeys c.loop-d-test.true c.loop-d.invariant.0 c.entry-e.ensures _ (ap (λ (z : Move). z.config) (c.moved-v.ensures c.args.self.now.word.moves.table.machine refl refl refl)) c.refresh.ensures), omega arith)

pub returns : goal.returns
returns c =
    let z : 1 + c.args.moves - c.loop-d.d ≡ 1 + c.args.moves = omega arith in
    subst (λ (k : ℕ). Written c.args.self.now.word.moves.table.machine c.args.self.now.word.moves.table.list.now c.args.self.now.word.letters.now k c.args.run.now c.loop-d.run) z
    (walk_end c.args.self.now.word.moves.table.machine c.args.self.now.word.moves.table.list.now c.args.self.now.word.sets.now c.args.self.now.word.letters.now c.args.self.now.positions.now _ _ c.args.run.now _ _ _ _ _ c.args.q refl c.loop-d-test.false c.loop-d.invariant.0)
