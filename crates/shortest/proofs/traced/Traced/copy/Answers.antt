use native.Mathlib.Omega.{arith}
use Prim.Native.Nat.{◌-◌}
use lib.ListN.{length-set}
use Rattle.shortest.specs.Copy.Whole.{copy_going, copy_first, copy_finished, copy_done}
use Rattle.shortest.proofs.traced.Traced.copy.Goals as goal

pub overflow_sub-run : goal.overflow_sub-run
overflow_sub-run c = let f = copy_first _ _ _ _ _ _ _ _ _ _ c.args.self.now.searched.now.ready.good c.requires in omega arith

pub bounds-run-p : goal.bounds-run-p
bounds-run-p c = let f = copy_first _ _ _ _ _ _ _ _ _ _ c.args.self.now.searched.now.ready.good c.requires in omega (arith, c.requires.run_fits)

pub overflow_sub-end : goal.overflow_sub-end
overflow_sub-end c = let f = copy_first _ _ _ _ _ _ _ _ _ _ c.args.self.now.searched.now.ready.good c.requires in omega arith

pub walk_back-w-requires : goal.walk_back-w-requires
walk_back-w-requires c = copy_going _ _ _ _ _ _ _ _ _ _ c.args.self.now.searched.now.ready.good c.requires

pub overflow_sub-e : goal.overflow_sub-e
overflow_sub-e c = let f = copy_finished _ _ _ _ _ _ _ _ _ _ c.args.self.now.searched.now.ready.good c.requires _ _ _ _ c.walk_back-w.ensures in omega (arith, f.entries_room)

pub offset_bounds-run-e : goal.offset_bounds-run-e
offset_bounds-run-e c = let f = copy_finished _ _ _ _ _ _ _ _ _ _ c.args.self.now.searched.now.ready.good c.requires _ _ _ _ c.walk_back-w.ensures in omega (arith, f.run_bound, c.well_formed)

pub bounds-run-e : goal.bounds-run-e
bounds-run-e c = let f = copy_finished _ _ _ _ _ _ _ _ _ _ c.args.self.now.searched.now.ready.good c.requires _ _ _ _ c.walk_back-w.ensures in omega (arith, f.entries_room, f.run_fits)

pub overflow_sub-p : goal.overflow_sub-p
overflow_sub-p c = let f = copy_finished _ _ _ _ _ _ _ _ _ _ c.args.self.now.searched.now.ready.good c.requires _ _ _ _ c.walk_back-w.ensures in omega (arith, f.letters_fit)

pub again-requires : goal.again-requires
again-requires c = let f = copy_finished _ _ _ _ _ _ _ _ _ _ c.args.self.now.searched.now.ready.good c.requires _ _ _ _ c.walk_back-w.ensures in (omega (arith, f.letters, f.letters_room), omega (arith, f.word_fits, f.letters_fit))

pub unload-requires : goal.unload-requires
unload-requires c = let f = copy_finished _ _ _ _ _ _ _ _ _ _ c.args.self.now.searched.now.ready.good c.requires _ _ _ _ c.walk_back-w.ensures in (omega (arith, f.kept_few), omega (arith, f.entries_room), omega (arith, f.run_fits, length-set c.walk_back-w.new.run (c.walk_back-w.result.entry - 1) 65534))

pub overflow_sub-f : goal.overflow_sub-f
overflow_sub-f c = let f = copy_finished _ _ _ _ _ _ _ _ _ _ c.args.self.now.searched.now.ready.good c.requires _ _ _ _ c.walk_back-w.ensures in omega (arith, f.entries_room)

pub overflow_sub-f-2 : goal.overflow_sub-f-2
overflow_sub-f-2 c = let f = copy_finished _ _ _ _ _ _ _ _ _ _ c.args.self.now.searched.now.ready.good c.requires _ _ _ _ c.walk_back-w.ensures in omega (arith, f.entries_room)

pub offset_bounds-run-f : goal.offset_bounds-run-f
offset_bounds-run-f c = let f = copy_finished _ _ _ _ _ _ _ _ _ _ c.args.self.now.searched.now.ready.good c.requires _ _ _ _ c.walk_back-w.ensures in omega (arith, f.entries_room, f.run_bound, c.well_formed)

pub bounds-run-f : goal.bounds-run-f
bounds-run-f c = let f = copy_finished _ _ _ _ _ _ _ _ _ _ c.args.self.now.searched.now.ready.good c.requires _ _ _ _ c.walk_back-w.ensures in omega (arith, f.entries_room, f.run_fits, c.unload.ensures.size, length-set c.walk_back-w.new.run (c.walk_back-w.result.entry - 1) 65534)

pub overflow_sub-result : goal.overflow_sub-result
overflow_sub-result c = let f = copy_finished _ _ _ _ _ _ _ _ _ _ c.args.self.now.searched.now.ready.good c.requires _ _ _ _ c.walk_back-w.ensures in omega (arith, f.letters_fit)

pub overflow_sub-result-2 : goal.overflow_sub-result-2
overflow_sub-result-2 c = let f = copy_finished _ _ _ _ _ _ _ _ _ _ c.args.self.now.searched.now.ready.good c.requires _ _ _ _ c.walk_back-w.ensures in omega (arith, f.letters, f.letters_room)

pub shape_of-run : goal.shape_of-run
shape_of-run c = (copy_done _ _ _ _ _ _ _ _ _ _ c.args.self.now.searched.now.ready.good c.requires _ _ _ _ c.walk_back-w.ensures _ c.again.ensures _ c.unload.ensures).run_size

pub returns : goal.returns
returns c = copy_done _ _ _ _ _ _ _ _ _ _ c.args.self.now.searched.now.ready.good c.requires _ _ _ _ c.walk_back-w.ensures _ c.again.ensures _ c.unload.ensures
