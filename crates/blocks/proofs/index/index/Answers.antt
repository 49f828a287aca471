use native.Mathlib.Omega.{arith}
use Rattle.fsbm.specs.Rules.{rules as rules_of}
use Rattle.blocks.specs.Stretches.Laws.{keys_fit, built_turn}
use Rattle.blocks.proofs.index.index.Goals as goal

pub overflow_add-stride : goal.overflow_add-stride
overflow_add-stride c = omega (arith, (rules_of _ _ c.args.table.now.obeys).letters_fit)

pub overflow_mul-keys : goal.overflow_mul-keys
overflow_mul-keys c = omega (arith, keys_fit _ _ (rules_of _ _ c.args.table.now.obeys))

pub overflow_add-y-end : goal.overflow_add-y-end
overflow_add-y-end c = omega (arith, keys_fit _ _ (rules_of _ _ c.args.table.now.obeys))

pub seek-k-requires : goal.seek-k-requires
seek-k-requires c = let R = rules_of _ _ c.args.table.now.obeys in (omega (arith, R.letters_fit), c.loop-y.invariant.at_most, R.list_fits)

pub overflow_cast-starts : goal.overflow_cast-starts
overflow_cast-starts c = omega (arith, (rules_of _ _ c.args.table.now.obeys).transitions_fit, c.seek-k.ensures.within)

pub offset_bounds-starts-y : goal.offset_bounds-starts-y
offset_bounds-starts-y c = omega (arith, keys_fit _ _ (rules_of _ _ c.args.table.now.obeys))

pub bounds-starts-y : goal.bounds-starts-y
bounds-starts-y c = omega (arith, keys_fit _ _ (rules_of _ _ c.args.table.now.obeys))

pub loop-y-preserved : goal.loop-y-preserved
loop-y-preserved c = built_turn _ _ (rules_of _ _ c.args.table.now.obeys) _ _ _ _ c.loop-y.invariant (omega arith) c.seek-k.ensures
