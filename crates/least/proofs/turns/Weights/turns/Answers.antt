use Rattle.least.specs.Turns.Laws.{first_rounds, initial_is, turns_part, turns_buffer, turns_end, turns_less, rounds_under, limit_falls, limit_none}
use Rattle.least.proofs.turns.Weights.turns.Goals as goal

pub loop-storing-init : goal.loop-storing-init
loop-storing-init c = (c.requires.first.1, first_rounds c.args.searched.now.table.machine c.args.searched.now.table.list.now (initial_is c.args.searched.now.table.machine c.args.searched.now.table.list.now _ c.args.searched.now.sorted) c.requires.first.0, limit_none)

pub returns-then-set-eq0 : goal.returns-then-set-eq0
returns-then-set-eq0 c = (
  c.loop-storing.invariant.0,
  record {
    size = c.normal_turn-started.array_long.0;
    top = c.loop-storing.limit;
    limit = limit_falls c.normal_turn-started.ensures.down c.loop-storing.invariant.2;
    settled = turns_end c.args.searched.now.table.machine c.args.searched.now.table.list.now _ c.args.searched.now.buffers _ _ c.intersection-set.ensures _ c.if-set-eq0.true (c.normal_turn-started.ensures.rounds _ c.loop-storing.invariant.2.small c.loop-storing.invariant.1);
  },
)

pub copies-turned-requires : goal.copies-turned-requires
copies-turned-requires c = record {
  past = (c.loop-storing.invariant.0, c.loop-storing.invariant.2.small);
  entered = (c.requires.entered, turns_buffer c.args.searched.now.table.machine c.args.searched.now.table.list.now _ c.args.searched.now.buffers _ _ c.intersection-set.ensures);
}

pub loop-storing-smaller : goal.loop-storing-smaller
loop-storing-smaller c = turns_less _ _ _ c.args.searched.now.buffers _ _ c.intersection-set.ensures c.if-set-eq0.false c.normal_turn-started.ensures c.copies-turned.ensures.1

pub loop-storing-preserved : goal.loop-storing-preserved
loop-storing-preserved c =
    let t = c.copies-turned.ensures.1 in (
      c.copies-turned.ensures.0,
      t.rounds _ (turns_part c.args.searched.now.table.machine c.args.searched.now.table.list.now _ c.args.searched.now.buffers _ _ c.intersection-set.ensures)
          (rounds_under c.args.searched.now.table.machine c.args.searched.now.table.list.now _ _ t.no_larger (c.normal_turn-started.ensures.rounds _ c.loop-storing.invariant.2.small c.loop-storing.invariant.1)),
      t.keeps (limit_falls c.normal_turn-started.ensures.down c.loop-storing.invariant.2),
    )
