use Prim.Native.Nat.{◌+◌}
use native.Mathlib.Omega.{arith}
use Rattle.fsbm.specs.Rules.{rules as rules_of}
use Rattle.product.proofs.WriteCases.{meet, meeting_searching, pairing_start, pairing_at, pairing_below, pairing_moving, pairing_room, pairing_next, pairing_end}
use Rattle.product.proofs.write.write_pair.Goals as goal

pub overflow_cast-state : goal.overflow_cast-state
overflow_cast-state c = omega (arith, (rules_of _ _ c.args.f.now.second.table.now.obeys).states_fit, c.requires.p_lt_states.1)

pub common_letters-letters-requires : goal.common_letters-letters-requires
common_letters-letters-requires c = (
  omega (arith, (rules_of _ _ c.args.f.now.first.table.now.obeys).states_fit, c.requires.p_lt_states.0),
  omega (arith, (rules_of _ _ c.args.f.now.second.table.now.obeys).states_fit, c.requires.p_lt_states.1),
)

pub next_move-next-requires : goal.next_move-next-requires
next_move-next-requires c = meeting_searching c.args.f.now (meet c.args.f.now c.common_letters-letters.result c.requires.block c.requires.p_lt_states c.common_letters-letters.ensures) c.args.span.now.start (omega arith) c.requires.block.low

pub loop-next-init : goal.loop-next-init
loop-next-init c = pairing_start c.args.f.now (meet c.args.f.now c.common_letters-letters.result c.requires.block c.requires.p_lt_states c.common_letters-letters.ensures) c.args.k c.args.list.now c.requires.r_in_bounds c.next_move-next.result c.next_move-next.ensures

pub transition-t-requires : goal.transition-t-requires
transition-t-requires c = omega (arith, pairing_below c.args.f.now (meet c.args.f.now c.common_letters-letters.result c.requires.block c.requires.p_lt_states c.common_letters-letters.ensures) (pairing_at c.args.f.now c.in-Some.is c.loop-next.invariant), c.requires.block.high)

pub write_moves-at-requires : goal.write_moves-at-requires
write_moves-at-requires c =
    record {
      moving = pairing_moving c.args.f.now (meet c.args.f.now c.common_letters-letters.result c.requires.block c.requires.p_lt_states c.common_letters-letters.ensures) (pairing_at c.args.f.now c.in-Some.is c.loop-next.invariant) c.transition-t.result c.transition-t.ensures;
      t_in_bounds = pairing_room c.args.f.now (meet c.args.f.now c.common_letters-letters.result c.requires.block c.requires.p_lt_states c.common_letters-letters.ensures) (pairing_at c.args.f.now c.in-Some.is c.loop-next.invariant) c.transition-t.result c.transition-t.ensures;
    }

pub next_move-next-requires-in-Some : goal.next_move-next-requires-in-Some
next_move-next-requires-in-Some c =
    let s = (pairing_at c.args.f.now c.in-Some.is c.loop-next.invariant) in
    let low = s.low in
    let below = pairing_below c.args.f.now (meet c.args.f.now c.common_letters-letters.result c.requires.block c.requires.p_lt_states c.common_letters-letters.ensures) s in
    meeting_searching c.args.f.now (meet c.args.f.now c.common_letters-letters.result c.requires.block c.requires.p_lt_states c.common_letters-letters.ensures) (c.in-Some.i + 1) (omega arith) (omega arith)

pub loop-next-preserved : goal.loop-next-preserved
loop-next-preserved c =
    pairing_next c.args.f.now (meet c.args.f.now c.common_letters-letters.result c.requires.block c.requires.p_lt_states c.common_letters-letters.ensures) (pairing_at c.args.f.now c.in-Some.is c.loop-next.invariant) c.transition-t.result c.transition-t.ensures _ c.write_moves-at.result c.next_move-next-in-Some.result c.write_moves-at.ensures.list_after
    c.write_moves-at.ensures.value c.next_move-next-in-Some.ensures

pub returns : goal.returns
returns c = let answer = pairing_end c.args.f.now (pairing_at c.args.f.now c.in_default.is c.loop-next.invariant) in record { list_after = answer.0; value = answer.1 }
