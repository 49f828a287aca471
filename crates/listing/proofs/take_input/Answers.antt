use mathlib.Core.Path.{refl, sym, ◌∙◌}
use mathlib.Core.Bool.{true}
use Rattle.listing.proofs.OutputCases.{reached_begin, reached_more, ready_same, done_closed, still_open}
use Rattle.listing.proofs.take_input.Goals as goal

pub loop-init : goal.loop-init
loop-init c = ((reached_begin c.args.line.now c.begin.result c.begin.ensures).0, (reached_begin c.args.line.now c.begin.result c.begin.ensures).1, refl, refl, refl, refl, c.requires.ready.1, refl, refl)

pub list_piece-t-requires : goal.list_piece-t-requires
list_piece-t-requires c = record { ready = (c.requires.ready.0, c.loop.invariant.6); read_from = c.requires.read_from; buffers = ready_same c.args.input.now c.args.line.now c.args.out.now c.loop.input c.loop.line c.loop.out _ c.loop.t.held c.requires.buffers c.loop.invariant.3 c.loop.invariant.4 c.loop.invariant.5 c.loop.invariant.1; held_after = c.loop.invariant.0; closed_value = c.loop.invariant.2 }

pub shape_of-input-then-is_done : goal.shape_of-input-then-is_done
shape_of-input-then-is_done c = c.input-1.given ∙ c.loop.invariant.3

pub shape_of-line-then-is_done : goal.shape_of-line-then-is_done
shape_of-line-then-is_done c = c.line-1.given ∙ c.loop.invariant.4

pub shape_of-out-then-is_done : goal.shape_of-out-then-is_done
shape_of-out-then-is_done c = c.out-1.given ∙ c.loop.invariant.5

pub shape_of-rows-then-is_done : goal.shape_of-rows-then-is_done
shape_of-rows-then-is_done c = c.rows-1.given ∙ c.loop.invariant.7

pub shape_of-steps-then-is_done : goal.shape_of-steps-then-is_done
shape_of-steps-then-is_done c = c.steps-1.given ∙ c.loop.invariant.8

pub returns-then-is_done : goal.returns-then-is_done
returns-then-is_done c = record { held_after = (reached_more c.args.m c.args.list.now c.loop.t.held c.loop.line c.loop.out c.list_piece-t.result c.list_piece-t.new.input c.list_piece-t.new.line c.list_piece-t.new.out c.loop.invariant.0 c.list_piece-t.ensures.piece_listed, c.list_piece-t.ensures.piece_listed.within, sym c.is_done.ensures ∙ c.if-is_done.true); working = c.list_piece-t.ensures.working }

pub loop-preserved : goal.loop-preserved
loop-preserved c = (reached_more c.args.m c.args.list.now c.loop.t.held c.loop.line c.loop.out c.list_piece-t.result c.list_piece-t.new.input c.list_piece-t.new.line c.list_piece-t.new.out c.loop.invariant.0 c.list_piece-t.ensures.piece_listed, c.list_piece-t.ensures.piece_listed.within, still_open c.list_piece-t.result c.is_done.result c.is_done.ensures c.if-is_done.false, c.input-1.given ∙ c.loop.invariant.3, c.line-1.given ∙ c.loop.invariant.4, c.out-1.given ∙ c.loop.invariant.5, c.list_piece-t.ensures.working, c.rows-1.given ∙ c.loop.invariant.7, c.steps-1.given ∙ c.loop.invariant.8)

pub shape_of-input : goal.shape_of-input
shape_of-input c = c.loop.invariant.3

pub shape_of-line : goal.shape_of-line
shape_of-line c = c.loop.invariant.4

pub shape_of-out : goal.shape_of-out
shape_of-out c = c.loop.invariant.5

pub shape_of-rows : goal.shape_of-rows
shape_of-rows c = c.loop.invariant.7

pub shape_of-steps : goal.shape_of-steps
shape_of-steps c = c.loop.invariant.8

pub returns : goal.returns
returns c = record { held_after = (c.loop.invariant.0, c.loop.invariant.1, done_closed (record { held = c.loop.t.held; count = c.loop.t.count; closed = true }) refl); working = c.loop.invariant.6 }
