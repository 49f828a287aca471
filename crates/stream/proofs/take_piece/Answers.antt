use mathlib.Core.Path.{refl, ◌∙◌}
use native.Mathlib.Omega.{arith}
use Rattle.stream.proofs.PieceCases.{piece_none, piece_lent, piece_more, piece_done}
use Rattle.stream.proofs.take_piece.Goals as goal

pub loop-b-init : goal.loop-b-init
loop-b-init c = (omega arith, piece_none c.args.m c.args.list.now c.args.piece.now c.args.held c.args.line.now c.args.out.now c.requires.line_len.1, refl, refl, c.requires.ready.1, refl, refl)

pub take_byte-p-requires : goal.take_byte-p-requires
take_byte-p-requires c = record { ready = (c.requires.ready.0, c.loop-b.invariant.4); lent = piece_lent c.args.m c.args.list.now c.args.piece.now c.args.held c.args.line.now c.args.out.now c.loop-b.b-index c.loop-b.p c.loop-b.line c.loop-b.out c.loop-b.invariant.1 c.loop-b-test.true c.requires.line_len.2 (c.loop-b.invariant.2 ∙ c.requires.line_len.0) c.loop-b.invariant.3 }

pub loop-b-preserved : goal.loop-b-preserved
loop-b-preserved c = (omega arith, piece_more c.args.m c.args.list.now c.args.piece.now c.args.held c.args.line.now c.args.out.now c.loop-b.b-index c.loop-b.p c.loop-b.line c.loop-b.out c.loop-b.invariant.1 c.loop-b-test.true c.requires.line_len.2 c.take_byte-p.result c.take_byte-p.new.line c.take_byte-p.new.out c.take_byte-p.ensures.byte_taken, c.line-1.given ∙ c.loop-b.invariant.2, c.out-1.given ∙ c.loop-b.invariant.3, c.take_byte-p.ensures.working, c.rows-1.given ∙ c.loop-b.invariant.5, c.steps-1.given ∙ c.loop-b.invariant.6)

pub shape_of-line : goal.shape_of-line
shape_of-line c = c.loop-b.invariant.2

pub shape_of-out : goal.shape_of-out
shape_of-out c = c.loop-b.invariant.3

pub shape_of-rows : goal.shape_of-rows
shape_of-rows c = c.loop-b.invariant.5

pub shape_of-steps : goal.shape_of-steps
shape_of-steps c = c.loop-b.invariant.6

pub returns : goal.returns
returns c = record { piece_taken = piece_done c.args.m c.args.list.now c.args.piece.now c.args.held c.args.line.now c.args.out.now c.loop-b.b-index c.loop-b.p c.loop-b.line c.loop-b.out c.loop-b.invariant.1 c.loop-b-test.false; working = c.loop-b.invariant.4 }
