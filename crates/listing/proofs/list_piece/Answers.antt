use native.Mathlib.Omega.{arith}
use mathlib.Core.Path.{sym}
use lib.ListN.{take}
use lib.Seq.{length-take-le}
use Rattle.listing.proofs.OutputCases.{used_fits, next_bytes}
use borrow.Author.Rules.{rules}
use Rattle.listing.proofs.list_piece.Goals as goal

pub take_piece-taken-requires : goal.take_piece-taken-requires
take_piece-taken-requires c = record { ready = c.requires.ready; line_len = (c.requires.buffers.room, c.requires.buffers.within, search rules) }

pub slice_bounds-write_piece-end-3 : goal.slice_bounds-write_piece-end-3
slice_bounds-write_piece-end-3 c = used_fits c.args.m c.args.list.now (take c.read_some-count.result c.read_some-count.new.bytes) c.args.t.held c.args.line.now c.args.out.now c.take_piece-taken.result c.take_piece-taken.new.line c.take_piece-taken.new.out c.take_piece-taken.ensures.piece_taken (omega (arith, length-take-le c.read_some-count.result c.read_some-count.new.bytes c.read_some-count.ensures, c.requires.buffers.piece, c.input-1.given, c.read_some-count.ensures))

pub slice_bounds-write_piece-end-4 : goal.slice_bounds-write_piece-end-4
slice_bounds-write_piece-end-4 c = sym (length-take-le c.take_piece-taken.result.used c.take_piece-taken.new.out (used_fits c.args.m c.args.list.now (take c.read_some-count.result c.read_some-count.new.bytes) c.args.t.held c.args.line.now c.args.out.now c.take_piece-taken.result c.take_piece-taken.new.line c.take_piece-taken.new.out c.take_piece-taken.ensures.piece_taken (omega (arith, length-take-le c.read_some-count.result c.read_some-count.new.bytes c.read_some-count.ensures, c.requires.buffers.piece, c.input-1.given, c.read_some-count.ensures))))

pub write_piece-written-requires : goal.write_piece-written-requires
write_piece-written-requires c = next_bytes c.args.m c.args.list.now (take c.read_some-count.result c.read_some-count.new.bytes) c.args.t.held c.args.line.now c.args.out.now c.take_piece-taken.result c.take_piece-taken.new.line c.take_piece-taken.new.out c.take_piece-taken.ensures.piece_taken c.args.sheet.now c.requires.read_from c.requires.held_after

pub returns : goal.returns
returns c = record { piece_listed = record { count = c.read_some-count.ensures; pending = c.take_piece-taken.ensures.piece_taken.pending; printed = c.take_piece-taken.ensures.piece_taken.printed; within = c.take_piece-taken.ensures.piece_taken.within }; working = c.take_piece-taken.ensures.working }
