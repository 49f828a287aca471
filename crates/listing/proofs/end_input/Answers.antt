use mathlib.Core.Path.{sym}
use lib.Seq.{length-take-le}
use Rattle.listing.proofs.OutputCases.{last_fits, last_bytes}
use Rattle.listing.proofs.end_input.Goals as goal

pub slice_bounds-write_end-end : goal.slice_bounds-write_end-end
slice_bounds-write_end-end c = last_fits c.args.m c.args.list.now c.args.line.now c.args.out.now c.finish-used.new.out c.args.t c.finish-used.result c.finish-used.ensures c.requires.held_after.2

pub slice_bounds-write_end-end-2 : goal.slice_bounds-write_end-end-2
slice_bounds-write_end-end-2 c = sym (length-take-le c.finish-used.result c.finish-used.new.out (last_fits c.args.m c.args.list.now c.args.line.now c.args.out.now c.finish-used.new.out c.args.t c.finish-used.result c.finish-used.ensures c.requires.held_after.2))

pub write_end-requires : goal.write_end-requires
write_end-requires c = last_bytes c.args.m c.args.list.now c.args.line.now c.args.out.now c.finish-used.new.out c.args.t c.finish-used.result c.finish-used.ensures c.args.sheet.now c.requires.read_from c.requires.held_after.0 c.requires.held_after.3 c.if-t.false
