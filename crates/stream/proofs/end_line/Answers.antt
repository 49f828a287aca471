use Prim.Native.Nat.{◌+◌}
use mathlib.Core.Path.{refl, sym}
use lib.Seq.{length-take-le}
use lib.ListN.{take}
use Rattle.stream.proofs.PieceCases.{line_printed}
use native.Mathlib.Omega.{arith}
use Rattle.stream.proofs.end_line.Goals as goal

pub slice_bounds-answer_line-end : goal.slice_bounds-answer_line-end
slice_bounds-answer_line-end c = sym (length-take-le c.args.p.held.kept c.args.line.now c.requires.kept_in_bounds.0)

pub overflow_add-result : goal.overflow_add-result
overflow_add-result c = omega (arith, c.requires.kept_in_bounds.2, c.well_formed)

pub returns : goal.returns
returns c = record { value = (refl, line_printed c.args.m c.args.list.now (take c.args.p.held.kept c.args.line.now) c.args.out.now c.write_line.new.out c.args.p.used (c.args.p.held.words + 1) c.answer_line-answer.result c.answer_line-answer.ensures.0 c.write_line.ensures); working = c.answer_line-answer.ensures.1 }
