use native.Mathlib.Omega.{arith}
use Rattle.lines.specs.Line.{answer_line}
use Rattle.basics.specs.Lists.Laws.{put_length}
use Rattle.lines.proofs.LineCases.{line_length}
use mathlib.Core.Path.{◌∙◌, ap}
use lib.ListN.{length}
use Rattle.lines.proofs.LineCases.{line_written}
use Rattle.lines.proofs.write_line.Goals as goal

pub shape_of-out : goal.shape_of-out
shape_of-out c = ap length (line_written c.args.at c.args.out.now c.args.number c.args.a.answer c.args.a.refusal c.write_number.new.bytes c.write_number-2.new.bytes c.write_number-3.new.bytes c.requires c.write_number.ensures c.write_number-2.ensures c.write_number-3.ensures) ∙ put_length c.args.at c.args.out.now (answer_line c.args.number c.args.a.answer c.args.a.refusal) (omega (arith, c.requires, line_length c.args.number c.args.a.answer c.args.a.refusal))

pub returns : goal.returns
returns c = line_written c.args.at c.args.out.now c.args.number c.args.a.answer c.args.a.refusal c.write_number.new.bytes c.write_number-2.new.bytes c.write_number-3.new.bytes c.requires c.write_number.ensures c.write_number-2.ensures c.write_number-3.ensures
