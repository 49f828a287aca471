use Rattle.sheet_writer.proofs.WriteCases.{line_three}
use Rattle.sheet_writer.proofs.write_three.Goals as goal

pub returns : goal.returns
returns g c = line_three c.args.sheet.now _ _ c.args.at _ _ c.write.ensures c.write-2.ensures _ _ c.write-3.ensures c.requires.0
