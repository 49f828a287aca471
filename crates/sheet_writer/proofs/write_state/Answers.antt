use Rattle.sheet_writer.proofs.WriteCases.{line_two}
use Rattle.sheet_writer.proofs.write_state.Goals as goal

pub returns : goal.returns
returns c = line_two c.args.sheet.now _ _ c.args.at _ _ c.write.ensures c.write-2.ensures c.requires.0
