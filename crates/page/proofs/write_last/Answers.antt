use Rattle.page.proofs.PageCases.{last_line}
use Rattle.page.proofs.write_last.Goals as goal

pub returns : goal.returns
returns c = last_line c.args.page.now c.args.at _ _ _ _ _ _ c.write.ensures c.write-2.ensures c.write-3.ensures c.requires.0
