use Rattle.std.proofs.lemmas.Result.{err_from_is_err_and}
use Rattle.sheet_reader.proofs.ReadCases.{read_says, answer_header, answer_refused, answer_read}
use Rattle.sheet_reader.proofs.read_sheet.Goals as goal

pub returns-in_err-header : goal.returns-in_err-header
returns-in_err-header c = let p = err_from_is_err_and c.from_residual.result c.from_residual.ensures.1 in rw (p.1, p.2) (read_says c.args.sheet.now c.args.list.now _ _ (answer_header c.args.sheet.now c.args.list.now _ c.in_err-header.ensures))

pub returns-in_err-read_rest : goal.returns-in_err-read_rest
returns-in_err-read_rest c = let p = err_from_is_err_and c.from_residual-in_err-read_rest.result c.from_residual-in_err-read_rest.ensures.1 in rw (p.1, p.2) (read_says c.args.sheet.now c.args.list.now _ _ (answer_refused c.args.sheet.now c.args.list.now _ c.read_rest.new.list c.read_rest.new.marks c.in_err-read_rest.ensures))

pub returns : goal.returns
returns c = read_says c.args.sheet.now c.args.list.now _ _ (answer_read c.args.sheet.now c.args.list.now _ c.read_rest.new.list c.read_rest.new.marks c.in_ok-header.ensures.1 c.in_ok-read_rest.ensures)
