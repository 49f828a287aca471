use Rattle.std.proofs.Common.{ℕ, ap, sym, ◌∙◌}
use Rattle.basics.specs.Lists.{put}
use Rattle.stream.specs.Listing.{refused_sheet}
use Rattle.stream.proofs.PieceCases.{open_refused, open_good}
use Rattle.stream.proofs.open.Goals as goal

pub returns-in-Ok : goal.returns-in-Ok
returns-in-Ok c =
    open_good c.args.sheet.now c.args.list.now c.read_sheet.new.list c.args.out.now c.requires.0 c.read_sheet.ensures.1 c.write_header.new.out c.in-Ok.machine
    (sym c.in-Ok.is ∙ c.read_sheet.ensures.0) c.write_header.ensures

pub returns-in-Err : goal.returns-in-Err
returns-in-Err c =
    open_refused c.args.sheet.now c.args.list.now c.read_sheet.new.list c.args.out.now c.requires.0 c.read_sheet.ensures.1 c.write_refused.new.out c.in-Err.refusal
    (sym c.in-Err.is ∙ c.read_sheet.ensures.0) (c.write_refused.ensures ∙ ap (λ (n : ℕ). put 0 c.args.out.now (refused_sheet n)) c.number.ensures)
