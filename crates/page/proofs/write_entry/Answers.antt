use Rattle.std.proofs.Common.{ℕ, ◌+◌, ap, ◌∙◌}
use Rattle.basics.specs.Lists.{put}
use Rattle.columns.specs.Column.{column_of}
use Rattle.page.proofs.PageCases.{entry_line_lem}
use Rattle.page.proofs.write_entry.Goals as goal

pub returns : goal.returns
returns c =
    entry_line_lem c.args.page.now c.args.at _ _ _ _ _ _ c.write.ensures c.write-2.ensures
    (c.write-3.ensures ∙ ap (λ (n : ℕ). put (c.args.at + 12) c.write-2.new.bytes (column_of 6 n)) (c.from.ensures ∙ c.number.ensures))
    _ _ _ _ c.write-4.ensures c.write-5.ensures c.requires.0
