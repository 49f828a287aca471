use Rattle.std.proofs.Common.{ℕ, ap, ◌∙◌}
use Rattle.basics.specs.Lists.{put}
use Rattle.columns.specs.Column.{column_of}
use Rattle.columns.proofs.Written.{same_last}
use Rattle.columns.proofs.write_number.Goals as goal
use Rattle.columns.proofs.write_number.Goals.{then-n-lt100000, else-n-lt100000}

pub returns : goal.returns
returns c =
    let column = λ (n : ℕ). put c.args.at c.args.bytes.now (column_of 5 n) in
    c.write.ensures
    ∙ elim c.if-n-lt100000.branch [
      | then-n-lt100000 w ↦ ap column w.last-is
      | else-n-lt100000 w ↦ ap column w.last-is ∙ ap (put c.args.at c.args.bytes.now) (same_last c.args.n w.if-n-lt100000.false)
    ]
