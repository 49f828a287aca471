use Rattle.std.proofs.Common.{refl, sym, ap, ◌∙◌, arith, length, le-leb}
use lib.Seq.{take_all}
use borrow.Author.Tests.{lt-leb}
use Rattle.basics.specs.Search.Loops.{first, second}
use Rattle.columns.specs.Column.{column_number}
use Rattle.columns.specs.Column.Laws.{none_answered, number_answered}
use Rattle.exports.specs.Comparison.{column_or_none}
use Rattle.exports.proofs.comparison.zagvirk_column.Goals as goal

pub returns-then-bytes-gt-WIDEST : goal.returns-then-bytes-gt-WIDEST
unfolding column_or_none
returns-then-bytes-gt-WIDEST c = second _ (lt-leb _ _ c.if-bytes-gt-WIDEST.true) refl

pub returns-in-Some : goal.returns-in-Some
unfolding column_or_none
returns-in-Some c =
    first _ (le-leb _ _ c.if-bytes-gt-WIDEST.false)
    ((number_answered _ _ (sym c.in-Some.is ∙ c.number.ensures)).0 ∙ ap column_number (take_all (length c.args.bytes.now) c.args.bytes.now (omega arith)))

pub returns-in-None : goal.returns-in-None
unfolding column_or_none
returns-in-None c =
    first _ (le-leb _ _ c.if-bytes-gt-WIDEST.false)
    (sym (none_answered _ (sym c.in-None.is ∙ c.number.ensures)) ∙ ap column_number (take_all (length c.args.bytes.now) c.args.bytes.now (omega arith)))
