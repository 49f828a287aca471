use Rattle.std.proofs.Common.{◌∙◌, arith, length-set}
use Rattle.std.proofs.lemmas.List.{length-replicate}
use Rattle.sheet.proofs.PartCases.{missing, bad, refused_as, columns_none, columns_next, line_short, line_column, line_end, line_good}
use Rattle.sheet.proofs.parts.read_line.Goals as goal

pub returns-then-bytes-end : goal.returns-then-bytes-end
returns-then-bytes-end g c = refused_as 1 _ _ missing (line_short c.args.bytes.now c.args.at g.row.N (omega arith))

pub loop-c-init : goal.loop-c-init
loop-c-init g c = (length-replicate _ _, columns_none _ _ _)

pub returns-in_default : goal.returns-in_default
returns-in_default g c = refused_as 2 _ _ bad (line_column c.args.bytes.now c.args.at g.row.N (omega arith) _ _ c.loop-c.invariant.1 c.loop-c-test.true c.in_default.ensures)

pub loop-c-preserved : goal.loop-c-preserved
loop-c-preserved g c = (length-set _ _ _ ∙ c.loop-c.invariant.0, columns_next _ _ _ _ _ c.loop-c.invariant.1 c.in-Some.ensures (omega arith))

pub returns-then-bytes-end-ne-LINE_END : goal.returns-then-bytes-end-ne-LINE_END
returns-then-bytes-end-ne-LINE_END g c =
    refused_as 2 _ _ bad (line_end c.args.bytes.now c.args.at g.row.N (omega arith) _ _ c.loop-c.invariant.1 (omega arith) c.if-bytes-end-ne-LINE_END.true)

pub returns : goal.returns
returns g c = (
  line_good c.args.bytes.now c.args.at g.row.N (omega arith) _ _ c.loop-c.invariant.1 (omega arith) c.if-bytes-end-ne-LINE_END.false,
  record { size = c.loop-c.invariant.0; are = λ j h. c.loop-c.invariant.1.are j (omega arith) },
)
