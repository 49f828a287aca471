use Rattle.std.proofs.Common.{arith}
use Rattle.std.proofs.lemmas.Result.{err_from_is_err_and}
use Rattle.letters.proofs.LoadingCases.{lines_none, lines_end, line_broken, line_many, line_byte, line_twice, line_next}
use Rattle.letters.proofs.loading.read_lines.Goals as goal
use Rattle.letters.proofs.loading.read_lines.Goals.{then-byte-ge-BYTE_VALUES-via-then-byte-ge-BYTE_VALUES, then-byte-ge-BYTE_VALUES-via-else-byte-ge-BYTE_VALUES+then-letters-byte-ne0}

pub loop-i-init : goal.loop-i-init
loop-i-init c = lines_none _ _ c.requires

pub returns-in_err-byte : goal.returns-in_err-byte
returns-in_err-byte c = let p = err_from_is_err_and c.from_residual.result c.from_residual.ensures.1 in rw (p.1, p.2) (line_broken c.args.text.now c.loop-i.i c.loop-i.letters c.loop-i.invariant (omega arith) _ c.in_err-byte.ensures)

pub returns-then-i-ge-MAX_LINES : goal.returns-then-i-ge-MAX_LINES
returns-then-i-ge-MAX_LINES c = line_many c.args.text.now c.loop-i.i c.loop-i.letters c.loop-i.invariant (omega arith) _ c.in_ok-byte.ensures.0 c.in_ok-byte.ensures.1 c.if-i-ge-MAX_LINES.true

pub returns-then-byte-ge-BYTE_VALUES : goal.returns-then-byte-ge-BYTE_VALUES
returns-then-byte-ge-BYTE_VALUES c =
    elim c.then-byte-ge-BYTE_VALUES.branch [
      | then-byte-ge-BYTE_VALUES-via-then-byte-ge-BYTE_VALUES w ↦ line_byte c.args.text.now c.loop-i.i c.loop-i.letters c.loop-i.invariant (omega arith) _ c.in_ok-byte.ensures.0 c.in_ok-byte.ensures.1 (omega arith) w.if-byte-ge-BYTE_VALUES.true
      | then-byte-ge-BYTE_VALUES-via-else-byte-ge-BYTE_VALUES+then-letters-byte-ne0 w ↦ line_twice c.args.text.now c.loop-i.i c.loop-i.letters c.loop-i.invariant (omega arith) _ c.in_ok-byte.ensures.0 c.in_ok-byte.ensures.1 (omega arith) (omega arith) w.if-letters-byte-ne0.true
    ]

pub loop-i-preserved : goal.loop-i-preserved
loop-i-preserved c = line_next c.args.text.now c.loop-i.i c.loop-i.letters c.loop-i.invariant (omega arith) _ c.in_ok-byte.ensures.0 c.in_ok-byte.ensures.1 (omega arith) (omega arith) c.if-letters-byte-ne0.false _ c.keep.ensures

pub returns : goal.returns
returns c = lines_end c.args.text.now c.loop-i.i c.loop-i.letters c.loop-i.invariant (omega arith)
