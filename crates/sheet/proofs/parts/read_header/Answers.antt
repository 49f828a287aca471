use Rattle.std.proofs.Common.{refl}
use Rattle.std.proofs.lemmas.Result.{err_from_is_err_and}
use Rattle.sheet.proofs.PartCases.{header_bad, header_counts, header_small, header_read}
use Rattle.sheet.proofs.parts.read_header.Goals as goal

pub returns-in_err-states : goal.returns-in_err-states
returns-in_err-states c = let p = err_from_is_err_and c.from_residual.result c.from_residual.ensures.1 in rw (p.1, p.2) (header_bad c.args.sheet.now _ c.in_err-states.ensures)

pub returns-in_err-counts_fault : goal.returns-in_err-counts_fault
returns-in_err-counts_fault c =
    let p = err_from_is_err_and c.from_residual-in_err-counts_fault.result c.from_residual-in_err-counts_fault.ensures.1 in
    rw (p.1, p.2) (header_counts c.args.sheet.now _ c.in_ok-states.ensures.0 c.in_ok-states.ensures.1 _ c.in_err-counts_fault.ensures)

pub invariant_of-result : goal.invariant_of-result
invariant_of-result c = record { counts = header_small c.args.sheet.now _ c.in_ok-states.ensures.0 c.in_ok-states.ensures.1 c.in_ok-counts_fault.ensures }

pub returns : goal.returns
returns c = header_read c.args.sheet.now _ c.in_ok-states.ensures.0 c.in_ok-states.ensures.1 c.in_ok-counts_fault.ensures _ refl refl refl
