use mathlib.Core.Path.{sym}
use native.Mathlib.Omega.{arith}
use lib.ListN.{replicate}
use lib.Seq.{length-take-le}
use Rattle.listing.proofs.OutputCases.{opening_fits, opening_bytes, opened_table, opened_obeys}
use borrow.Author.Rules.{rules}
use Rattle.listing.proofs.list_sheet.Goals as goal

pub slice_bounds-out-end : goal.slice_bounds-out-end
slice_bounds-out-end c = opening_fits c.args.sheet.now (replicate 12000 0) c.open-opened.new.list (replicate 65536 0) c.open-opened.new.out c.open-opened.result c.open-opened.ensures (omega arith)

pub slice_bounds-write_opening-end : goal.slice_bounds-write_opening-end
slice_bounds-write_opening-end c =
    sym (length-take-le c.open-opened.result.used c.open-opened.new.out
    (opening_fits c.args.sheet.now (replicate 12000 0) c.open-opened.new.list (replicate 65536 0) c.open-opened.new.out c.open-opened.result c.open-opened.ensures (omega arith)))

pub write_opening-requires : goal.write_opening-requires
write_opening-requires c = opening_bytes c.args.sheet.now (replicate 12000 0) c.open-opened.new.list (replicate 65536 0) c.open-opened.new.out c.open-opened.result c.open-opened.ensures

pub list_prepared-requires : goal.list_prepared-requires
list_prepared-requires c =
    let opened = c.open-opened.ensures in
    record {
      list_value = opened_obeys c.args.sheet.now (replicate 12000 0) c.open-opened.new.list (replicate 65536 0) c.open-opened.new.out c.open-opened.result opened (omega arith) c.in-Some.machine c.in-Some.is;
      read_from = opened_table c.args.sheet.now (replicate 12000 0) c.open-opened.new.list (replicate 65536 0) c.open-opened.new.out c.open-opened.result opened (omega arith) c.in-Some.machine c.in-Some.is;
      in_bounds = search rules;
    }
