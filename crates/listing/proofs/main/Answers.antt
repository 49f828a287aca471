use mathlib.Core.Path.{sym}
use lib.Seq.{length-take-le}
use Rattle.listing.proofs.main.Goals as goal

pub slice_bounds-list_sheet-end : goal.slice_bounds-list_sheet-end
slice_bounds-list_sheet-end c = sym (length-take-le c.read_table-n.result c.read_table-n.new.table c.read_table-n.ensures)
