use lib.ListN.{length-set}
use mathlib.Core.Path.{◌∙◌}
use Rattle.stream.specs.Listing.{sheet_refused}
use Rattle.stream.proofs.PieceCases.{refused_written}
use Rattle.stream.proofs.write_refused.Goals as goal

pub shape_of-out : goal.shape_of-out
shape_of-out c = length-set c.write_number.new.bytes 18 10 ∙ (c.out-2-1.given ∙ c.out-1.given)

pub returns : goal.returns
unfolding sheet_refused
returns c = refused_written c.args.out.now c.copy.new.out c.write_number.new.bytes c.args.number c.requires c.copy.ensures c.write_number.ensures
