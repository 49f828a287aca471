use Rattle.stream.specs.Listing.{header}
use Rattle.stream.proofs.write_header.Goals as goal

pub returns : goal.returns
unfolding header
returns c = c.copy.ensures
