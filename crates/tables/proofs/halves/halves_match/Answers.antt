use Rattle.std.proofs.Common.{arith}
use Rattle.std.proofs.lemmas.Slice.Eq.{slice_eq-Decides}
use Rattle.std.proofs.lemmas.Bool.Decides.{Decides-eqb}
use Rattle.tables.proofs.HalvesCases.{matched_by}
use Rattle.tables.proofs.halves.halves_match.Goals as goal

pub returns : goal.returns
returns c = matched_by c.args.word.now c.args.i c.args.d _ _ c.requires (omega arith) (omega arith) (slice_eq-Decides Decides-eqb _ _ _ c.eq.ensures)
