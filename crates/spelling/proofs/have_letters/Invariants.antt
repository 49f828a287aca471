use Rattle.std.proofs.Common.{◌≡◌, drop}
use Rattle.basics.specs.Search.{all_in}
use Rattle.spelling.specs.Words.{has_letter}
use Rattle.spelling.proofs.have_letters.Given as goal

abbrev pub invariant-loop-b : goal.invariant-loop-b
invariant-loop-b g l = all_in (has_letter (g.S.Spelling.letters l.spelling)) (drop l.b-index l.bytes) ≡ all_in (has_letter (g.S.Spelling.letters l.spelling)) l.bytes
