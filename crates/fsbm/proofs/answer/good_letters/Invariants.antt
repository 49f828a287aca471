use Rattle.std.proofs.Common.{◌≡◌, drop}
use Rattle.basics.specs.Search.{all_in}
use Rattle.fsbm.specs.Answers.{good_letter}
use Rattle.fsbm.proofs.answer.good_letters.Given as goal

abbrev pub invariant-loop-x : goal.invariant-loop-x
invariant-loop-x l = all_in (good_letter l.letters) (drop l.x-index l.word) ≡ all_in (good_letter l.letters) l.word
