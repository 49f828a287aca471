use Rattle.std.proofs.Common.{◌≡◌, ◌++◌, map, take, drop}
use Rattle.spelling.proofs.write_letters.Given as goal

abbrev pub invariant-loop-i : goal.invariant-loop-i
invariant-loop-i g l = l.word ≡ map (g.S.Spelling.letters l.spelling) (take l.i l.bytes) ++ drop l.i l.initial.word
