-- What is said of a word with its machine.
--
-- for_word D s == D of the machine, its list, the reached sets and the letters of the word s
use Rattle.std.specs.Prelude.{ℕ, List}
use Rattle.fsbm.specs.declared.machine.Machine.{Machine}
use Rattle.tables.specs.declared.word.Word.{Word}

abbrev pub for_word : {A : Type 1} → (Machine → List ℕ → List ℕ → List ℕ → A) → Word → A
for_word D s = D s.moves.table.machine s.moves.table.list.now s.sets.now s.letters.now
