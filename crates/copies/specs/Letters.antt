-- The letters that a run reads, by the mode that it reads them in (document 02, change 1). The laws stand in specs/Letters/Laws.antt.
--
-- times_read                     == how often a stored letter is read: once as it is stored, once as it is matched
-- in_buffer c                    == the letters in the buffer of c
-- letters_at t c next            == the letters that a move from c to next reads in mode t
-- letters_from t m list w c es   == those that the entries es read from c on
-- letters_in t m list w run      == those that the run reads
-- plain_letters m list w run     == the letters that it reads in normal mode
-- stored_letters m list w run    == those that it reads while it stores, which are the letters stored
use Rattle.std.specs.Prelude.{ℕ, ◌+◌, ◌-◌, List, [], ◌∷◌, cond}
use Rattle.fsbm.specs.Moves.{move, start_at}
use Rattle.fsbm.specs.Reaches.{same_mode}
use Rattle.fsbm.specs.declared.machine.Machine.{Machine}
use Rattle.fsbm.specs.declared.config.Config.{Config}
use Rattle.fsbm.specs.declared.config.Mode.{Mode}
use Rattle.fsbm.specs.declared.config.Mode.TheVariants.{Normal, Buffering}
pub mod Laws

abbrev pub times_read : ℕ
times_read = 2

abbrev pub in_buffer : Config → ℕ
in_buffer c = c.end - c.start

-- a move from c to next reads the letters between the two positions, in the mode of c
abbrev pub letters_at : Mode → Config → Config → ℕ
letters_at t c next = cond (same_mode c.mode t) (next.position - c.position) 0

unfoldable pub letters_from : Mode → Machine → List ℕ → List ℕ → Config → List ℕ → ℕ
letters_from t m list w c [] = 0
letters_from t m list w c (e ∷ es) = letters_at t c (move m list w c e).config + letters_from t m list w (move m list w c e).config es

unfoldable pub letters_in : Mode → Machine → List ℕ → List ℕ → List ℕ → ℕ
letters_in t m list w [] = 0
letters_in t m list w (q ∷ es) = letters_from t m list w (start_at q) es

abbrev pub plain_letters : Machine → List ℕ → List ℕ → List ℕ → ℕ
plain_letters m list w run = letters_in Normal m list w run

abbrev pub stored_letters : Machine → List ℕ → List ℕ → List ℕ → ℕ
stored_letters m list w run = letters_in Buffering m list w run
