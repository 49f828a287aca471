-- How a run moves (document 01): one entry takes a configuration to the next, or is not allowed. The laws stand in
-- specs/Moves/Laws.antt.
--
-- mode_number t           == a mode as a number
-- well_placed states n c   == c is a configuration that a move is allowed from, on a word of n letters
-- reads_letter w p e x    == x is epsilon, or the letter of w at p, with p before e
-- advanced p x           == the position after p once x is read
-- may_take marks w c t    == transition t leaves the state of c and may be taken there
-- after c t mode         == the configuration after it
-- may_change marks c e mode == entry e changes the mode, and may do so
-- changed c mode         == the configuration after that
-- move m list w c e      == the configuration after entry e, or c and "not allowed"
-- accepting_from m list w c es == the entries es lead from c to an accepting configuration
-- accepting m list w run == the written run accepts the word w
use Rattle.std.specs.Prelude.{ℕ, ◌+◌, List, [], ◌∷◌, Bool, true, false, cond, not, ◌&&◌, ◌||◌, length, get_or, leb, ltb, eqb}
use Rattle.fsbm.specs.Machine.{initial, final, buffering, matching, both_matching, transition_at}
use Rattle.fsbm.specs.declared.machine.Machine.{Machine}
use Rattle.fsbm.specs.declared.machine.Transition.{Transition}
use Rattle.fsbm.specs.declared.config.Config.{Config}
use Rattle.fsbm.specs.declared.config.Move.{Move}
use Rattle.fsbm.specs.declared.config.Mode.{Mode}
use Rattle.fsbm.specs.declared.config.Mode.TheVariants.{Normal, Buffering, Emptying}
pub mod Laws

-- the entries that change the mode: begin storing, begin matching, back to normal
abbrev pub begin_buffering : ℕ
begin_buffering = 65533

abbrev pub begin_emptying : ℕ
begin_emptying = 65534

abbrev pub back_to_normal : ℕ
back_to_normal = 65535

-- normal, storing, matching in the order of document 02
abbrev pub mode_number : Mode → ℕ
mode_number Normal = 0
mode_number Buffering = 1
mode_number Emptying = 2

-- the buffer in each mode: empty in normal, ending at the position while storing
abbrev pub buffer_fits : Config → Mode → Bool
buffer_fits c Normal = eqb c.start c.end
buffer_fits c Buffering = eqb c.end c.position
buffer_fits c Emptying = true

-- a position in the word, a state that is there, and a buffer that is a stretch of the word ending at or before the position
unfoldable pub well_placed : ℕ → ℕ → Config → Bool
well_placed states n c =
    leb c.position n
    && (ltb c.state states && (leb c.start c.end && (leb c.end c.position && buffer_fits c c.mode)))

-- the next letter between p and e is x, or x is epsilon
unfoldable pub reads_letter : List ℕ → ℕ → ℕ → ℕ → Bool
reads_letter w p e x = eqb x 0 || (ltb p e && eqb (get_or w p 0) x)

abbrev pub advanced : ℕ → ℕ → ℕ
advanced p x = cond (eqb x 0) p (p + 1)

-- the marks at its ends let a transition be taken in a mode
unfoldable pub passes : List ℕ → Transition → Mode → Bool
passes marks t Normal = not (both_matching marks t) && not (buffering marks t.from)
passes marks t Buffering = not (both_matching marks t) && not (buffering marks t.to)
passes marks t Emptying = both_matching marks t

-- while matching, its letter is also the next one of the buffer
unfoldable pub reads_stored : List ℕ → Config → Transition → Mode → Bool
reads_stored w c t Normal = true
reads_stored w c t Buffering = true
reads_stored w c t Emptying = reads_letter w c.start c.end t.letter

unfoldable pub may_take : List ℕ → List ℕ → Config → Transition → Bool
may_take marks w c t =
    eqb t.from c.state
    && (passes marks t c.mode && (reads_letter w c.position (length w) t.letter && reads_stored w c t c.mode))

-- storing appends the letter to the buffer, matching takes it from the front
unfoldable pub after : Config → Transition → Mode → Config
after c t Normal = record { position = advanced c.position t.letter; state = t.to; mode = Normal; start = c.start; end = c.end }
after c t Buffering = record { position = advanced c.position t.letter; state = t.to; mode = Buffering; start = c.start; end = advanced c.end t.letter }
after c t Emptying = record { position = advanced c.position t.letter; state = t.to; mode = Emptying; start = advanced c.start t.letter; end = c.end }

-- the changes of mode, each at a state of its kind: normal begins storing with an empty buffer at the position, storing begins
-- matching, matching with an empty buffer goes back to normal
abbrev pub may_change : List ℕ → Config → ℕ → Mode → Bool
may_change marks c e Normal = eqb e begin_buffering && (buffering marks c.state && eqb c.start c.end)
may_change marks c e Buffering = eqb e begin_emptying && matching marks c.state
may_change marks c e Emptying = eqb e back_to_normal && (matching marks c.state && eqb c.start c.end)

abbrev pub changed : Config → Mode → Config
changed c Normal = record { position = c.position; state = c.state; mode = Buffering; start = c.position; end = c.position }
changed c Buffering = record { position = c.position; state = c.state; mode = Emptying; start = c.start; end = c.end }
changed c Emptying = record { position = c.position; state = c.state; mode = Normal; start = c.start; end = c.end }

-- the next configuration where the test holds, else the old one and "not allowed"
abbrev pub goes : Bool → Config → Config → Move
goes ok next old = record { allowed = ok; config = cond ok next old }

unfoldable pub changes : List ℕ → Config → ℕ → Mode → Move
changes marks c e t = goes (may_change marks c e t) (changed c t) c

-- one entry: the number of a transition, or a change of mode
unfoldable pub move : Machine → List ℕ → List ℕ → Config → ℕ → Move
move m list w c e =
    cond (well_placed m.states (length w) c)
    (cond (ltb e m.transitions)
    (goes (may_take m.marks w c (transition_at list e)) (after c (transition_at list e) c.mode) c)
    (changes m.marks c e c.mode))
    (goes false c c)

-- where a run starts and where it accepts
abbrev pub start_at : ℕ → Config
start_at q = record { position = 0; state = q; mode = Normal; start = 0; end = 0 }

abbrev pub is_normal : Mode → Bool
is_normal Normal = true
is_normal Buffering = false
is_normal Emptying = false

-- a final state, normal, the buffer empty, the word of n letters read to its end
unfoldable pub accepts : List ℕ → ℕ → Config → Bool
accepts marks n c =
    final marks c.state && (is_normal c.mode && (eqb c.start c.end && eqb c.position n))

unfoldable pub accepting_from : Machine → List ℕ → List ℕ → Config → List ℕ → Bool
accepting_from m list w c [] = accepts m.marks (length w) c
accepting_from m list w c (e ∷ es) = (move m list w c e).allowed && accepting_from m list w (move m list w c e).config es

-- a written run is the start state and then one entry a move
unfoldable pub accepting : Machine → List ℕ → List ℕ → List ℕ → Bool
accepting m list w [] = false
accepting m list w (q ∷ es) = ltb q m.states && (initial m.marks q && accepting_from m list w (start_at q) es)
