-- The sets of states that the test makes larger until nothing is added. The laws stand in specs/Reached/Laws.antt.
--
-- At s T q             == q is in the set for mode T
-- Turns g h T q        == the kind of q lets mode T change there: g has the buffering states, h the matching states
-- Grown s r            == the sets of r hold those of s
-- WithNext set barred p q r == r holds the set, and q where p is in the set and the way is not barred
-- Apart g p q s r      == the sets with q where a transition from p to q leads there in normal and in buffering mode
-- Crossed g h p q s r  == r has q in each mode that may take a transition from p to q and has p in s
-- Moved g h p q s r    == the sets with q where a transition from p to q leads there
-- Changed g h s r      == the sets with the states that a change of mode leads to
-- Swept list n g h s r == the sets with the states that one of the first n transitions leads to
-- Passed list n g h s r == the sets with the states that a change of mode or one of the first n transitions leads to
-- Same s r             == the same sets
use Rattle.std.specs.Prelude.{ℕ, ◌<◌, ◌≡◌, Bool, false, List}
use Rattle.stateset.specs.Set.{width, In}
use Rattle.fsbm.specs.Machine.{transition_at}
use Rattle.fsbm.specs.declared.config.Mode.{Mode}
use Rattle.fsbm.specs.declared.config.Mode.TheVariants.{Normal, Buffering, Emptying}
use Rattle.images.specs.Graph.{May}
use Rattle.emptiness.specs.Closed.{next_mode}
use Rattle.emptiness.specs.declared.Reached.{Reached}
pub mod Laws

abbrev pub At : Reached → Mode → ℕ → Type 0
At s Normal q = In s.normal q
At s Buffering q = In s.buffering q
At s Emptying q = In s.emptying q

abbrev pub Turns : ℕ → ℕ → Mode → ℕ → Type 0
Turns g h Normal q = In g q
Turns g h Buffering q = In h q
Turns g h Emptying q = In h q

abbrev pub Grown : Reached → Reached → Type 0
Grown s r = (T : Mode) (q : ℕ) → At s T q → At r T q

pub record WithNext (set : ℕ) (barred : Bool) (p q r : ℕ) : Type 0 where
  pub stays : (x : ℕ) → In set x → In r x
  pub this : q < width → barred ≡ false → In set p → In r q

pub record Apart (g p q : ℕ) (s r : Reached) : Type 0 where
  pub grown : Grown s r
  pub normal : q < width → At s Normal p → (In g p → ⊥) → At r Normal q
  pub buffering : q < width → At s Buffering p → (In g q → ⊥) → At r Buffering q

abbrev pub Crossed : ℕ → ℕ → ℕ → ℕ → Reached → Reached → Type 0
Crossed g h p q s r = (T : Mode) → q < width → May g h T p q → At s T p → At r T q

pub record Moved (g h p q : ℕ) (s r : Reached) : Type 0 where
  pub grown : Grown s r
  pub crossed : Crossed g h p q s r

pub record Changed (g h : ℕ) (s r : Reached) : Type 0 where
  pub grown : Grown s r
  pub turned : (T : Mode) (q : ℕ) → Turns g h T q → At s T q → At r (next_mode T) q

pub record Swept (list : List ℕ) (n g h : ℕ) (s r : Reached) : Type 0 where
  pub grown : Grown s r
  pub crossed : (k : ℕ) → k < n → Crossed g h (transition_at list k).from (transition_at list k).to s r

pub record Passed (list : List ℕ) (n g h : ℕ) (s r : Reached) : Type 0 where
  pub changed : Changed g h s r
  pub crossed : (k : ℕ) → k < n → Crossed g h (transition_at list k).from (transition_at list k).to s r

pub record Same (s r : Reached) : Type 0 where
  pub normal : s.normal ≡ r.normal
  pub buffering : s.buffering ≡ r.buffering
  pub emptying : s.emptying ≡ r.emptying
