use native.Mathlib.Omega.{arith}
use mathlib.Core.Path.{◌≡◌, refl}
use mathlib.Core.Logic.{◌⊎◌, inl, inr}
use native.Mathlib.Decide.{dec_lt}
use Prim.Native.Nat.{ℕ, ◌<◌, max}
use Rattle.decide.proofs.SquareCases.{ends_known, ends_found}
use Rattle.decide.proofs.squares.known_end.Goals as goal

pub returns-then-stop-e : goal.returns-then-stop-e
returns-then-stop-e c = ends_known _ _ _ _ _ _ c.requires.5 c.requires.0 c.requires.2 c.from-e.ensures c.if-stop-e.true

pub run_end-r-requires : goal.run_end-r-requires
run_end-r-requires c = (omega (arith, c.requires), omega (arith, c.requires), c.requires.3)

pub overflow_cast-ends : goal.overflow_cast-ends
overflow_cast-ends c = omega (arith, c.run_end-r.ensures.repeats.within, c.requires.4)

-- the larger of two numbers is one of them
one_of : (a b m : ℕ) → m ≡ max a b → (m ≡ a) ⊎ (m ≡ b)
one_of a b m e = at (dec_lt a b)
  where
    at : Dec (a < b) → (m ≡ a) ⊎ (m ≡ b)
    at (yes l) = inr (omega arith)
    at (no f) = inl (omega arith)

pub returns : goal.returns
returns c = ends_found _ _ _ _ _ _ c.max.result _ _ c.requires.5 c.requires.0 (omega (arith, c.requires)) c.requires.4 c.from-e.ensures (omega arith) (one_of _ _ _ c.max.ensures) c.run_end-r.ensures refl
