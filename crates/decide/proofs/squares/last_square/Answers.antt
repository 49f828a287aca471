use native.Mathlib.Omega.{arith}
use Prim.Native.Nat.{◌≤◌, ◌-◌, ◌+◌}
use lib.ListN.{length}
use Rattle.basics.specs.Search.Laws.{not_both}
use Rattle.decide.proofs.SquareCases.{last_down}
use Rattle.decide.proofs.squares.last_square.Goals as goal

pub loop-j-init : goal.loop-j-init
loop-j-init c = (c.requires.2, λ k lt (room : k + (k - c.args.i) ≤ length c.args.word.now) m. absurd (omega (arith, lt)))

pub loop-j-preserved : goal.loop-j-preserved
loop-j-preserved c = (c.is_square.ensures.kept _ (omega arith) c.loop-j.invariant.0, last_down c.args.word.now _ _ (λ m. not_both (c.is_square.ensures.says.1 m) c.if-is_square.false) c.loop-j.invariant.1)

pub is_square-requires : goal.is_square-requires
is_square-requires c = (omega arith, omega arith, c.requires.1, (λ d. c.args.i + d, omega arith, c.loop-j.invariant.0))

pub returns-then-is_square : goal.returns-then-is_square
returns-then-is_square c = (c.is_square.ensures.kept _ (omega arith) c.loop-j.invariant.0, record { from = omega arith; room = omega arith; last = λ k lt. c.loop-j.invariant.1 k (omega arith) })

pub returns : goal.returns
returns c = (c.loop-j.invariant.0, record { from = omega arith; room = omega (arith, c.requires); last = λ k lt. c.loop-j.invariant.1 k (omega arith) })
