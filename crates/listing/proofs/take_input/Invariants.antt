use Prim.Native.Nat.{◌≤◌}
use mathlib.Core.Path.{◌≡◌}
use mathlib.Core.Bool.{false}
use lib.ListN.{length}
use Rattle.stream.specs.Pieces.{most_kept}
use Rattle.listing.specs.Output.{HeldAfter}
use Rattle.accepts.specs.Ready.{Working}
use Rattle.listing.proofs.take_input.Given as goal

abbrev pub invariant-loop : goal.invariant-loop
invariant-loop l = HeldAfter l.line l.t.held × (l.t.held.kept ≤ most_kept) × (l.t.closed ≡ false) × (length l.input ≡ length l.initial.input) × (length l.line ≡ length l.initial.line) × (length l.out ≡ length l.initial.out) × Working l.m l.targets l.kinds l.rows l.steps l.sets × (length l.rows ≡ length l.initial.rows) × (length l.steps ≡ length l.initial.steps)
