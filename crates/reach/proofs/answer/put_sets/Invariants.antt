use Prim.Native.Nat.{◌+◌, ◌≤◌}
use mathlib.Core.Path.{◌≡◌}
use mathlib.Core.List.{[], ◌∷◌}
use lib.ListN.{length, get_or}
use Rattle.basics.specs.Each.{each_below}
use Rattle.basics.specs.Lists.{put}
use Rattle.reach.specs.Reaching.{sets_before}
use Rattle.reach.proofs.answer.put_sets.Given as goal

abbrev pub invariant-loop-p : goal.invariant-loop-p
invariant-loop-p l = (l.n ≤ 255) × (sets_before (l.n + 1) ≤ length l.initial.sets) × (length l.sets ≡ length l.initial.sets) × (l.sets ≡ put 0 l.initial.sets (each_below l.p (λ k. get_or l.normal k 0 ∷ get_or l.storing k 0 ∷ get_or l.matching k 0 ∷ []))) × (length l.normal ≡ 256) × (length l.storing ≡ 256) × (length l.matching ≡ 256)
