use mathlib.Core.Path.{◌≡◌, ◌∙◌, ap}
use Prim.Native.Nat.{◌*◌, ◌≤◌, ◌<◌}
use native.Mathlib.Omega.{arith}
use lib.ListN.{length}
use Rattle.fsbm.specs.Machine.{transition_at}
use Rattle.fsbm.specs.declared.machine.Transition.{Transition}
use Rattle.images.specs.Graph.{set_of}
use Rattle.targets.specs.Prepared.Laws.{parts_small, parts_room, parts_some}
use Rattle.targets.proofs.put.Goals as goal
use Rattle.targets.proofs.put.Goals.{After-from-q}

-- the parts of the transition

letter : (c : After-from-q) → c.from-x.result ≡ (transition_at c.args.t.now.list.now c.args.k).letter
letter c = c.from-x.ensures ∙ ap (λ (t : Transition). t.letter) c.transition-step.ensures

from : (c : After-from-q) → c.from-p.result ≡ (transition_at c.args.t.now.list.now c.args.k).from
from c = c.from-p.ensures ∙ ap (λ (t : Transition). t.from) c.transition-step.ensures

to : (c : After-from-q) → c.from-q.result ≡ (transition_at c.args.t.now.list.now c.args.k).to
to c = c.from-q.ensures ∙ ap (λ (t : Transition). t.to) c.transition-step.ensures

small : (c : After-from-q) → (c.args.t.now.machine.states ≤ 64) × (c.from-p.result < c.args.t.now.machine.states) × (c.from-x.result ≤ 250) × (c.from-x.result * c.args.t.now.machine.states ≤ 16000)
small c = parts_small c.args.t.now.machine c.args.t.now.list.now _ _ c.args.k c.args.t.now.obeys c.requires.0 c.requires.1 _ _ _ (letter c) (from c) (to c)

room : (c : After-from-q) → set_of c.args.t.now.machine.states c.from-x.result c.from-p.result < length c.args.targets.now
room c = parts_room c.args.t.now.machine c.args.t.now.list.now _ _ c.args.k c.args.t.now.obeys c.requires.0 c.requires.1 _ _ _ (letter c) (from c) (to c)

pub is_wanted-requires : goal.is_wanted-requires
is_wanted-requires c = let z = small (goal.at.is_wanted-requires c).After-from-q in omega arith

pub overflow_mul-at : goal.overflow_mul-at
overflow_mul-at c = let z = small (goal.at.overflow_mul-at c).After-from-q in omega arith

pub overflow_add-at-2 : goal.overflow_add-at-2
overflow_add-at-2 c = let z = small (goal.at.overflow_add-at-2 c).After-from-q in omega arith

pub overflow_add-at-3 : goal.overflow_add-at-3
overflow_add-at-3 c = let z = small (goal.at.overflow_add-at-3 c).After-from-q in omega arith

pub offset_bounds-targets-at : goal.offset_bounds-targets-at
offset_bounds-targets-at c = let z = small (goal.at.offset_bounds-targets-at c).After-from-q in omega arith

pub offset_bounds-targets-at-2 : goal.offset_bounds-targets-at-2
offset_bounds-targets-at-2 c = let z = small (goal.at.offset_bounds-targets-at-2 c).After-from-q in omega arith

pub bounds-targets-at : goal.bounds-targets-at
bounds-targets-at c = room (goal.at.bounds-targets-at c).After-from-q

pub bounds-targets-at-2 : goal.bounds-targets-at-2
bounds-targets-at-2 c = room (goal.at.bounds-targets-at-2 c).After-from-q

pub returns : goal.returns
returns c = let p = (goal.at.returns c).After-from-q in parts_some c.args.t.now.machine c.args.t.now.list.now _ _ c.args.k c.args.t.now.obeys c.requires.0 c.requires.1 _ _ _ (letter p) (from p) (to p) _ _ _ c.is_wanted.ensures c.if-not-is_wanted.false c.add.ensures
