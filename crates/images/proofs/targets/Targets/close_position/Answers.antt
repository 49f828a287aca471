use Prim.Native.Nat.{ℕ}
use mathlib.Core.Path.{subst}
use lib.ListN.{get_or}
use Rattle.stateset.specs.Set.{In}
use Rattle.images.specs.Graph.{Star, Turn, closure_of}
use Rattle.images.specs.Moves.{graph_of}
use Rattle.images.proofs.SetCases.{members_is, members_none, none_in, none_other}
use Rattle.images.proofs.Sweeps.{rows_united}
use Rattle.images.proofs.Decided.{closed_again}
use Rattle.images.proofs.targets.Targets.close_position.Goals as goal

pub returns-then-set-eq0 : goal.returns-then-set-eq0
returns-then-set-eq0 c = members_none (λ q z. none_in c.if-set-eq0.true z.0 z.1)

pub returns-then-other-eq0 : goal.returns-then-other-eq0
returns-then-other-eq0 c =
    let t = c.args.self.now in
    rows_united (Star (Turn (graph_of t))) (λ (p : ℕ). get_or t.sets.now (closure_of p) 0) _ _ _
    (λ p i.
    let here = none_other _ _ _ (members_is c.difference-other.ensures) c.if-other-eq0.true p i in
    let z = closed_again (graph_of t) t.few t.fits t.kinds_fit.0 t.kinds_fit.1 p (t.closed p (subst (λ (n : ℕ). In n p) c.closed.ensures here)) in
    (z.state, z.closure))
    c.row_union.ensures
