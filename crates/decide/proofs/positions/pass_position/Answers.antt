use Prim.Native.Nat.{ℕ}
use mathlib.Core.Path.{refl, subst}
use native.Mathlib.Omega.{arith}
use lib.ListN.{get_or}
use Rattle.fsbm.specs.declared.config.Mode.TheVariants.{Normal}
use Rattle.images.specs.Graph.{Members, From, Star, Turn, Edge}
use Rattle.images.specs.Moves.{graph_of}
use Rattle.subsets.proofs.MemoCases.{same_here, same_join}
use Rattle.images.proofs.SetCases.{members_is, members_none, none_in}
use Rattle.subsets.specs.Rows.Laws.{normal_reads}
use Rattle.decide.proofs.CopyCases.{copied_none}
use Rattle.decide.proofs.StageCases.{passed_none, passed_over, passed_read, passed_copies, read_fitting}
use Rattle.decide.proofs.positions.pass_position.Goals as goal

pub returns-then-reached-eq0 : goal.returns-then-reached-eq0
returns-then-reached-eq0 c = let p = passed_none (graph_of c.args.t.now) c.args.word.now c.args.sets.now c.args.i 0 c.requires.4 (omega (arith, c.requires.1, c.requires.2)) (members_none (λ q z. none_in c.if-reached-eq0.true z.0 z.1)) refl in (c.requires.3, p.fitting, p, c.requires.5, same_here _)

pub with_row-seeds-requires : goal.with_row-seeds-requires
with_row-seeds-requires c = c.requires.5.sized

pub begin-near-requires : goal.begin-near-requires
begin-near-requires c = (c.with_row-seeds.ensures.1 (graph_of c.args.t.now) c.requires.5)

pub returns-then-word-i : goal.returns-then-word-i
returns-then-word-i c = let p = passed_over (graph_of c.args.t.now) c.args.word.now c.args.sets.now c.args.i c.begin-near.result.set c.requires.4 (omega (arith, c.requires.1, c.requires.2)) (subst (λ (s : ℕ). Members c.begin-near.result.set (From s (Star (Turn (graph_of c.args.t.now))))) c.with_row-seeds.ensures.0 c.begin-near.ensures.0) c.if-word-i.true in (c.requires.3, p.fitting, p, c.begin-near.ensures.1, same_join c.with_row-seeds.ensures.2 c.begin-near.ensures.2)

pub bounds-word-i : goal.bounds-word-i
bounds-word-i c = omega (arith, c.if-word-i.false)

pub read-read-requires : goal.read-read-requires
read-read-requires c = (c.requires.0 c.args.i c.if-word-i.false, c.begin-near.ensures.1)

pub overflow_add-k : goal.overflow_add-k
overflow_add-k c = omega (arith, c.if-word-i.false, c.requires.2)

pub offset_bounds-sets-k : goal.offset_bounds-sets-k
offset_bounds-sets-k c = omega (arith, c.if-word-i.false, c.requires.2)

pub bounds-sets-k : goal.bounds-sets-k
bounds-sets-k c = omega (arith, c.if-word-i.false, c.requires.2)

pub offset_bounds-sets-k-2 : goal.offset_bounds-sets-k-2
offset_bounds-sets-k-2 c = omega (arith, c.if-word-i.false, c.requires.2)

pub bounds-sets-k-2 : goal.bounds-sets-k-2
bounds-sets-k-2 c = omega (arith, c.if-word-i.false, c.requires.2)

pub returns-then-starts-eq0 : goal.returns-then-starts-eq0
returns-then-starts-eq0 c = let p = passed_read (graph_of c.args.t.now) c.args.word.now c.args.sets.now c.args.i c.begin-near.result.set c.requires.4 (omega (arith, c.requires.1, c.requires.2)) (subst (λ (s : ℕ). Members c.begin-near.result.set (From s (Star (Turn (graph_of c.args.t.now))))) c.with_row-seeds.ensures.0 c.begin-near.ensures.0) c.read-read.result.set c.union.result c.if-word-i.false c.requires.2 (normal_reads (get_or c.args.word.now c.args.i 0) c.begin-near.result.set c.read-read.result.set (Edge (graph_of c.args.t.now) Normal (get_or c.args.word.now c.args.i 0)) c.read-read.ensures.0) (members_is c.union.ensures) _ c.intersection-starts.ensures.value c.if-starts-eq0.true in (c.requires.3, p.fitting, p, c.read-read.ensures.1, same_join c.with_row-seeds.ensures.2 (same_join c.begin-near.ensures.2 c.read-read.ensures.2))

pub last_square-last-requires : goal.last_square-last-requires
last_square-last-requires c = (c.requires.1, c.requires.2, c.requires.3)

pub returns-then-last-i : goal.returns-then-last-i
returns-then-last-i c = let p = passed_copies (graph_of c.args.t.now) c.args.word.now c.args.sets.now c.args.i c.begin-near.result.set c.requires.4 (omega (arith, c.requires.1, c.requires.2)) (subst (λ (s : ℕ). Members c.begin-near.result.set (From s (Star (Turn (graph_of c.args.t.now))))) c.with_row-seeds.ensures.0 c.begin-near.ensures.0) c.read-read.result.set c.union.result c.if-word-i.false c.requires.2 (normal_reads (get_or c.args.word.now c.args.i 0) c.begin-near.result.set c.read-read.result.set (Edge (graph_of c.args.t.now) Normal (get_or c.args.word.now c.args.i 0)) c.read-read.ensures.0) (members_is c.union.ensures) _ _ c.intersection-starts.ensures.value (copied_none _ _ _ _ _ _ c.last_square-last.ensures.1 c.if-last-i.true (read_fitting (graph_of c.args.t.now) c.args.word.now c.args.sets.now c.args.i c.begin-near.result.set c.requires.4 (omega (arith, c.requires.1, c.requires.2)) (subst (λ (s : ℕ). Members c.begin-near.result.set (From s (Star (Turn (graph_of c.args.t.now))))) c.with_row-seeds.ensures.0 c.begin-near.ensures.0) c.read-read.result.set c.union.result c.if-word-i.false c.requires.2 (normal_reads (get_or c.args.word.now c.args.i 0) c.begin-near.result.set c.read-read.result.set (Edge (graph_of c.args.t.now) Normal (get_or c.args.word.now c.args.i 0)) c.read-read.ensures.0) (members_is c.union.ensures))) in (c.last_square-last.ensures.0, p.fitting, p, c.read-read.ensures.1, same_join c.with_row-seeds.ensures.2 (same_join c.begin-near.ensures.2 c.read-read.ensures.2))

pub copies_from-requires : goal.copies_from-requires
copies_from-requires c = (c.requires.0, c.requires.1, c.requires.2, c.last_square-last.ensures.0, read_fitting (graph_of c.args.t.now) c.args.word.now c.args.sets.now c.args.i c.begin-near.result.set c.requires.4 (omega (arith, c.requires.1, c.requires.2)) (subst (λ (s : ℕ). Members c.begin-near.result.set (From s (Star (Turn (graph_of c.args.t.now))))) c.with_row-seeds.ensures.0 c.begin-near.ensures.0) c.read-read.result.set c.union.result c.if-word-i.false c.requires.2 (normal_reads (get_or c.args.word.now c.args.i 0) c.begin-near.result.set c.read-read.result.set (Edge (graph_of c.args.t.now) Normal (get_or c.args.word.now c.args.i 0)) c.read-read.ensures.0) (members_is c.union.ensures), c.last_square-last.ensures.1, c.begin-near.ensures.0.fits, c.read-read.ensures.1)

pub returns : goal.returns
returns c = (c.copies_from.ensures.0, c.copies_from.ensures.1, passed_copies (graph_of c.args.t.now) c.args.word.now c.args.sets.now c.args.i c.begin-near.result.set c.requires.4 (omega (arith, c.requires.1, c.requires.2)) (subst (λ (s : ℕ). Members c.begin-near.result.set (From s (Star (Turn (graph_of c.args.t.now))))) c.with_row-seeds.ensures.0 c.begin-near.ensures.0) c.read-read.result.set c.union.result c.if-word-i.false c.requires.2 (normal_reads (get_or c.args.word.now c.args.i 0) c.begin-near.result.set c.read-read.result.set (Edge (graph_of c.args.t.now) Normal (get_or c.args.word.now c.args.i 0)) c.read-read.ensures.0) (members_is c.union.ensures) _ _ refl c.copies_from.ensures.2, c.copies_from.ensures.3, same_join c.with_row-seeds.ensures.2 (same_join c.begin-near.ensures.2 (same_join c.read-read.ensures.2 c.copies_from.ensures.4)))
