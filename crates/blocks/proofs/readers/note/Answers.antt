use native.Mathlib.Omega.{arith}
use mathlib.Core.Path.{sym, ap, ◌∙◌}
use Rattle.stateset.specs.Set.{width}
use Rattle.stateset.specs.Set.Laws.{in_lt, has_in}
use Rattle.fsbm.specs.Rules.{rules as rules_of}
use Rattle.fsbm.specs.declared.machine.Transition.{Transition}
use Rattle.blocks.specs.Readers.Laws.{noted_is}
use Rattle.blocks.proofs.readers.note.Goals as goal

pub bounds-sets-x : goal.bounds-sets-x
bounds-sets-x c = let l = (rules_of _ _ c.args.table.now.obeys).letter_below c.args.k c.requires in omega (arith, (rules_of _ _ c.args.table.now.obeys).letters_fit, l, c.from-x.ensures, ap (λ (t : Transition). t.letter) c.transition-t.ensures)

pub bounds-sets-x-2 : goal.bounds-sets-x-2
bounds-sets-x-2 c = let l = (rules_of _ _ c.args.table.now.obeys).letter_below c.args.k c.requires in omega (arith, (rules_of _ _ c.args.table.now.obeys).letters_fit, l, c.from-x.ensures, ap (λ (t : Transition). t.letter) c.transition-t.ensures)

pub returns : goal.returns
returns c =
    let from = sym c.member.ensures ∙ c.if-not-member.false in
    noted_is _ _ _ _ (c.from-x.ensures ∙ ap (λ (t : Transition). t.letter) c.transition-t.ensures) (c.from-from.ensures ∙ ap (λ (t : Transition). t.from) c.transition-t.ensures) (let l = (rules_of _ _ c.args.table.now.obeys).letter_below c.args.k c.requires in omega (arith, c.told-sets, (rules_of _ _ c.args.table.now.obeys).letters_fit, l, c.from-x.ensures, ap (λ (t : Transition). t.letter) c.transition-t.ensures))
    (in_lt {w = width} {x = c.args.h} {q = c.from-from.result} (omega (arith, c.ranges.h)) ((has_in _ _).0 from)) from c.add.ensures
