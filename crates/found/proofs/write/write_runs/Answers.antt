use native.Mathlib.Omega.{arith}
use Rattle.product.specs.Tables.{joinable}
use Rattle.found.proofs.FoundCases.{to_split, split_runs}
use Rattle.found.proofs.write.write_runs.Goals as goal

pub write-requires : goal.write-requires
write-requires c = rw (c.new-traced.ensures.0, c.new-traced.ensures.1) (c.requires.past, c.requires.aim)

pub invariant_of-one : goal.invariant_of-one
invariant_of-one c = record { obeys = (joinable _ _ _ _ c.requires.joined.fine).good₁ }

pub invariant_of-two : goal.invariant_of-two
invariant_of-two c = record { obeys = (joinable _ _ _ _ c.requires.joined.fine).good₂ }

pub split-requires : goal.split-requires
split-requires c = let w = rw c.new-traced.ensures.0 at c.write.ensures in to_split c.args.first c.args.first_list.now c.args.second c.args.second_list.now c.args.searched.now.table.machine c.args.searched.now.table.list.now c.requires.joined c.args.f _ _ w (omega (arith, c.run-1.given, c.requires.aim.some)) _ (omega (arith, c.word-1.given, c.requires.room))

pub returns : goal.returns
returns c = let w = rw c.new-traced.ensures.0 at c.write.ensures in let s = split_runs c.args.first c.args.first_list.now c.args.second c.args.second_list.now c.args.searched.now.table.machine c.args.searched.now.table.list.now c.requires.joined c.args.f _ _ w (omega (arith, c.run-1.given, c.requires.aim.some)) c.requires.last _ _ (omega (arith, c.run-2-1.given, c.run-1.given, c.requires.aim.some)) (omega (arith, c.other-1.given, c.requires.room)) c.split.ensures in record { first = s.0; second = s.1 }
