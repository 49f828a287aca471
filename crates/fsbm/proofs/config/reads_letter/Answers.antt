use native.Mathlib.Omega.{arith}
use Rattle.fsbm.proofs.ConfigCases.{reads_epsilon, reads_past, reads_outside, reads_here}
use Rattle.fsbm.proofs.config.reads_letter.Goals as goal

pub returns-then-x-eq0 : goal.returns-then-x-eq0
returns-then-x-eq0 c = reads_epsilon c.args.word.now c.args.p c.args.e c.args.x c.if-x-eq0.true

pub returns-then-e-p : goal.returns-then-e-p
returns-then-e-p c = reads_past c.args.word.now c.args.p c.args.e c.args.x c.if-x-eq0.false c.if-e-p.true

pub returns-then-word-p : goal.returns-then-word-p
returns-then-word-p c = reads_outside c.args.word.now c.args.p c.args.e c.args.x c.if-x-eq0.false c.if-e-p.false c.if-word-p.true

pub overflow_cast-result : goal.overflow_cast-result
overflow_cast-result c = omega (arith, c.type_inv.word c.args.p)

pub returns : goal.returns
returns c = reads_here c.args.word.now c.args.p c.args.e c.args.x c.if-x-eq0.false c.if-e-p.false
