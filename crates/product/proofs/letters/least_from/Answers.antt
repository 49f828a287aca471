use native.Mathlib.Omega.{arith}
use Rattle.product.proofs.LettersCases.{least_none, least_some}
use Rattle.product.proofs.letters.least_from.Goals as goal

pub returns-then-rest-eq0 : goal.returns-then-rest-eq0
returns-then-rest-eq0 c = least_none c.args.word c.args.x c.requires c.if-rest-eq0.true

pub returns : goal.returns
returns c = least_some c.args.word c.args.x c.requires (omega (arith, c.ranges)) c.lowest.result c.lowest.ensures c.if-rest-eq0.false
