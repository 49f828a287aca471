use Rattle.std.proofs.Common.{◌+◌, get_or, ◌∙◌}
use Rattle.letters.proofs.AlphabetCases.{smaller, seen_start, seen_more}
use Rattle.letters.proofs.alphabet.all_seen.Goals as goal

pub loop-k-init : goal.loop-k-init
loop-k-init c = seen_start c.args.seen.now

pub loop-k-preserved : goal.loop-k-preserved
loop-k-preserved c = seen_more c.args.seen.now c.loop-k.k c.loop-k.least _ c.loop-k.invariant (c.min-least.ensures ∙ smaller c.loop-k.least (get_or c.args.seen.now (c.loop-k.k + 1) 0))
