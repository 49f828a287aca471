use Rattle.std.proofs.Common.{◌∙◌, arith}
use Rattle.letters.proofs.AlphabetCases.{seen_gapless}
use Rattle.letters.proofs.alphabet.is_gapless.Goals as goal

pub returns : goal.returns
returns c = c.all_seen.ensures ∙ seen_gapless _ _ _ c.note.ensures c.requires (omega arith)
