use Rattle.std.proofs.Common.{sym, ◌∙◌}
use Rattle.std.proofs.lemmas.Result.{err_from_is_err_and}
use Rattle.letters.proofs.LoadingCases.{load_fault_lem, load_large, load_gap, load_good}
use Rattle.letters.proofs.loading.load_letters.Goals as goal
use Rattle.letters.proofs.loading.load_letters.Goals.{then-count-gt-MAX_LETTERS-via-then-count-gt-MAX_LETTERS, then-count-gt-MAX_LETTERS-via-else-count-gt-MAX_LETTERS+then-not-is_gapless}

pub returns-in_err-read_lines : goal.returns-in_err-read_lines
returns-in_err-read_lines c = let p = err_from_is_err_and c.from_residual.result c.from_residual.ensures.1 in rw (p.1, p.2) (load_fault_lem c.args.text.now c.read_lines.new.letters _ c.in_err-read_lines.ensures)

pub returns-then-count-gt-MAX_LETTERS : goal.returns-then-count-gt-MAX_LETTERS
returns-then-count-gt-MAX_LETTERS c =
    elim c.then-count-gt-MAX_LETTERS.branch [
      | then-count-gt-MAX_LETTERS-via-then-count-gt-MAX_LETTERS w ↦ load_large c.args.text.now c.read_lines.new.letters c.in_ok-read_lines.ensures c.from-count.result (c.from-count.ensures ∙ c.largest-most.ensures) w.if-count-gt-MAX_LETTERS.true
      | then-count-gt-MAX_LETTERS-via-else-count-gt-MAX_LETTERS+then-not-is_gapless w ↦ load_gap c.args.text.now c.read_lines.new.letters c.in_ok-read_lines.ensures c.from-count.result (c.from-count.ensures ∙ c.largest-most.ensures) w.if-count-gt-MAX_LETTERS.false (sym w.is_gapless.ensures ∙ w.if-not-is_gapless.true)
    ]

pub returns : goal.returns
returns c = load_good c.args.text.now c.read_lines.new.letters c.in_ok-read_lines.ensures c.from-count.result (c.from-count.ensures ∙ c.largest-most.ensures) c.if-count-gt-MAX_LETTERS.false (sym c.is_gapless.ensures ∙ c.if-not-is_gapless.false)
