-- The laws of specs/Examples.antt.
--
-- all_hold             == every row of the table passes its test, by evaluation
-- row_means            == a row that passes its test means what it says
-- examples             == every row of the table means what it says
use Rattle.std.specs.Prelude.{◌≡◌, refl, true, not, ◌&&◌, ltb}
use Rattle.std.proofs.Common.{sym, ◌∙◌, ltb-true}
use mathlib.Core.List.{Memᴰ}
use Rattle.std.proofs.lemmas.Bool.{not-true}
use Rattle.basics.specs.Search.{all_in}
use Rattle.basics.specs.Search.Laws.{and_true, all_in_true}
use Rattle.fsbm.specs.Machine.{well_formed}
use Rattle.fsbm.specs.Moves.{accepting, begin_buffering}
use Rattle.language.specs.Bound.{accepted_iff_run}
use Rattle.language.specs.Examples.{Row, run_accepts, run_accepts_plainly, run_does_not, says_no, no_word_at_all, Meaning, holds, rows}
use Rattle.language.specs.NoWord.{no_word}
use Rattle.language.specs.NoWord.Laws.{no_word_lem}
use Rattle.language.specs.Reached.{decided}
use Rattle.language.specs.Reached.Laws.{decided_accepted}

pub all_hold : all_in holds rows ≡ true
unfolding all_in holds
all_hold = refl

pub row_means : (r : Row) → holds r ≡ true → Meaning r
unfolding holds
row_means (run_accepts m list w run) h =
    let (good, a) = and_true (well_formed m list) (accepting m list w run) h in
    (good, a, (accepted_iff_run m list w good).1 (run, a))
row_means (run_accepts_plainly m list w run) h =
    let (good, r) = and_true (well_formed m list) (accepting m list w run && all_in (λ e. ltb e begin_buffering) run) h in
    let (a, plain) = and_true (accepting m list w run) (all_in (λ e. ltb e begin_buffering) run) r in
    (good, a, (accepted_iff_run m list w good).1 (run, a), λ e k. ltb-true e begin_buffering ((all_in_true (λ e. ltb e begin_buffering) run).0 plain e k))
row_means (run_does_not m list w run) h =
    let (good, a) = and_true (well_formed m list) (not (accepting m list w run)) h in
    (good, not-true (accepting m list w run) a)
row_means (says_no m list w) h =
    let (good, a) = and_true (well_formed m list) (not (decided m list w)) h in
    (good, sym (decided_accepted m list w good) ∙ not-true (decided m list w) a)
row_means (no_word_at_all m list) h =
    let (good, a) = and_true (well_formed m list) (no_word m list) h in
    (good, no_word_lem m list a)

pub examples : (r : Row) → Memᴰ r rows → Meaning r
examples r k = row_means r ((all_in_true holds rows).0 all_hold r k)
