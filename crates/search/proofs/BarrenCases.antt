-- A product that accepts no word.
--
-- barren_past          == then the two machines have no common word
use Prim.Native.Nat.{ℕ, ◌<◌}
use mathlib.Core.Path.{◌≡◌, sym, ◌∙◌, subst₂}
use mathlib.Core.Bool.{false}
use mathlib.Core.List.{List}
use Rattle.fsbm.specs.Accepted.{accepted}
use Rattle.fsbm.specs.Published.{fsbm_of, InLanguage}
use Rattle.fsbm.specs.declared.machine.Machine.{Machine}
use Rattle.language.specs.Bound.{accepted_not_published}
use Rattle.pieces.specs.Bound.{word_bound}
use Rattle.common.specs.Common.{least_common}
use Rattle.common.proofs.CommonLaws.{common_joined, none_common}
use Rattle.found.specs.Joined.{Joined}
use Rattle.found.proofs.SearchCases.{joined_good}

pub barren_past : {m₁ : Machine} {l₁ : List ℕ} {m₂ : Machine} {l₂ : List ℕ} {m : Machine} {list : List ℕ} → Joined m₁ l₁ m₂ l₂ m list
    → ((w : List ℕ) → InLanguage (fsbm_of m list) w → ⊥) → word_bound < least_common m₁ l₁ m₂ l₂
barren_past {m₁} {l₁} {m₂} {l₂} {m} {list} j empty =
    (none_common m₁ l₁ m₂ l₂ j.fine).1
    (λ w.
    sym (common_joined m₁ l₁ m₂ l₂ j.fine j.rest w)
    ∙ subst₂ (λ (x : Machine) (y : List ℕ). accepted x y w ≡ false) j.machine j.transitions ((accepted_not_published m list w (joined_good j)).1 (empty w)))
