-- Bounded search: tests on all numbers below a bound, on the elements of a list, on all short lists of small numbers.
-- The laws stand in specs/Search/Laws.antt. Assumes nothing.
--
-- any_below n p         == some k < n has p k
-- all_below n p         == every k < n has p k
-- any_in p l            == some element of l has p
-- all_in p l            == every element of l has p
-- AllBelow n l         == every element of the list of numbers l is below n (a type)
-- exists_list n len p   == some list of at most len numbers, each below n, has p
use Rattle.std.specs.Prelude.{Bool, true, false, ◌||◌, ◌&&◌, List, [], ◌∷◌, ℕ, zero, suc, ◌<◌}
pub mod Laws
pub mod Loops

-- The `let` keeps the rest from being computed where the first test decides.
unfoldable pub any_below : ℕ → (ℕ → Bool) → Bool
any_below zero p = false
any_below (suc n) p = let rest = any_below n p in p n || rest

unfoldable pub all_below : ℕ → (ℕ → Bool) → Bool
all_below zero p = true
all_below (suc n) p = let rest = all_below n p in p n && rest

module _ {A : Type 0} where
  unfoldable pub any_in : (A → Bool) → List A → Bool
  any_in p [] = false
  any_in p (x ∷ l) = let rest = any_in p l in p x || rest

  unfoldable pub all_in : (A → Bool) → List A → Bool
  all_in p [] = true
  all_in p (x ∷ l) = let rest = all_in p l in p x && rest

pub data AllBelow (n : ℕ) : List ℕ → Type 0 where
  none : AllBelow n []
  more : {x : ℕ} {l : List ℕ} → x < n → AllBelow n l → AllBelow n (x ∷ l)

-- Shut, and never computed at real sizes: use its laws.
pub exists_list : ℕ → ℕ → (List ℕ → Bool) → Bool
exists_list n zero p = p []
exists_list n (suc len) p = p [] || any_below n (λ e. exists_list n len (λ l. p (e ∷ l)))
