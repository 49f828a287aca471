-- Bools: what a choice, a negation and a negated conjunction say. Generic.
--
-- cond_elim                    == what holds of both arms, each with its test, holds of the choice
-- is_first, is_second          == a choice between two things that differ is the first exactly if its test is true, the second exactly if it is false
-- not_says, says_not           == `not a` is true exactly if a is not true
-- not_and_says, says_not_and   == the same for `not (a && b)`
-- false_iff                    == a Bool that is true exactly if A holds is false exactly if A does not
-- same_truth                   == two Bools that are true together are equal
use Rattle.std.specs.Prelude.{◌≡◌, refl, ◌↔◌, Bool, true, false, cond, not, ◌&&◌}
use Rattle.std.proofs.Common.{sym, ◌∙◌, true≢false}
use Rattle.std.proofs.lemmas.Bool.{false≢true}
use Rattle.basics.specs.Search.Laws.{and_true, and_both_true, not_both}

pub cond_elim : {A : Type 0} (P : A → Type 0) (b : Bool) (x y : A) → (b ≡ true → P x) → (b ≡ false → P y) → P (cond b x y)
cond_elim P true x y t f = t refl
cond_elim P false x y t f = f refl

module _ {A : Type 0} {x y r : A} (differ : x ≡ y → ⊥) where
  pub is_first : (b : Bool) → r ≡ cond b x y → (r ≡ x) ↔ (b ≡ true)
  is_first true e = (λ h. refl, λ h. e)
  is_first false e = (λ h. absurd (differ (sym h ∙ e)), λ h. absurd (false≢true h))

  pub is_second : (b : Bool) → r ≡ cond b x y → (r ≡ y) ↔ (b ≡ false)
  is_second true e = (λ h. absurd (differ (sym e ∙ h)), λ h. absurd (true≢false h))
  is_second false e = (λ h. refl, λ h. e)

pub not_says : (a : Bool) → not a ≡ true → a ≡ true → ⊥
not_says true h t = false≢true h
not_says false h t = false≢true t

pub says_not : (a : Bool) → (a ≡ true → ⊥) → not a ≡ true
says_not true h = absurd (h refl)
says_not false h = refl

pub not_and_says : (a b : Bool) → not (a && b) ≡ true → (a ≡ true) × (b ≡ true) → ⊥
not_and_says a b h (s, t) = not_says (a && b) h (and_both_true a b s t)

pub says_not_and : (a b : Bool) → ((a ≡ true) × (b ≡ true) → ⊥) → not (a && b) ≡ true
says_not_and a b h = says_not (a && b) (λ t. h (and_true a b t))

pub false_iff : {A : Type 0} (b : Bool) → (b ≡ true) ↔ A → (b ≡ false) ↔ (A → ⊥)
false_iff true h = (λ e a. not_both refl e, λ f. absurd (f (h.0 refl)))
false_iff false h = (λ e a. not_both (h.1 a) refl, λ f. refl)

pub same_truth : (a b : Bool) → (a ≡ true → b ≡ true) → (b ≡ true → a ≡ true) → a ≡ b
same_truth true b to from = sym (to refl)
same_truth false true to from = from refl
same_truth false false to from = refl
