-- What a memo holds, and where, from one change to the next.
--
-- same_here, same_join     == no change keeps the places, and one change after another
-- holds_lent               == what a memo held is kept in the lent numbers
-- kept_rowed, kept_noted   == what is kept is right after one row more and after one step more
use Prim.Native.Nat.{ℕ}
use mathlib.Core.Path.{◌≡◌, refl, subst, ◌∙◌}
use mathlib.Core.List.{List}
use Rattle.std.specs.Prelude.{Option}
use Rattle.fsbm.specs.declared.config.Mode.{Mode}
use Rattle.images.specs.Graph.{Members, From, Graph}
use Rattle.subsets.specs.Rows.{Image, Kept, Rowed, Noted}
use Rattle.subsets.specs.Memo.{Holds, SamePlaces}
use Rattle.subsets.specs.declared.Memo.{Memo}

pub same_join : {a b c : Memo} → SamePlaces a b → SamePlaces b c → SamePlaces a c
same_join s t = record { columns = t.columns ∙ s.columns; rows = t.rows ∙ s.rows; steps = t.steps ∙ s.steps }

-- what a memo held is kept in the lent numbers
pub holds_lent : {G H : Graph} (m : Memo) {n : ℕ} {rows steps : List ℕ} → Holds G m → G ≡ H → m.columns ≡ n → rows ≡ m.rows.now → steps ≡ m.steps.now → Kept H n rows steps
holds_lent {G} {H} m {n} {rows} {steps} k g c r s = rw (r, s) (subst (λ (j : ℕ). Kept H j m.rows.now m.steps.now) c (subst (λ (F : Graph). Kept F m.columns m.rows.now m.steps.now) g k))

pub kept_rowed : {columns columns' : ℕ} {rows steps rows' steps' : List ℕ} {s : ℕ} {r : Option ℕ} {G : Graph} → Rowed columns rows steps rows' steps' s r → columns' ≡ columns
    → Kept G columns rows steps → Kept G columns' rows' steps'
kept_rowed {G = G} r e k = rw e (record { sized = r.sized; right = r.right G k.right })

pub kept_noted : {columns columns' : ℕ} {rows steps rows' steps' : List ℕ} {T : Mode} {c s to : ℕ} {G : Graph} → Noted columns rows steps steps' T c s to → rows' ≡ rows → columns' ≡ columns
    → Kept G columns rows steps → Members to (From s (Image G T c)) → Kept G columns' rows' steps'
kept_noted {G = G} n d e k m = rw (d, e) (record { sized = n.sized; right = n.right G k.right m })

pub same_here : (a : Memo) → SamePlaces a a
same_here a = record { columns = refl; rows = refl; steps = refl }
