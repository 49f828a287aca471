-- The laws of specs/Halves.antt.
--
-- shared_end           == at the end of the word nothing is shared
-- shared_more, shared_none, shared_past == from position i + 1 to position i: the letters are equal, they differ, they are not there
-- shared_halves, shared_unequal == a stretch stands a second time after itself just if the count is large enough
use Rattle.std.specs.Prelude.{ℕ, zero, suc, ◌+◌, ◌≤◌, ◌<◌, ◌≡◌, refl, List, length, get_or}
use Rattle.std.proofs.Common.{sym, ap, ◌∙◌, arith}
use Rattle.tables.specs.Halves.{Halves, Shared, SharedFrom}

module _ (w : List ℕ) where
  pub shared_end : (counts : List ℕ) → length counts ≡ 128 → ((d : ℕ) → get_or counts d 0 ≡ 0) → SharedFrom w (length w) counts
  shared_end counts size zeros = record { size = size; each = each }
    where
      each : (d : ℕ) → 0 < d → d < 128 → Shared w (length w) d (get_or counts d 0)
      each d pos l =
          let z = zeros d in
          record {
            equal = λ (k : ℕ) (lt : k < get_or counts d 0). absurd (omega arith);
            stops = λ (lt : length w + d + get_or counts d 0 < length w). absurd (omega arith);
            inside = omega arith;
            outside = λ o. z;
          }

  pub shared_more : (i d r : ℕ) → i + d < length w → get_or w i 0 ≡ get_or w (i + d) 0 → Shared w (i + 1) d r → Shared w i d (r + 1)
  shared_more i d r in_word same s =
      record {
        equal = equal;
        stops = λ l e. s.stops (omega arith) (ap (λ (z : ℕ). get_or w z 0) one ∙ e ∙ ap (λ (z : ℕ). get_or w z 0) (sym two));
        inside = omega (arith, s.inside);
        outside = λ (o : length w ≤ i + d). absurd (omega arith);
      }
    where
      one : i + 1 + r ≡ i + (r + 1)
      one = omega arith

      two : i + 1 + d + r ≡ i + d + (r + 1)
      two = omega arith

      equal : (k : ℕ) → k < r + 1 → get_or w (i + k) 0 ≡ get_or w (i + d + k) 0
      equal zero l =
          let a : i + 0 ≡ i = omega arith in
          let b : i + d + 0 ≡ i + d = omega arith in
          ap (λ (z : ℕ). get_or w z 0) a ∙ same ∙ ap (λ (z : ℕ). get_or w z 0) (sym b)
      equal (suc k) l =
          let a : i + suc k ≡ i + 1 + k = omega arith in
          let b : i + d + suc k ≡ i + 1 + d + k = omega arith in
          ap (λ (z : ℕ). get_or w z 0) a ∙ s.equal k (omega arith) ∙ ap (λ (z : ℕ). get_or w z 0) (sym b)

  pub shared_none : (i d : ℕ) → i + d < length w → (get_or w i 0 ≡ get_or w (i + d) 0 → ⊥) → Shared w i d 0
  shared_none i d in_word differ =
      let a : i + 0 ≡ i = omega arith in
      let b : i + d + 0 ≡ i + d = omega arith in
      record {
        equal = λ (k : ℕ) (l : k < 0). absurd (omega arith);
        stops = λ l e. differ (ap (λ (z : ℕ). get_or w z 0) (sym a) ∙ e ∙ ap (λ (z : ℕ). get_or w z 0) b);
        inside = omega arith;
        outside = λ o. refl;
      }

  pub shared_past : (i d r : ℕ) → length w ≤ i + d → i ≤ length w → Shared w (i + 1) d r → Shared w i d r
  shared_past i d r past le s =
      let z : r ≡ 0 = s.outside (omega arith) in
      record {
        equal = λ (k : ℕ) (l : k < r). absurd (omega arith);
        stops = λ (l : i + d + r < length w). absurd (omega arith);
        inside = omega arith;
        outside = λ o. z;
      }

  pub shared_halves : (i d r : ℕ) → Shared w i d r → d ≤ r → Halves w i d
  shared_halves i d r s l k lt = s.equal k (omega arith)

  pub shared_unequal : (i d r : ℕ) → i + d + d ≤ length w → Shared w i d r → r < d → Halves w i d → ⊥
  shared_unequal i d r le s l h = s.stops (omega arith) (h r l)
