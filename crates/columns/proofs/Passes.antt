-- One pass over a column, as the code goes.
--
-- so_far_fits  == after some bytes of a column the number so far may be moved on
-- column_narrow == the bytes of a column are at most widest_column
-- turned       == what is held after one turn more of the loop
-- numbered     == the number of the column that starts at byte at, from what is held after its bytes
-- passed       == what is held once the bytes of that column are passed
use Rattle.std.specs.Prelude.{ℕ, ◌+◌, ◌<◌, ◌≤◌, ◌^◌, ◌≡◌, Option, List, length, take, drop, get_or}
use Rattle.std.proofs.Common.{refl, sym, ap, ◌∙◌, arith, add-one, length-take, take-suc}
use Rattle.std.proofs.lemmas.List.{take_all}
use Rattle.std.proofs.Math.Nat.{pow-le-pow_right}
use Rattle.columns.specs.Column.{widest_column, no_number, column_number, some_number}
use Rattle.columns.specs.Held.{held, held_next, so_far, held_number}
use Rattle.columns.specs.Held.Laws.{held_told, so_far_below, numbers_column}
use Rattle.columns.specs.declared.Held.{Held}

-- h is what is held after i bytes of s
module _ (s : List ℕ) (i : ℕ) (h : Held) (h-is : h ≡ held (take i s)) where
  pub so_far_fits : length s ≤ widest_column → so_far h ≤ no_number
  so_far_fits f =
      let short : length (take i s) ≤ 10 = simp length-take (omega arith) in
      let g : 10 ^ length (take i s) ≤ 10 ^ 10 = pow-le-pow_right (omega arith) short in
      rw h-is (omega (arith, so_far_below (take i s)))

  pub turned : (r : Held) → i < length s → r ≡ held_next h (get_or s i 0) → r ≡ held (take (i + 1) s)
  turned r f e =
      e ∙ (ap (λ (g : Held). held_next g (get_or s i 0)) h-is
      ∙ (sym (held_told (take i s) (get_or s i 0)) ∙ (ap held (sym (take-suc s i 0 f)) ∙ ap (λ (n : ℕ). held (take n s)) (sym (add-one i)))))

-- the column of width bytes that starts at byte at
module _ (bytes : List ℕ) (at width : ℕ) (narrow : width ≤ widest_column) where
  pub column_narrow : (w : ℕ) → w ≡ width → length (take w (drop at bytes)) ≤ widest_column
  column_narrow w same = simp length-take (omega arith)

  pub numbered : (h : Held) (r : Option ℕ) → h ≡ held (take width (drop at bytes)) → r ≡ held_number h → r ≡ some_number (column_number (take width (drop at bytes)))
  numbered h r h-is e = e ∙ (ap held_number h-is ∙ numbers_column (take width (drop at bytes)) (column_narrow width refl))

-- all of them are passed
pub passed : (bytes : List ℕ) (at width w i : ℕ) (h : Held) → w ≡ width → h ≡ held (take i (take w (drop at bytes))) → length (take w (drop at bytes)) ≤ i → h ≡ held (take width (drop at bytes))
passed bytes at width w i h same h-is done = h-is ∙ (ap held (take_all i (take w (drop at bytes)) done) ∙ ap (λ (v : ℕ). held (take v (drop at bytes))) same)
