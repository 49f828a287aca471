-- The record that C and Rust see of the search for a shortest common word, made of the number and values of its answer.
--
-- common_record v       == the record of the number and values v of common_word
-- ExportedCommon       == the contract of common_word, with its answer as a record
use Rattle.std.specs.Prelude.{ℕ, ◌≡◌, List, Option, Result}
use Rattle.fsbm.specs.declared.machine.Machine.{Machine}
use Rattle.fsbm.specs.declared.answer.Refusal.{Refusal}
use Rattle.common.specs.declared.Lengths.{Lengths}
use Rattle.common.specs.Common.{CommonValues, common_values, CommonWord}
use Rattle.exports.specs.declared.common_words.CommonRecord.{CommonRecord}

abbrev pub common_record : CommonValues → CommonRecord
common_record v =
    record { refusal = v.refusal; needed = v.needed; found = v.found; letters = v.letters; first = v.first; second = v.second }

pub record ExportedCommon (m₁ : Machine) (l₁ : List ℕ) (m₂ : Machine) (l₂ : List ℕ) (word word' first first' second second' : List ℕ) (r : CommonRecord) : Type 0 where
  pub answer : Result (Option Lengths) Refusal
  pub common_word : CommonWord m₁ l₁ m₂ l₂ word word' first first' second second' answer
  pub as_record : r ≡ common_record (common_values answer)
