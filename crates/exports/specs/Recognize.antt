-- The record that C and Rust see of recognition, made of the number and values of its answer.
--
-- recognized_record v == the record of the number and values v of recognize
-- Exported         == the contract of recognize, with its answer as a record
use Rattle.std.specs.Prelude.{ℕ, ◌≡◌, List, Option, Result}
use Rattle.fsbm.specs.declared.machine.Machine.{Machine}
use Rattle.recognize.specs.Recognition.{RecognizedValues, recognized_values, Recognition}
use Rattle.fsbm.specs.declared.answer.Refusal.{Refusal}
use Rattle.exports.specs.declared.recognition.RecognitionRecord.{RecognitionRecord}

abbrev pub recognized_record : RecognizedValues → RecognitionRecord
recognized_record v = record { refusal = v.refusal; needed = v.needed; accepted = v.accepted; entries = v.entries }

pub record Exported (m : Machine) (list w before after : List ℕ) (r : RecognitionRecord) : Type 0 where
  pub answer : Result (Option ℕ) Refusal
  pub recognition : Recognition m list w before after answer
  pub as_record : r ≡ recognized_record (recognized_values answer)
