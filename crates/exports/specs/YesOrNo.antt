-- The record that C and Rust see of yes or no without a run, made of the number and values of the answer.
--
-- decided_record v == the record of the number and values v of accepts
use Rattle.accepts.specs.Decision.{DecidedValues}
use Rattle.exports.specs.declared.yes_or_no.DecidedRecord.{DecidedRecord}

abbrev pub decided_record : DecidedValues → DecidedRecord
decided_record v = record { refusal = v.refusal; accepted = v.accepted }
