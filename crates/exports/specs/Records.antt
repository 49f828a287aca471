-- The records that C and Rust see of the answers that more than one call gives, made of the number and values of each answer.
--
-- counted v        == the record of the number and values v of a call that writes to a slice
-- machine_record v == the record of the number and values v of a call that gives a table
use Rattle.fsbm.specs.Answers.{CountValues, MachineValues}
use Rattle.exports.specs.declared.records.Counted.{Counted}
use Rattle.exports.specs.declared.records.MachineRecord.{MachineRecord}

abbrev pub counted : CountValues → Counted
counted v = record { refusal = v.refusal; needed = v.needed; count = v.count }

abbrev pub machine_record : MachineValues → MachineRecord
machine_record v = record { refusal = v.refusal; needed = v.needed; machine = v.machine }
