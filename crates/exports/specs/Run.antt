-- The records that C and Rust see of the run's calls, made of the number and values of each answer.
--
-- config_of r          == the configuration that a record describes
-- record_of c          == the record of a configuration
-- moved_record r next  == the record of a move from the record r
-- stepped_record r v   == the record of the number and values v of Config::step, from the record r
-- checked_record v     == the record of the number and values v of check_run
use Rattle.std.specs.Prelude.{ℕ, cond, ltb, eqb}
use Rattle.fsbm.specs.Moves.{mode_number}
use Rattle.fsbm.specs.declared.config.Config.{Config}
use Rattle.fsbm.specs.declared.config.Mode.{Mode}
use Rattle.fsbm.specs.declared.config.Mode.TheVariants.{Normal, Buffering, Emptying}
use Rattle.fsbm.specs.Answers.{SteppedValues, CheckedValues}
use Rattle.exports.specs.declared.run.ConfigRecord.{ConfigRecord}
use Rattle.exports.specs.declared.run.SteppedRecord.{SteppedRecord}
use Rattle.exports.specs.declared.run.CheckedRecord.{CheckedRecord}

-- 0 normal, 1 buffering, 2 emptying; what a larger number stands for does not matter, since no move is allowed from it
abbrev pub mode_of : ℕ → Mode
mode_of n = cond (eqb n 0) Normal (cond (eqb n 1) Buffering Emptying)

abbrev pub config_of : ConfigRecord → Config
config_of r = record { position = r.position; state = r.state; mode = mode_of r.mode; start = r.start; end = r.end }

abbrev pub record_of : Config → ConfigRecord
record_of c = record { position = c.position; state = c.state; mode = mode_number c.mode; start = c.start; end = c.end }

-- the record that came in, where no move was made; so also where its mode is none
abbrev pub no_move : ConfigRecord → ℕ → SteppedRecord
no_move r refusal = record { refusal = refusal; allowed = 0; config = r }

abbrev pub moved_record : ConfigRecord → Config → SteppedRecord
moved_record r next = cond (ltb 2 r.mode) (no_move r 0) (record { refusal = 0; allowed = 1; config = record_of next })

abbrev pub stepped_record : ConfigRecord → SteppedValues → SteppedRecord
stepped_record r v = cond (eqb v.allowed 1) (moved_record r v.config) (no_move r v.refusal)

abbrev pub checked_record : CheckedValues → CheckedRecord
checked_record v = record { refusal = v.refusal; accepting = v.accepting }
