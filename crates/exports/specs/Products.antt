-- The record that C and Rust see of the copy list, made of the number and values of the answer.
--
-- copy_list_record v == the record of the number and values v of list_copies
use Rattle.copies.specs.Copies.{CopiedValues}
use Rattle.exports.specs.declared.products.CopyList.{CopyList}

abbrev pub copy_list_record : CopiedValues → CopyList
copy_list_record v = record { refusal = v.refusal; needed = v.needed; copies = v.copies; total = v.total }
