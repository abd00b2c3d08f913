use Rattle.walter_fields.proofs.Numbers.{length-number_spelled, number_read-spelled, number_spelled-read, same_number}
use Rattle.walter_fields.proofs.Readings.{same_signed, same_block}
use Rattle.walter_fields.proofs.laws.spellings_and_numbers.Goals as goal

pub returns-clause-counted : goal.returns-clause-counted
returns-clause-counted c = length-number_spelled

pub returns-clause-read : goal.returns-clause-read
returns-clause-read c = number_read-spelled

pub returns-clause-spelled : goal.returns-clause-spelled
returns-clause-spelled c = number_spelled-read

pub returns-clause-numbers : goal.returns-clause-numbers
returns-clause-numbers c = same_number

pub returns-clause-signed : goal.returns-clause-signed
returns-clause-signed c = same_signed

pub returns-clause-blocks : goal.returns-clause-blocks
returns-clause-blocks c = same_block
