-- The laws are lemmas.
use Rattle.swf_tags.proofs.SwfLaws.{swf_is_read, read_is_swf, swf_or_fault}
use Rattle.swf_tags.proofs.laws.laws_of_reading.Goals as goal

pub returns-clause-file_is_read : goal.returns-clause-file_is_read
returns-clause-file_is_read c = swf_is_read

pub returns-clause-read_is_file : goal.returns-clause-read_is_file
returns-clause-read_is_file c = read_is_swf

pub returns-clause-one_of_both : goal.returns-clause-one_of_both
returns-clause-one_of_both c = swf_or_fault
