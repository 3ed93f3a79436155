-- The laws are lemmas.
use Rattle.swf_tags.proofs.SwfLaws.{swf_is_read_back, swf_is_written}
use Rattle.swf_tags.proofs.laws.laws_of_writing.Goals as goal

pub returns-clause-written : goal.returns-clause-written
returns-clause-written c = swf_is_written

pub returns-clause-read_back : goal.returns-clause-read_back
returns-clause-read_back c = swf_is_read_back
