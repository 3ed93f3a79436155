-- The laws are lemmas.
use Rattle.abc_writer.proofs.WritingLaws.{abc_is_written, abc_is_read_back}
use Rattle.abc_writer.proofs.laws.laws_of_writing.Goals as goal

pub returns-clause-written : goal.returns-clause-written
returns-clause-written c = abc_is_written

pub returns-clause-read_back : goal.returns-clause-read_back
returns-clause-read_back c = abc_is_read_back
