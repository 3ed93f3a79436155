-- The laws of writing ABCs.
use Rattle.abc_format.proofs.AbcLaws.{abc_is_read}
use Rattle.abc_writer.specs.Spelling.{abc_bytes}
use Rattle.abc_writer.specs.WritingLaws.{AbcIsWritten, AbcIsReadBack}
use Rattle.abc_writer.proofs.RecordSpellings.{respelled}

pub abc_is_written : AbcIsWritten
abc_is_written a bytes w = record { spelled = respelled a bytes w.spelled; indexes = w.indexes }

pub abc_is_read_back : AbcIsReadBack
abc_is_read_back a bytes w = abc_is_read a (abc_bytes a) (abc_is_written a bytes w)
