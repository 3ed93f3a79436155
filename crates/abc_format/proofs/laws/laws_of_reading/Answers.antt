-- The laws are lemmas.
use Rattle.abc_format.proofs.AbcLaws.{abc_is_read, read_is_abc, one_abc, abc_or_fault}
use Rattle.abc_format.proofs.laws.laws_of_reading.Goals as goal

pub returns-clause-abc_is_read : goal.returns-clause-abc_is_read
returns-clause-abc_is_read c = abc_is_read

pub returns-clause-read_is_abc : goal.returns-clause-read_is_abc
returns-clause-read_is_abc c = read_is_abc

pub returns-clause-one : goal.returns-clause-one
returns-clause-one c = one_abc

pub returns-clause-one_of_both : goal.returns-clause-one_of_both
returns-clause-one_of_both c = abc_or_fault
