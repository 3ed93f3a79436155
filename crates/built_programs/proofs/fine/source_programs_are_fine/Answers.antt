use Rattle.built_programs.specs.Programs.{source_program}
use Rattle.built_programs.proofs.FineLaws.{programs_are_fine, source_programs_are_fine}
use Rattle.built_programs.proofs.fine.source_programs_are_fine.Goals as goal

pub returns-clause-documents : goal.returns-clause-documents
returns-clause-documents c = programs_are_fine

pub returns-clause-sources : goal.returns-clause-sources
returns-clause-sources c = source_programs_are_fine

pub returns-clause-never_stuck : goal.returns-clause-never_stuck
returns-clause-never_stuck c = λ name bytes d h events turns. c.fine_programs_are_never_stuck.ensures (source_program d) (source_programs_are_fine name bytes d h) events turns
