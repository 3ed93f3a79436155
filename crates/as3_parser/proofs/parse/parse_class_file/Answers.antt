use Rattle.as3_parser.proofs.ClassSteps.{file_begun, file_of}
use Rattle.as3_parser.proofs.parse.parse_class_file.Goals as goal

pub class_file-requires : goal.class_file-requires
class_file-requires c = file_begun c.as_slice.ensures c.utf8.text c.requires c.in_ok-check_syntax.ensures.sentence

pub returns-clause-tree : goal.returns-clause-tree
returns-clause-tree c = file_of c.as_slice.ensures c.in_ok-check_syntax.ensures.sentence c.in_ok-file.ensures
