use Rattle.std.proofs.Common.{refl}
use Rattle.as3_parser.specs.declared.start.Start.TheVariants as start
use Rattle.as3_parser.proofs.Sentences.{whole_begun, expression_of}
use Rattle.as3_parser.proofs.parse.parse_expression.Goals as goal

pub expression-requires : goal.expression-requires
expression-requires c = whole_begun start.Expression refl c.as_slice.ensures c.utf8.text c.requires c.in_ok-check_syntax.ensures.sentence

pub returns-clause-tree : goal.returns-clause-tree
returns-clause-tree c = expression_of c.as_slice.ensures c.in_ok-check_syntax.ensures.sentence c.in_ok-expression.ensures
