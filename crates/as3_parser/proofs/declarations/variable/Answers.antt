use Rattle.as3_parser.proofs.Reach.{not_so}
use Rattle.as3_parser.proofs.SimpleSteps.{variable_name, variable_path, variable_plain, variable_value, variable_whole}
use Rattle.as3_parser.proofs.declarations.variable.Goals as goal

pub lexeme-requires : goal.lexeme-requires
lexeme-requires c = variable_name c.requires

pub path-requires : goal.path-requires
path-requires c = variable_path c.requires c.in_ok-name.ensures c.skip.ensures

pub returns-then-not-is_next : goal.returns-then-not-is_next
returns-then-not-is_next c = variable_plain c.in_ok-type_name.type_name c.in_ok-name.ensures c.skip.ensures c.in_ok-type_name.ensures (not_so c.is_next.ensures c.if-not-is_next.true)

pub expression-requires : goal.expression-requires
expression-requires c = variable_value c.requires c.in_ok-name.ensures c.skip.ensures c.in_ok-type_name.ensures (c.is_next.ensures.0 c.if-not-is_next.false) c.skip-2.ensures

pub returns : goal.returns
returns c = variable_whole c.in_ok-type_name.type_name c.in_ok-name.ensures c.skip.ensures c.in_ok-type_name.ensures (c.is_next.ensures.0 c.if-not-is_next.false) c.skip-2.ensures c.in_ok-value.ensures
