use Rattle.as3_parser.proofs.Reach.{not_so}
use Rattle.as3_parser.proofs.MetadataSteps.{key_there, value_there, plain_there, argument_keyed, argument_plain}
use Rattle.as3_parser.proofs.metadata.argument.Goals as goal

pub lexeme-requires : goal.lexeme-requires
lexeme-requires c = key_there c.requires (c.is_identifier_next.ensures.0 c.if-is_identifier_next.true)

pub lexeme-requires-then-is_identifier_next : goal.lexeme-requires-then-is_identifier_next
lexeme-requires-then-is_identifier_next c = value_there c.requires (c.is_identifier_next.ensures.0 c.if-is_identifier_next.true) c.in_ok-key.ensures c.skip.ensures

pub returns-then-is_identifier_next : goal.returns-then-is_identifier_next
returns-then-is_identifier_next c = argument_keyed (c.is_identifier_next.ensures.0 c.if-is_identifier_next.true) c.in_ok-key.ensures c.skip.ensures c.in_ok-value.ensures

pub lexeme-requires-2 : goal.lexeme-requires-2
lexeme-requires-2 c = plain_there c.requires (not_so c.is_identifier_next.ensures c.if-is_identifier_next.false)

pub returns : goal.returns
returns c = argument_plain (not_so c.is_identifier_next.ensures c.if-is_identifier_next.false) c.in_ok-value-2.ensures
