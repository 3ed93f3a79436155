use Rattle.as3_parser.proofs.Ahead.{cut_at}
use Rattle.as3_parser.proofs.reading.lexeme.Goals as goal

pub lexeme_of-requires : goal.lexeme_of-requires
lexeme_of-requires c = cut_at _ c.requires
