use Rattle.std.proofs.Common.{drop, length}
use denote.Text.{Utf8}
use denote.Shadow.{shadow}
use Rattle.as3_lexer.specs.Tokens.{start_of}
use Rattle.as3_lexer.proofs.Readings.{Progress}
use Rattle.as3_lexer.proofs.reading.tokens.Given as goal

abbrev pub invariant-loop-rest : goal.invariant-loop-rest
invariant-loop-rest l = shadow (Utf8 l.rest) × Progress (drop (start_of l.text) l.text) (start_of l.text) l.tokens l.rest

abbrev pub decreases-loop-rest : goal.decreases-loop-rest
decreases-loop-rest l = length l.rest
