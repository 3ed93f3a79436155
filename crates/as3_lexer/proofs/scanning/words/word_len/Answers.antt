use Rattle.std.proofs.Common.{rules, sym, ◌∙◌}
use Rattle.std.specs.Str.Iter.{chars_rest}
use Rattle.as3_lexer.proofs.Characters.{word_is}
use Rattle.as3_lexer.proofs.scanning.words.word_len.Goals as goal

pub returns-clause-value : goal.returns-clause-value
returns-clause-value c =
    word_is c.args.text.now (chars_rest c.next.new.self) c.in_ok-first.first c.continued_len.result c.len_utf8.result
    c.utf8.text (sym c.chars-characters.ensures.rest ∙ c.in_ok-first.ensures.steps.0) (search rules) (search rules) c.len_utf8.ensures.len
