use Rattle.std.proofs.Common.{rules}
use Rattle.std.specs.Str.Iter.{chars_rest}
use Rattle.as3_lexer.proofs.Characters.{none_continued, ends_here, goes_on}
use Rattle.as3_lexer.proofs.scanning.words.continued_len.Goals as goal

pub returns-then-not-continues_word-clause-value : goal.returns-then-not-continues_word-clause-value
returns-then-not-continues_word-clause-value c =
    ends_here c.args.text.now (chars_rest c.loop-character.character-iterator) (chars_rest c.next.new.self) c.loop-character.len c.in-Some.character
    c.loop-character.invariant.2 c.loop-character.invariant.4 c.in-Some.ensures.steps.0 (search rules)

pub loop-character-preserved : goal.loop-character-preserved
loop-character-preserved c =
    let more = goes_on c.args.text.now (chars_rest c.loop-character.character-iterator) (chars_rest c.next.new.self) c.loop-character.len c.in-Some.character c.len_utf8-len.result
    c.loop-character.invariant.2 c.loop-character.invariant.3 c.loop-character.invariant.4 c.in-Some.ensures.steps.0 (search rules) c.len_utf8-len.ensures.len in
    (tt, tt, more.0, more.1, more.2)

pub returns-clause-value : goal.returns-clause-value
returns-clause-value c = none_continued c.args.text.now (chars_rest c.loop-character.character-iterator) c.loop-character.len c.loop-character.invariant.2 c.in-None.ensures.steps.0.0
