use Rattle.as3_lexer.proofs.Letters.{letters_more, letters_done}
use Rattle.as3_lexer.proofs.scanning.texts.letters_len.Goals as goal

pub loop-letter-preserved : goal.loop-letter-preserved
loop-letter-preserved c =
    letters_more c.args.quote c.loop-letter.len c.in-Some.letter c.args.text.now c.loop-letter.invariant.1
    c.in-Some.ensures.value c.in-Some.ensures.some c.in-Some.ensures.within

pub returns-clause-value : goal.returns-clause-value
returns-clause-value c = letters_done c.args.quote c.loop-letter.len c.args.text.now c.loop-letter.invariant.1 c.in_default.ensures.value
