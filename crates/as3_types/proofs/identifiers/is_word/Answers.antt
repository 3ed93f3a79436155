-- The first character, and the others.
use Rattle.std.proofs.Common.{◌≡◌, ◌∙◌, ◌++◌, ap, sym, ◌&&◌, encode_utf8}
use Rattle.std.specs.List.{list_all}
use Rattle.std.specs.Str.{chars}
use Rattle.std.specs.Str.Iter.{chars_rest}
use Rattle.std.proofs.lemmas.Str.{chars_past_char}
use Rattle.as3_lexer.specs.Forms.{continues_word}
use Rattle.as3_types.specs.Identifiers.{are_word}
use Rattle.as3_types.proofs.identifiers.is_word.Goals as goal

pub returns-then-starts_word : goal.returns-then-starts_word
returns-then-starts_word c =
    let rest = chars_rest c.next.new.self in
    let is : c.args.text.now ≡ encode_utf8 c.in-Some.first ++ rest = sym c.chars-characters.ensures.rest ∙ c.in-Some.ensures.steps.0 in
    c.are_continued.ensures
    ∙ (ap (λ t. list_all continues_word (chars t)) c.as_str.ensures
    ∙ (ap (λ b. b && list_all continues_word (chars rest)) c.if-starts_word.ensures ∙ sym (ap are_word (chars_past_char c.args.text.now rest c.in-Some.first c.utf8.text is))))
