-- A word that is no keyword.
use Rattle.std.proofs.Common.{◌∙◌, ap, sym, not, ◌&&◌}
use Rattle.std.specs.Str.{chars}
use Rattle.std.proofs.lemmas.Str.{is_utf8-from_IsUtf8}
use Rattle.as3_lexer.specs.Spelling.{keyword_of, keywords}
use Rattle.source_sites.specs.Texts.{is_there}
use Rattle.as3_types.specs.Identifiers.{are_word}
use Rattle.as3_types.proofs.ReservedWords.{any_found}
use Rattle.as3_types.proofs.identifiers.is_identifier.Goals as goal

pub returns-then-is_word : goal.returns-then-is_word
returns-then-is_word c =
    let t = c.args.text.now in
    ap not (c.is_keyword.ensures ∙ any_found t keywords)
    ∙ sym (ap (λ b. b && are_word (chars t) && not (is_there (keyword_of t))) (is_utf8-from_IsUtf8 t c.utf8.text) ∙ ap (λ b. b && not (is_there (keyword_of t))) (sym c.if-is_word.ensures))
