-- Texts that are one identifier, and no keyword.
use Rattle.std.specs.Prelude.{ℕ, List, [], ◌∷◌, Bool, false, ◌&&◌, not}
use Rattle.std.specs.List.{list_all}
use Rattle.std.specs.Str.{chars, is_utf8}
use Rattle.as3_lexer.specs.Forms.{continues_word, starts_word}
use Rattle.as3_lexer.specs.Spelling.{keyword_of}
use Rattle.source_sites.specs.Texts.{Text, is_there}

-- characters of which the first begins a word and the others continue it
abbrev pub are_word : List ℕ → Bool
are_word [] = false
are_word (first ∷ others) = starts_word first && list_all continues_word others

abbrev pub is_identifier : Text → Bool
is_identifier text = is_utf8 text && are_word (chars text) && not (is_there (keyword_of text))
