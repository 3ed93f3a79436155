use Rattle.std.proofs.Common.{◌≡◌, ◌+◌, length}
use Rattle.std.specs.Str.{chars, IsUtf8}
use Rattle.std.specs.Str.Iter.{chars_rest}
use Rattle.as3_lexer.specs.Scanning.{continued_len}
use Rattle.as3_lexer.proofs.scanning.words.continued_len.Given as goal

abbrev pub invariant-loop-character : goal.invariant-loop-character
invariant-loop-character l =
    (goal.iterator-loop-character).can_next l.character-iterator ×
    (goal.iterator-loop-character).is_finite l.character-iterator ×
    (l.len + continued_len (chars (chars_rest l.character-iterator)) ≡ continued_len (chars l.text)) ×
    (l.len + length (chars_rest l.character-iterator) ≡ length l.text) ×
    IsUtf8 (chars_rest l.character-iterator)
