use Rattle.std.proofs.Common.{◌≡◌, ◌≤◌, ◌+◌, ◌-◌, length, drop}
use Rattle.as3_lexer.specs.Scanning.{letters_len}
use Rattle.as3_lexer.proofs.scanning.texts.letters_len.Given as goal

abbrev pub invariant-loop-letter : goal.invariant-loop-letter
invariant-loop-letter l = (l.len ≤ length l.text) × (letters_len l.quote 0 l.text ≡ l.len + letters_len l.quote 0 (drop l.len l.text))

abbrev pub decreases-loop-letter : goal.decreases-loop-letter
decreases-loop-letter l = length l.text - l.len
