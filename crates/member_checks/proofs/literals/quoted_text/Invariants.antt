use Rattle.std.proofs.Common.{◌≡◌, ◌++◌, drop}
use Rattle.source_sites.specs.Literals.{letters_text, quoted_text}
use Rattle.member_checks.specs.Letters.{stand_of}
use Rattle.member_checks.proofs.literals.quoted_text.Given as goal

abbrev pub invariant-loop-byte : goal.invariant-loop-byte
invariant-loop-byte l = l.text ++ letters_text (stand_of l.stand) (drop l.byte-index l.letters) ≡ quoted_text l.fn.written
