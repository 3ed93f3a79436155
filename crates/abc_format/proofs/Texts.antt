-- Texts, by the test whether bytes are UTF-8.
use Rattle.std.proofs.lemmas.Str.{is_utf8-from_IsUtf8}
use Rattle.flex_base.proofs.TextLaws.{utf8_not}

pub ruleset utf8_tests = (utf8_not, is_utf8-from_IsUtf8)
