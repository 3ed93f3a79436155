-- The reader's structs as what the reading speaks of.
use Rattle.std.specs.Prelude.{ℕ, List, Option}
use Rattle.std.specs.Option.{option_copied}
use Rattle.swf_tags.specs.File as swf
use Rattle.swf_tags.specs.Fields.{Front}
use Rattle.swf_tags.specs.Reading as reading
use Rattle.swf_tags.specs.declared.parts.Head.{Head}
use Rattle.swf_tags.specs.declared.parts.Pair.{Pair}
use Rattle.swf_tags.specs.declared.parts.Symbols.{Symbols}

abbrev pub head_view : Head → reading.Head
head_view head = record { version = head.version; length = head.length; start = head.start; rest = head.rest.now }

abbrev pub pair_view : Pair → Front swf.Pair
pair_view pair = record { it = record { id = pair.id; name = pair.name.now }; rest = pair.rest.now }

abbrev pub symbols_view : Symbols → Option (List ℕ)
symbols_view symbols = option_copied symbols.main
