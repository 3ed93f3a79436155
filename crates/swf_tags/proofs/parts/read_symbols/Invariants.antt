use Rattle.std.specs.Option.{option_copied}
use Rattle.swf_tags.specs.Reading.{read_symbols}
use Rattle.swf_tags.proofs.Walks.{PairsLead}
use Rattle.swf_tags.proofs.parts.read_symbols.Given as goal

abbrev pub invariant-loop-pair : goal.invariant-loop-pair
invariant-loop-pair l = PairsLead (read_symbols l.body) l.count l._pair (option_copied l.main) l.rest
