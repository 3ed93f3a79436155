use Rattle.std.proofs.Common.{◌≡◌, ◌+◌, length}
use Rattle.source_sites.specs.Names.{is_named, number_of}
use Rattle.as3_types.proofs.meaning.place_named.Given as goal

abbrev pub invariant-loop-class : goal.invariant-loop-class
invariant-loop-class l = (number_of (is_named l.fn.folder l.fn.name) 0 l.fn.classes ≡ number_of (is_named l.fn.folder l.fn.name) l.place l.rest) × (l.place + length l.rest ≡ length l.fn.classes)

abbrev pub decreases-loop-class : goal.decreases-loop-class
decreases-loop-class l = length l.rest
