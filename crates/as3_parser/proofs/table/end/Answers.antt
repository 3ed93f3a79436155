use Rattle.as3_parser.specs.Here.{the_ends}
use Rattle.as3_parser.proofs.Rows.{ends_past}
use Rattle.as3_parser.proofs.table.end.Goals as goal

pub returns-then-row-lt-PLACES : goal.returns-then-row-lt-PLACES
unfolding the_ends
returns-then-row-lt-PLACES c = c.from.ensures

pub returns-else-row-lt-PLACES : goal.returns-else-row-lt-PLACES
unfolding the_ends
returns-else-row-lt-PLACES c = ends_past _ c.if-row-lt-PLACES.false
