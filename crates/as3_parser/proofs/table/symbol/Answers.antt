use Rattle.std.proofs.Common.{refl}
use Rattle.as3_parser.specs.Here.{the_bytes}
use Rattle.as3_parser.proofs.Rows.{bytes_past}
use Rattle.as3_parser.proofs.table.symbol.Goals as goal

pub returns-then-at-lt-BYTES : goal.returns-then-at-lt-BYTES
unfolding the_bytes
returns-then-at-lt-BYTES c = refl

pub returns-else-at-lt-BYTES : goal.returns-else-at-lt-BYTES
unfolding the_bytes
returns-else-at-lt-BYTES c = bytes_past _ c.if-at-lt-BYTES.false
