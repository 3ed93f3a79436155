use Rattle.std.proofs.Common.{refl}
use Rattle.as3_parser.specs.Here.{the_cells}
use Rattle.as3_parser.proofs.table.cell.Goals as goal

pub returns : goal.returns
unfolding the_cells
returns c = refl
