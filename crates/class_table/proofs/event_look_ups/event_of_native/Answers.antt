-- By its row.
use Rattle.std.specs.Prelude.{Some, None}
use Rattle.as3_types.specs.Tables.{table_of}
use Rattle.class_table.proofs.OwnEvents.{of_row}
use Rattle.class_table.proofs.event_look_ups.event_of_native.Goals as goal

pub returns-in-Some : goal.returns-in-Some
returns-in-Some c = λ table. of_row c.args.name.now (table_of table) c.args.class (Some c.in-Some.row) c.in-Some.ensures

pub returns-in-None : goal.returns-in-None
returns-in-None c = λ table. of_row c.args.name.now (table_of table) c.args.class None c.in-None.ensures
