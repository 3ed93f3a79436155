-- Level by level.
use Rattle.std.proofs.Common.{◌∙◌, ap, sym, arith}
use Rattle.flex_world.specs.Classes.{base_in}
use Rattle.as3_types.specs.Tables.{table_of}
use Rattle.class_table.specs.Sent.{event_above}
use Rattle.class_table.proofs.EventLevels.{found_here, next_level, none_left, way_ends}
use Rattle.class_table.proofs.event_look_ups.nearest_event.Goals as goal

pub returns : goal.returns
returns c =
    none_left (table_of c.args.table.now) c.args.name.now (event_above c.args.table.now c.args.class c.args.name.now) c.loop-left.left c.loop-left.level c.loop-left.invariant
    (omega (arith, c.loop-left-test.false))

pub returns-in_default : goal.returns-in_default
returns-in_default c =
    way_ends (table_of c.args.table.now) c.args.name.now (event_above c.args.table.now c.args.class c.args.name.now) c.loop-left.left c.loop-left.level c.loop-left.invariant
    c.in_default.is

pub returns-then-is_some : goal.returns-then-is_some
returns-then-is_some c =
    found_here (table_of c.args.table.now) c.args.name.now (event_above c.args.table.now c.args.class c.args.name.now) c.loop-left.left c.loop-left.level c.in-Some.class c.loop-left.invariant
    c.in-Some.is c.loop-left-test.true c.own_event-own.result c.own_event-own.ensures (sym c.if-is_some.ensures)

pub loop-left-preserved : goal.loop-left-preserved
loop-left-preserved c =
    next_level (table_of c.args.table.now) c.args.name.now (event_above c.args.table.now c.args.class c.args.name.now) c.loop-left.left c.loop-left.level c.in-Some.class c.loop-left.invariant
    c.in-Some.is c.loop-left-test.true c.own_event-own.result c.base_of-level.result c.own_event-own.ensures (sym c.if-is_some.ensures)
    (c.base_of-level.ensures ∙ ap (λ bases. base_in bases c.in-Some.class) c.as_slice.ensures)
