-- Level by level.
use Rattle.std.proofs.Common.{◌∙◌, ap}
use Rattle.flex_world.specs.Classes.{base_in}
use Rattle.source_sites.specs.LookUps.{member_of}
use Rattle.as3_types.specs.Tables.{member_as, table_of}
use Rattle.as3_types.proofs.Inherited.{found_here, next_level, way_ends}
use Rattle.as3_types.proofs.look_ups.member_of.Goals as goal

pub returns-in_default : goal.returns-in_default
returns-in_default c =
    way_ends (table_of c.args.table.now) c.args.name.now (member_of (table_of c.args.table.now) c.args.class c.args.name.now) c.loop-left.left c.loop-left.level
    c.loop-left.invariant c.in_default.is

pub returns-in-Some-own_member : goal.returns-in-Some-own_member
returns-in-Some-own_member c =
    found_here (table_of c.args.table.now) c.args.name.now (member_of (table_of c.args.table.now) c.args.class c.args.name.now) c.loop-left.left c.loop-left.level
    c.in-Some.class (member_as c.args.name.now c.in-Some-own_member.member) c.loop-left.invariant c.in-Some.is c.loop-left-test.true c.in-Some-own_member.ensures

pub loop-left-preserved : goal.loop-left-preserved
loop-left-preserved c =
    next_level (table_of c.args.table.now) c.args.name.now (member_of (table_of c.args.table.now) c.args.class c.args.name.now) c.loop-left.left c.loop-left.level
    c.base_of-level.result c.in-Some.class c.loop-left.invariant c.in-Some.is c.loop-left-test.true c.in_default-own_member.ensures
    (c.base_of-level.ensures ∙ ap (λ bases. base_in bases c.in-Some.class) c.as_slice.ensures)
