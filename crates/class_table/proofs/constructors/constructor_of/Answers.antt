-- Member by member.
use Rattle.std.proofs.Common.{sym}
use Rattle.class_table.specs.Columns.{constructor_written}
use Rattle.class_table.proofs.FirstConstructor.{found_here, goes_on}
use Rattle.class_table.proofs.constructors.constructor_of.Goals as goal

pub returns-then-is_some : goal.returns-then-is_some
returns-then-is_some c =
    found_here c.args.classes.now c.args.here.now (constructor_written c.args.classes.now c.args.here.now c.args.members.now) c.loop-member.rest.now c.in-Some.others.now c.in-Some.member.now c.loop-member.invariant
    c.in-Some.ensures.cases.0 c.in_ok-found.found c.in_ok-found.ensures (sym c.if-is_some.ensures)

pub loop-member-preserved : goal.loop-member-preserved
loop-member-preserved c =
    goes_on c.args.classes.now c.args.here.now (constructor_written c.args.classes.now c.args.here.now c.args.members.now) c.loop-member.rest.now c.in-Some.others.now c.in-Some.member.now c.loop-member.invariant
    c.in-Some.ensures.cases.0 c.in_ok-found.found c.in_ok-found.ensures (sym c.if-is_some.ensures)
