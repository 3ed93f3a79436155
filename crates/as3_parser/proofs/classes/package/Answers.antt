use Rattle.as3_parser.proofs.Reach.{not_so}
use Rattle.as3_parser.proofs.ClassSteps as steps
use Rattle.as3_parser.proofs.classes.package.Goals as goal

pub returns-then-is_next : goal.returns-then-is_next
returns-then-is_next c = steps.package_none (c.is_next.ensures.0 c.if-is_next.true) c.skip.ensures

pub path-requires : goal.path-requires
path-requires c = steps.package_begun c.requires (not_so c.is_next.ensures c.if-is_next.false)

pub returns : goal.returns
returns c = steps.package_whole c.in_ok-names.names (not_so c.is_next.ensures c.if-is_next.false) c.in_ok-names.ensures c.skip-2.ensures
