use Rattle.std.proofs.Common.{sym}
use Rattle.as3_parser.proofs.MemberSteps as steps
use Rattle.as3_parser.proofs.members.modifiers.Goals as goal

pub loop-modifier-init : goal.loop-modifier-init
loop-modifier-init c = steps.modifiers_start c.new-modifiers.ensures.items

pub loop-modifier-smaller : goal.loop-modifier-smaller
loop-modifier-smaller c = steps.modifiers_on c.requires c.loop-modifier.invariant (sym c.in-Some.ensures) c.skip.ensures

pub loop-modifier-preserved : goal.loop-modifier-preserved
loop-modifier-preserved c = steps.modifiers_more c.loop-modifier.invariant (sym c.in-Some.ensures) c.skip.ensures c.in_ok-push.ensures.items

pub returns : goal.returns
returns c = steps.modifiers_end c.loop-modifier.modifiers c.loop-modifier.invariant (sym c.in_default.ensures)
