use Rattle.std.proofs.Common.{◌∙◌, sym}
use Rattle.flex_world.proofs.Upward.{found_above, is_above, no_level, one_up}
use Rattle.flex_world.proofs.ancestors.is_near.Goals as goal

pub returns-in_default : goal.returns-in_default
returns-in_default c =
    no_level c.args.bases.now c.args.wanted (is_above c.args.bases.now c.args.wanted 4 c.args.from) c.loop-left.left c.loop-left.level c.loop-left.invariant c.in_default.is

pub returns-then-is_same_class : goal.returns-then-is_same_class
returns-then-is_same_class c =
    found_above c.args.bases.now c.args.wanted (is_above c.args.bases.now c.args.wanted 4 c.args.from) c.loop-left.left c.loop-left.level c.in-Some.class
    c.loop-left.invariant c.in-Some.is c.loop-left-test.true (sym c.is_same_class.ensures ∙ c.if-is_same_class.true)

pub loop-left-preserved : goal.loop-left-preserved
loop-left-preserved c =
    one_up c.args.bases.now c.args.wanted (is_above c.args.bases.now c.args.wanted 4 c.args.from) c.loop-left.left c.loop-left.level c.base_of-level.result
    c.in-Some.class c.loop-left.invariant c.in-Some.is c.loop-left-test.true (sym c.is_same_class.ensures ∙ c.if-is_same_class.false) c.base_of-level.ensures
