use Rattle.std.proofs.Common.{subst, ◌-◌}
use Rattle.as3_parser.specs.Here.{Expanded}
use Rattle.as3_parser.proofs.Loop.{settle_token, settle_empty, settle_fails, settle_more, settle_smaller, settle_act, act_smaller}
use Rattle.as3_parser.proofs.faults.settle.Goals as goal

pub returns-then-top-lt-PART : goal.returns-then-top-lt-PART
returns-then-top-lt-PART c = settle_token _ _ _ _ _ c.loop-top.invariant c.in-Some.ensures c.if-top-lt-PART.true

pub returns-then-not-ok : goal.returns-then-not-ok
returns-then-not-ok c = settle_fails _ _ _ _ _ _ c.loop-top.invariant c.in-Some.ensures c.if-top-lt-PART.false c.if-top-lt-MARK.true (subst (λ b. Expanded b (c.in-Some.top - 128) c.args.next c.pop.new.self c.expand.new.stack) c.if-not-ok.true c.in_ok-ok.ensures)

pub loop-top-smaller : goal.loop-top-smaller
loop-top-smaller c = act_smaller _ _ _ c.in-Some.ensures c.if-top-lt-MARK.false

pub loop-top-preserved : goal.loop-top-preserved
loop-top-preserved c = settle_act _ _ _ _ _ c.loop-top.invariant c.in-Some.ensures c.if-top-lt-MARK.false

pub loop-top-smaller-else-not-ok : goal.loop-top-smaller-else-not-ok
loop-top-smaller-else-not-ok c = settle_smaller c.args.next _ _ c.expand.new.stack _ c.in-Some.ensures c.if-top-lt-PART.false c.if-top-lt-MARK.true (subst (λ b. Expanded b (c.in-Some.top - 128) c.args.next c.pop.new.self c.expand.new.stack) c.if-not-ok.false c.in_ok-ok.ensures)

pub loop-top-preserved-else-not-ok : goal.loop-top-preserved-else-not-ok
loop-top-preserved-else-not-ok c = settle_more _ _ _ _ _ _ c.loop-top.invariant c.in-Some.ensures c.if-top-lt-PART.false c.if-top-lt-MARK.true (subst (λ b. Expanded b (c.in-Some.top - 128) c.args.next c.pop.new.self c.expand.new.stack) c.if-not-ok.false c.in_ok-ok.ensures)

pub returns : goal.returns
returns c = settle_empty _ _ _ _ c.loop-top.invariant c.in_default.ensures.0
