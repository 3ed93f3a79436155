use Rattle.std.proofs.Common.{◌∙◌, ◌+◌, ap, sym, arith, drop}
use Rattle.std.proofs.lemmas.List.{drop_all}
use Rattle.std.specs.Prelude.{Some}
use Rattle.flex_world.specs.Watching.{reaches}
use Rattle.watch_table.proofs.Walks.{found_here, no_further, not_here}
use Rattle.watch_table.proofs.walk.reaches.Goals as goal

pub returns-then-is_here-clause-value : goal.returns-then-is_here-clause-value
returns-then-is_here-clause-value g c =
    sym (found_here (g.W.Fields.held c.args.world.now) c.args.object c.args.property.now c.args.chain.now c.loop-name.name-index c.name-item.result c.loop-name.at (omega arith) c.name-item.is (sym c.is_here.ensures ∙ c.if-is_here.true)) ∙ c.loop-name.invariant.same

pub returns-in-None-clause-value : goal.returns-in-None-clause-value
returns-in-None-clause-value g c =
    let held = g.W.Fields.held c.args.world.now in
    let further = drop (c.loop-name.name-index + 1) c.args.chain.now in
    sym (not_here held c.args.object c.args.property.now c.args.chain.now c.loop-name.name-index c.name-item.result c.loop-name.at (omega arith) c.name-item.is (sym c.is_here.ensures ∙ c.if-is_here.false)
    ∙ ap (reaches held c.args.object c.args.property.now further) (sym c.field.ensures.value ∙ c.in-None.is) ∙ no_further held c.args.object c.args.property.now further)
    ∙ c.loop-name.invariant.same

pub loop-name-preserved : goal.loop-name-preserved
loop-name-preserved g c = record {
  same =
      let held = g.W.Fields.held c.args.world.now in
      ap (reaches held c.args.object c.args.property.now (drop (c.loop-name.name-index + 1) c.args.chain.now)) (sym c.in-Some.is ∙ c.field.ensures.value)
      ∙ sym (not_here held c.args.object c.args.property.now c.args.chain.now c.loop-name.name-index c.name-item.result c.loop-name.at (omega arith) c.name-item.is (sym c.is_here.ensures ∙ c.if-is_here.false))
      ∙ c.loop-name.invariant.same;
  few = omega (arith, c.field.ensures.count, c.loop-name.invariant.few);
}

pub returns-clause-value : goal.returns-clause-value
returns-clause-value g c =
    sym (ap (λ names. reaches (g.W.Fields.held c.args.world.now) c.args.object c.args.property.now names (Some c.loop-name.at)) (drop_all c.loop-name.name-index c.args.chain.now c.loop-name-test.false)) ∙ c.loop-name.invariant.same
