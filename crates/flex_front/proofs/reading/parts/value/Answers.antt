use Rattle.std.proofs.Common.{Some, ap, sym, ◌∙◌}
use Rattle.std.proofs.lemmas.List.{drop_all}
use Rattle.flex_front.specs.Source.{value_of}
use Rattle.flex_front.proofs.Values.{value_at, value_further}
use Rattle.flex_front.proofs.reading.parts.value.Goals as goal

pub returns-then-is_named : goal.returns-then-is_named
returns-then-is_named c =
    ap Some c.as_str.ensures
    ∙ sym (value_at c.as_slice-attribute-items.result.now c.loop-attribute.attribute-index c.attribute-item.result c.args.name.now c.loop-attribute-test.true c.attribute-item.is (sym c.is_named.ensures ∙ c.if-is_named.true))
    ∙ c.loop-attribute.invariant
    ∙ ap (value_of c.args.name.now) c.as_slice-attribute-items.ensures

pub loop-attribute-preserved : goal.loop-attribute-preserved
loop-attribute-preserved c =
    sym (value_further c.as_slice-attribute-items.result.now c.loop-attribute.attribute-index c.attribute-item.result c.args.name.now c.loop-attribute-test.true c.attribute-item.is (sym c.is_named.ensures ∙ c.if-is_named.false))
    ∙ c.loop-attribute.invariant

pub returns : goal.returns
returns c =
    ap (value_of c.args.name.now) (sym (drop_all c.loop-attribute.attribute-index c.as_slice-attribute-items.result.now c.loop-attribute-test.false))
    ∙ c.loop-attribute.invariant
    ∙ ap (value_of c.args.name.now) c.as_slice-attribute-items.ensures
