use Rattle.std.proofs.Common.{◌++◌, ◌+◌, ◌∙◌, List, map, take, sym, subst, reverse}
use Rattle.mxml_items.specs.Reading.{written}
use Rattle.mxml_tree.specs.declared.tree.Attribute.{Attribute}
use Rattle.mxml_tree.specs.Faults.{plain}
use Rattle.mxml_tree.specs.IsTree.{AreAttributesOf}
use Rattle.mxml_tree.specs.Opened.{declared_in, own_of}
use Rattle.mxml_tree.proofs.AttributeLaws.{past_end, readable_at, declares_by, is_attribute_next, is_declaration_next, is_unknown_at}
use Rattle.mxml_tree.proofs.attributes.plain_attributes.Goals as goal
use Rattle.mxml_tree.proofs.attributes.plain_attributes.Goals.{then-is_none+in_ok-attribute+in-Some+in_ok-push-in-Some, else-is_none}

pub plain_attribute-requires : goal.plain_attribute-requires
plain_attribute-requires c = readable_at c.args.attributes.now c.loop-attribute.attribute-index past_end c.loop-attribute-test.true c.requires

pub returns-in-None : goal.returns-in-None
returns-in-None c =
    let is_plain = declares_by c.declares.result _ c.is_none.result c.is_none.ensures c.declares.ensures ∙ c.if-is_none.true in
    is_unknown_at (own_of c.args.own.now ++ declared_in (reverse c.args.opened.now)) c.args.attributes.now c.loop-attribute.attribute-index past_end c.loop-attribute-test.true is_plain
    (rw c.in-None.is at c.in_ok-attribute.ensures)

pub loop-attribute-preserved : goal.loop-attribute-preserved
loop-attribute-preserved c =
    let declared = own_of c.args.own.now ++ declared_in (reverse c.args.opened.now) in
    let attributes = c.args.attributes.now in
    let i = c.loop-attribute.attribute-index in
    let list = c.loop-attribute.list in
    let P : List Attribute → Type 0 = λ others. AreAttributesOf declared (plain (map written (take (i + 1) attributes))) others in
    let is_plain = declares_by c.declares.result _ c.is_none.result c.is_none.ensures c.declares.ensures in
    elim c.if-is_none.branch [
      | then-is_none+in_ok-attribute+in-Some+in_ok-push-in-Some w ↦
          subst P (sym (w.list-is ∙ w.in_ok-push-in-Some.ensures.ok))
          (is_attribute_next declared attributes i past_end list w.in-Some.attribute c.loop-attribute-test.true (is_plain ∙ w.if-is_none.true) c.loop-attribute.invariant (rw w.in-Some.is at w.in_ok-attribute.ensures))
      | else-is_none w ↦
          subst P (sym w.list-is) (is_declaration_next declared attributes i past_end list c.loop-attribute-test.true (is_plain ∙ w.if-is_none.false) c.loop-attribute.invariant)
    ]
