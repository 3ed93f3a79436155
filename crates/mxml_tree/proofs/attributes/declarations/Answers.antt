use Rattle.std.proofs.Common.{◌+◌, ◌∙◌, List, map, take, sym, subst}
use Rattle.mxml_items.specs.Reading.{written}
use Rattle.mxml_tree.specs.declared.elements.Declaration.{Declaration}
use Rattle.mxml_tree.specs.Namespaces.{AreDeclared}
use Rattle.mxml_tree.specs.Opened.{own_of}
use Rattle.mxml_tree.proofs.AttributeLaws.{past_end, readable_at, declares_next, declares_no_more}
use Rattle.mxml_tree.proofs.attributes.declarations.Goals as goal
use Rattle.mxml_tree.proofs.attributes.declarations.Goals.{in-Some+in_ok-space+in_ok-push, in_default}

pub value_of-requires : goal.value_of-requires
value_of-requires c = readable_at c.args.attributes.now c.loop-attribute.attribute-index past_end c.loop-attribute-test.true c.requires

pub loop-attribute-preserved : goal.loop-attribute-preserved
loop-attribute-preserved c =
    let attributes = c.args.attributes.now in
    let i = c.loop-attribute.attribute-index in
    let own = c.loop-attribute.own in
    let P : List Declaration → Type 0 = λ ds. AreDeclared (map written (take (i + 1) attributes)) (own_of ds) in
    elim c.match-declares.branch [
      | in-Some+in_ok-space+in_ok-push w ↦
          let declaration : Declaration = record { prefix = w.in-Some.prefix; space = w.in_ok-space.space } in
          subst P (sym (w.own-is ∙ w.in_ok-push.ensures.ok)) (declares_next attributes i past_end own declaration c.loop-attribute-test.true c.loop-attribute.invariant w.in-Some.ensures w.in_ok-space.ensures)
      | in_default w ↦
          subst P (sym w.own-is) (declares_no_more attributes i past_end own c.loop-attribute-test.true c.loop-attribute.invariant w.in_default.ensures)
    ]
