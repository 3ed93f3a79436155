use Rattle.built_programs.proofs.Making.{made_more, made_whole}
use Rattle.built_programs.proofs.children.children.Goals as goal

pub loop-element-preserved : goal.loop-element-preserved
loop-element-preserved c =
    rw (c.next_handler-handler.ensures, c.in_ok-push.ensures.items)
    (made_more c.laws_of_terms.ensures.contents c.args.elements.now c.loop-element.element-index c.element-item.result c.loop-element.number c.loop-element.handler c.loop-element.contents.items c.in_ok-child.field-0 c.loop-element-test.true c.element-item.is c.loop-element.invariant c.in_ok-child.ensures)

pub returns : goal.returns
returns c = made_whole c.args.elements.now c.loop-element.element-index c.loop-element.number c.loop-element.handler c.loop-element.contents.items c.loop-element-test.false c.loop-element.invariant
