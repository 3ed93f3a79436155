use Rattle.std.proofs.Common.{sym, ◌∙◌}
use Rattle.mxml_items.specs.Texts.{placed_of}
use Rattle.mxml_tree.proofs.ClosingLaws.{stands_closed}
use Rattle.mxml_tree.proofs.building.Building.close.Goals as goal

pub returns-in-Some-clause-ok : goal.returns-in-Some-clause-ok
returns-in-Some-clause-ok c all left =
    let is_last = sym (rw c.as_slice.ensures.value at c.closes.ensures) ∙ c.if-not-closes.false in
    let last = rw c.in-Some.is at c.pop.ensures.items in
    stands_closed all left c.args.self.now _ (placed_of c.args.placed.now) c.args.name.now c.in-Some.element c.requires.is_end_tag is_last last c.end_element.ensures
