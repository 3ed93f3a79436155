use Rattle.std.proofs.Common.{◌∙◌, ap, Some, reverse}
use Rattle.mxml_tree.specs.Opened.{declared_in, own_of}
use Rattle.mxml_tree.proofs.SpaceLaws.{space_in_front, space_behind}
use Rattle.mxml_tree.proofs.elements.space_of.Goals as goal

pub returns-in_ok-clone-in-Some : goal.returns-in_ok-clone-in-Some
returns-in_ok-clone-in-Some c =
    ap Some c.in_ok-clone-in-Some.ensures.cases ∙ space_in_front (own_of c.args.own.now) (declared_in (reverse c.args.opened.now)) c.args.prefix.now _ c.in-Some.ensures

pub returns-in-None : goal.returns-in-None
returns-in-None c = rw (space_behind (own_of c.args.own.now) (declared_in (reverse c.args.opened.now)) c.args.prefix.now c.in-None.ensures) c.space_around.ensures
