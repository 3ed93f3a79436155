use Rattle.std.proofs.Common.{map, sym, ◌∙◌, refl}
use Rattle.mxml_items.specs.Reading.{written}
use Rattle.mxml_items.specs.Texts.{placed_of}
use Rattle.mxml_tree.proofs.StandsLaws.{stands_empty, stands_open}
use Rattle.mxml_tree.proofs.building.Building.add_tag.Goals as goal

pub returns-then-empty-clause-ok : goal.returns-then-empty-clause-ok
returns-then-empty-clause-ok c all left =
    stands_empty all left c.args.self.now _ (placed_of c.args.placed.now) c.args.name.now (map written c.args.attributes.now) c.in_ok-declarations.declarations c.in_ok-declarations.element
    (search) (sym c.is_after_root.ensures ∙ c.if-is_after_root.false) c.in_ok-declarations.ensures.ok
    (record { nodes = rw (sym c.parent.ensures) c.in_ok-push.ensures.ok; same = refl })

pub returns-clause-ok : goal.returns-clause-ok
returns-clause-ok c all left =
    stands_open all left c.args.self.now _ (placed_of c.args.placed.now) c.args.name.now (map written c.args.attributes.now) c.in_ok-declarations.declarations c.in_ok-declarations.element
    (search) (sym c.is_after_root.ensures ∙ c.if-is_after_root.false) c.in_ok-declarations.ensures.ok
    (rw (sym c.parent.ensures) c.in_ok-open.ensures)
