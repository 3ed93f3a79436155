use Rattle.std.proofs.Common.{map, Some, sym, ◌∙◌, ap, subst, refl, reverse}
use Rattle.mxml_tree.specs.declared.fault.TreeCode.TheVariants as code
use Rattle.mxml_tree.specs.Faults.{fault}
use Rattle.mxml_items.specs.Texts.{placed_of}
use Rattle.mxml_tree.specs.Building.{RefusesIn}
use Rattle.mxml_tree.proofs.TextReading.{none_open, stands_white, stands_texts, outside_refused}
use Rattle.mxml_tree.proofs.building.Building.add_texts.Goals as goal

pub returns-in_default-clause-ok : goal.returns-in_default-clause-ok
returns-in_default-clause-ok c all left none = stands_white all (map placed_of c.args.texts.now) left c.args.self.now c.requires.texts (rw c.in_default.is at c.in_ok-at.ensures)

pub returns-in_default-parent-clause-err : goal.returns-in_default-parent-clause-err
returns-in_default-parent-clause-err c =
    let texts = map placed_of c.args.texts.now in
    let are = rw c.in-Some.is at c.in_ok-at.ensures in
    let outside = none_open (reverse c.args.self.now.opened.items) (sym c.parent.ensures ∙ c.in_default-parent.is) in
    subst (RefusesIn texts c.args.self.now) (sym c.fault.ensures)
    (λ all left end rest stands. outside_refused all texts left _ are.first are.others are.are_texts outside are.are stands.faults end rest ∙ ap (λ at. Some (fault at code.TextOutside)) (sym are.stands))

pub returns-clause-ok : goal.returns-clause-ok
returns-clause-ok c all left none =
    let are = rw c.in-Some.is at c.in_ok-at.ensures in
    let is = sym c.parent.ensures ∙ c.in-Some-parent.is in
    stands_texts all (map placed_of c.args.texts.now) left c.args.self.now _ c.in-Some.at c.in-Some.characters c.in-Some-parent.parent none are is (record { nodes = rw is c.in_ok-push.ensures.ok; same = refl })
