use Rattle.std.proofs.Common.{◌∷◌, [], map, ap, ◌∙◌, subst, sym, refl, List}
use Rattle.std.proofs.lemmas.List.{map-append}
use Rattle.mxml_items.specs.Items.{Written}
use Rattle.mxml_items.specs.Reading.{written}
use Rattle.mxml_items.proofs.AttributeLaws.{SoFar, attributes_go_on}
use Rattle.mxml_items.proofs.attributes.attributes.Goals as goal

pub loop-attribute-preserved : goal.loop-attribute-preserved
loop-attribute-preserved c =
    let text = c.args.text.now in
    let list = c.loop-attribute.list in
    let a = c.in-Some.attribute in
    let unread = c.in-Some.unread.now in
    let P : List Written → Type 0 = λ xs. SoFar xs c.args.at text unread in
    subst P (sym (map-append written list (a ∷ [])) ∙ ap (map written) (sym c.in_ok-push.ensures.ok))
    (attributes_go_on (map written list) (written a) c.args.at _ text c.loop-attribute.rest.now unread c.loop-attribute.invariant refl c.in-Some.ensures)
