use Rattle.std.proofs.Common.{◌∷◌, [], ◌-◌, map, ap, sym, subst, ◌∙◌, List, length}
use Rattle.std.proofs.lemmas.List.{map-append}
use Rattle.mxml_items.specs.Items.{Placed}
use Rattle.mxml_items.specs.Texts.{IsPlacedAt, placed_of}
use Rattle.mxml_items.proofs.TextLaws.{ItemsSoFar, more_items, all_items}
use Rattle.mxml_items.proofs.items.read_items.Goals as goal

pub loop-items-preserved : goal.loop-items-preserved
loop-items-preserved c =
    let text = c.args.text.now in
    let items = c.loop-items.items in
    let rest = c.loop-items.rest.now in
    let placed = c.in-Some.placed in
    let unread = c.in-Some.unread.now in
    let P : List Placed → Type 0 = λ xs. ItemsSoFar text xs unread in
    let stands : IsPlacedAt (length text) rest (placed_of placed) unread = rw c.in-Some.is at c.in_ok-placed.ensures in
    subst P (sym (map-append placed_of items (placed ∷ [])) ∙ ap (map placed_of) (sym c.in_ok-push.ensures.ok))
    (more_items text (map placed_of items) rest (placed_of placed) unread c.loop-items.invariant stands)

pub returns : goal.returns
returns c =
    let text = c.args.text.now in
    let items = c.loop-items.items in
    let rest = c.loop-items.rest.now in
    let h = c.loop-items.invariant in
    record {
      begun = h.begun;
      rest = rest;
      is_begun = h.is_begun;
      are_items = all_items text (map placed_of items) rest h;
      no_more = rw c.in_default.is at c.in_ok-placed.ensures;
    }
