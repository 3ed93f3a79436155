-- Item by item.
use Rattle.std.proofs.Common.{◌∙◌, ◌++◌, ap, sym, append_assoc, flat_map, map}
use Rattle.source_sites.specs.Functions.{member_in}
use Rattle.source_sites.specs.Trees.{item_of}
use Rattle.as3_types.specs.Tables.{owned_of}
use Rattle.source_table.specs.Members.{items_added, members_added}
use Rattle.source_table.proofs.AddedMembers.{members_together}
use Rattle.source_table.proofs.members.add_items.Goals as goal

pub loop-item-preserved : goal.loop-item-preserved
loop-item-preserved c =
    let code = c.args.code.now in
    let had = map owned_of c.loop-item.members in
    let own = member_in (item_of c.in-Some.item.now) in
    let others = flat_map member_in (map item_of c.in-Some.others.now) in
    ap (λ os. os ++ members_added code others) c.in_ok-add_item.ensures
    ∙ (append_assoc had (members_added code own) (members_added code others)
    ∙ (ap (λ os. had ++ os) (sym (members_together code own others)) ∙ (ap (λ items. had ++ items_added code (map item_of items)) (sym c.in-Some.ensures.cases.0) ∙ c.loop-item.invariant)))
