-- Script by script.
use Rattle.std.proofs.Common.{◌∙◌, ◌++◌, ap, sym, append_assoc, flat_map, map}
use Rattle.source_sites.specs.Trees.{item_of, items_of}
use Rattle.as3_types.specs.Tables.{owned_of}
use Rattle.source_table.specs.Members.{items_added}
use Rattle.source_table.proofs.AddedMembers.{items_together}
use Rattle.source_table.proofs.members.add_scripts.Goals as goal

pub loop-script-preserved : goal.loop-script-preserved
loop-script-preserved c =
    let code = c.args.code.now in
    let had = map owned_of c.loop-script.members in
    let own = items_of c.in-Some.script.now in
    let others = flat_map items_of c.in-Some.others.now in
    ap (λ os. os ++ items_added code others) c.in_ok-add_items.ensures
    ∙ (ap (λ items. (had ++ items_added code (map item_of items)) ++ items_added code others) c.as_slice.ensures.value
    ∙ (append_assoc had (items_added code own) (items_added code others)
    ∙ (ap (λ os. had ++ os) (sym (items_together code own others)) ∙ (ap (λ scripts. had ++ items_added code (flat_map items_of scripts)) (sym c.in-Some.ensures.cases.0) ∙ c.loop-script.invariant))))
