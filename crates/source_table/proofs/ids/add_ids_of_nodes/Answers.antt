-- Node by node.
use Rattle.std.proofs.Common.{◌∙◌, ◌++◌, ap, sym, append_assoc, map}
use Rattle.std.proofs.lemmas.List.{map-append}
use Rattle.as3_types.specs.Tables.{owned_of}
use Rattle.class_table.specs.Ids.{taken_by_each}
use Rattle.source_table.specs.Members.{ids_in_rows, ids_of_row}
use Rattle.source_table.proofs.ids.add_ids_of_nodes.Goals as goal

pub loop-node-preserved : goal.loop-node-preserved
loop-node-preserved c =
    let classes = c.args.classes.now in
    let constructors = taken_by_each c.args.constructors.now in
    let had = map owned_of c.loop-node.members.items in
    let own = ids_of_row classes constructors c.in-Some.node.now in
    let others = ids_in_rows classes constructors c.in-Some.others.now in
    let old = c.loop-node.members.items in
    ap (λ ms. map owned_of ms ++ others) c.in_ok-append.ensures.items
    ∙ (ap (λ os. os ++ others) (map-append owned_of old c.into_vec-made.result.items)
    ∙ (ap (λ ms. (had ++ map owned_of ms) ++ others) c.into_vec-made.ensures
    ∙ (ap (λ os. (had ++ os) ++ others) c.in_ok-found.ensures
    ∙ (append_assoc had own others ∙ (ap (λ rows. had ++ ids_in_rows classes constructors rows) (sym c.in-Some.ensures.cases.0) ∙ c.loop-node.invariant)))))
