-- Attribute by attribute.
use Rattle.std.proofs.Common.{◌∙◌, ◌++◌, ap, sym, map, append_assoc}
use Rattle.as3_types.specs.Tables.{owned_of}
use Rattle.as3_types.specs.Types.{type_of}
use Rattle.class_table.specs.Ids.{id_named, ids_named}
use Rattle.class_table.proofs.NamedIds.{next_id}
use Rattle.class_table.proofs.ids.ids_of_type.Goals as goal

pub loop-attribute-preserved : goal.loop-attribute-preserved
loop-attribute-preserved c =
    let type = type_of c.args.kind in
    let had = map owned_of c.loop-attribute.owned in
    let a = c.in-Some.attribute.now in
    let others = ids_named type c.in-Some.others.now in
    ap (λ os. os ++ others) c.in_ok-add_id.ensures
    ∙ (append_assoc had (id_named type a) others
    ∙ (ap (λ os. had ++ os) (next_id type a c.in-Some.others.now) ∙ (ap (λ as_. had ++ ids_named type as_) (sym c.in-Some.ensures.cases.0) ∙ c.loop-attribute.invariant)))
