-- Item by item.
use Rattle.std.proofs.Common.{◌∙◌, ◌++◌, ap, sym, map, append_assoc, flat_map}
use Rattle.source_sites.specs.Names.{import_in}
use Rattle.source_sites.specs.Trees.{item_of}
use Rattle.named_sources.proofs.imports.add_imports.Goals as goal

pub loop-item-preserved : goal.loop-item-preserved
loop-item-preserved c =
    let had = c.loop-item.imports in
    let behind = flat_map import_in (map item_of c.in-Some.others.now) in
    ap (λ is. is ++ behind) c.in_ok-add_import.ensures
    ∙ (append_assoc had (import_in (item_of c.in-Some.item.now)) behind
    ∙ (ap (λ items. had ++ flat_map import_in (map item_of items)) (sym c.in-Some.ensures.cases.0) ∙ c.loop-item.invariant))
