-- Script by script.
use Rattle.std.proofs.Common.{◌∙◌, ◌++◌, ap, sym, map, append_assoc, flat_map}
use Rattle.std.proofs.lemmas.Grind.{flat_map-append}
use Rattle.source_sites.specs.Names.{import_in}
use Rattle.source_sites.specs.Trees.{item_of, items_of}
use Rattle.named_sources.proofs.imports.imports_of_scripts.Goals as goal

pub loop-script-preserved : goal.loop-script-preserved
loop-script-preserved c =
    let had = c.loop-script.imports in
    let script = c.in-Some.script.now in
    let others = c.in-Some.others.now in
    let behind = flat_map import_in (flat_map items_of others) in
    ap (λ is. is ++ behind) c.in_ok-add_imports.ensures
    ∙ (ap (λ items. (had ++ flat_map import_in (map item_of items)) ++ behind) c.as_slice.ensures.value
    ∙ (append_assoc had (flat_map import_in (items_of script)) behind
    ∙ (ap (λ is. had ++ is) (sym (flat_map-append import_in (items_of script) (flat_map items_of others)))
    ∙ (ap (λ scripts. had ++ flat_map import_in (flat_map items_of scripts)) (sym c.in-Some.ensures.cases.0) ∙ c.loop-script.invariant))))
