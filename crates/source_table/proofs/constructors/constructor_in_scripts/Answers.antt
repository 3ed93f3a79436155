-- Script by script.
use Rattle.std.proofs.Common.{◌∙◌, ap, sym, map, flat_map}
use Rattle.std.proofs.lemmas.Grind.{flat_map-append}
use Rattle.source_sites.specs.Functions.{member_in}
use Rattle.source_sites.specs.Trees.{item_of, items_of}
use Rattle.source_table.specs.Constructors.{taken}
use Rattle.source_table.proofs.FirstTaken.{found_here, goes_on}
use Rattle.source_table.proofs.constructors.constructor_in_scripts.Goals as goal

pub returns-then-is_some : goal.returns-then-is_some
returns-then-is_some c =
    let classes = c.args.classes.now in
    let here = c.args.here.now in
    let script = c.in-Some.script.now in
    let others = c.in-Some.others.now in
    found_here classes here (taken classes here (flat_map member_in (flat_map items_of c.args.scripts.now))) (flat_map member_in (items_of script)) (flat_map member_in (flat_map items_of others))
    (c.loop-script.invariant
    ∙ (ap (λ ss. taken classes here (flat_map member_in (flat_map items_of ss))) c.in-Some.ensures.cases.0 ∙ ap (taken classes here) (flat_map-append member_in (items_of script) (flat_map items_of others))))
    c.in_ok-found.found (c.in_ok-found.ensures ∙ ap (λ items. taken classes here (flat_map member_in (map item_of items))) c.as_slice.ensures.value) (sym c.if-is_some.ensures)

pub loop-script-preserved : goal.loop-script-preserved
loop-script-preserved c =
    let classes = c.args.classes.now in
    let here = c.args.here.now in
    let script = c.in-Some.script.now in
    let others = c.in-Some.others.now in
    goes_on classes here (taken classes here (flat_map member_in (flat_map items_of c.args.scripts.now))) (flat_map member_in (items_of script)) (flat_map member_in (flat_map items_of others))
    (c.loop-script.invariant
    ∙ (ap (λ ss. taken classes here (flat_map member_in (flat_map items_of ss))) c.in-Some.ensures.cases.0 ∙ ap (taken classes here) (flat_map-append member_in (items_of script) (flat_map items_of others))))
    c.in_ok-found.found (c.in_ok-found.ensures ∙ ap (λ items. taken classes here (flat_map member_in (map item_of items))) c.as_slice.ensures.value) (sym c.if-is_some.ensures)
