-- Item by item.
use Rattle.std.proofs.Common.{◌∙◌, ap, sym, map, flat_map}
use Rattle.source_sites.specs.Functions.{member_in}
use Rattle.source_sites.specs.Trees.{item_of}
use Rattle.source_table.specs.Constructors.{taken}
use Rattle.source_table.proofs.FirstTaken.{found_here, goes_on}
use Rattle.source_table.proofs.constructors.constructor_in_items.Goals as goal

pub returns-then-is_some : goal.returns-then-is_some
returns-then-is_some c =
    let classes = c.args.classes.now in
    let here = c.args.here.now in
    found_here classes here (taken classes here (flat_map member_in (map item_of c.args.items.now))) (member_in (item_of c.in-Some.item.now)) (flat_map member_in (map item_of c.in-Some.others.now))
    (c.loop-item.invariant ∙ ap (λ is. taken classes here (flat_map member_in (map item_of is))) c.in-Some.ensures.cases.0) c.in_ok-found.found c.in_ok-found.ensures (sym c.if-is_some.ensures)

pub loop-item-preserved : goal.loop-item-preserved
loop-item-preserved c =
    let classes = c.args.classes.now in
    let here = c.args.here.now in
    goes_on classes here (taken classes here (flat_map member_in (map item_of c.args.items.now))) (member_in (item_of c.in-Some.item.now)) (flat_map member_in (map item_of c.in-Some.others.now))
    (c.loop-item.invariant ∙ ap (λ is. taken classes here (flat_map member_in (map item_of is))) c.in-Some.ensures.cases.0) c.in_ok-found.found c.in_ok-found.ensures (sym c.if-is_some.ensures)
