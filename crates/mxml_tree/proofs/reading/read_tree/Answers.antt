use Rattle.std.proofs.Common.{sym, subst}
use Rattle.std.proofs.lemmas.Result.{err_from_is_err_and}
use Rattle.mxml_tree.specs.Building.{Finishes, RefusesEnd}
use Rattle.mxml_tree.specs.IsTree.{HasNodes}
use Rattle.mxml_tree.proofs.Readable.{items_are_readable}
use Rattle.mxml_tree.proofs.TextEnds.{ends_within, has_nodes, refused_items, refused_end}
use Rattle.mxml_tree.proofs.reading.read_tree.Goals as goal

pub build-requires : goal.build-requires
build-requires c = rw c.as_slice.ensures (items_are_readable c.args.text.now c.in_ok-found.found c.in_ok-found.ensures c.in_default.ensures.cases.1)

pub returns-in_err-building-clause-refused : goal.returns-in_err-building-clause-refused
returns-in_err-building-clause-refused c =
    let p = err_from_is_err_and c.from_residual-in_err-building.result c.from_residual-in_err-building.ensures.1 in
    rw (p.1, p.2) (refused_items c.args.text.now c.in_ok-found.found _ c.in_ok-found.ensures c.in_default.ensures.cases.1 (rw c.as_slice.ensures at c.in_err-building.ensures.err))

pub split_at-requires : goal.split_at-requires
split_at-requires c = ends_within c.args.text.now c.in_ok-found.found c.in_ok-found.ensures

pub returns-in_err-nodes-clause-refused : goal.returns-in_err-nodes-clause-refused
returns-in_err-nodes-clause-refused c =
    let p = err_from_is_err_and c.from_residual-in_err-nodes.result c.from_residual-in_err-nodes.ensures.1 in
    let after = c.split_at.ensures.back in
    let stands = rw c.as_slice.ensures at c.in_ok-building.ensures.ok in
    rw (p.1, p.2) (refused_end c.args.text.now c.in_ok-found.found c.in_ok-building.building _ c.in_ok-found.ensures c.in_default.ensures.cases.1 stands (subst (λ rest. RefusesEnd c.in_ok-building.building c.in_ok-found.found.end rest c.in_err-nodes.field-0.0) after c.in_err-nodes.ensures.err))

pub returns-clause-tree : goal.returns-clause-tree
returns-clause-tree c =
    let after = c.split_at.ensures.back in
    let stands = rw c.as_slice.ensures at c.in_ok-building.ensures.ok in
    subst (HasNodes c.args.text.now) (sym c.in_ok-tree.ensures)
    (has_nodes c.args.text.now c.in_ok-found.found c.in_ok-building.building c.in_ok-nodes.nodes c.in_ok-found.ensures c.in_default.ensures.cases.1 stands (subst (λ rest. Finishes c.in_ok-building.building rest c.in_ok-nodes.nodes) after c.in_ok-nodes.ensures.ok))
