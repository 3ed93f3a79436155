use Rattle.std.proofs.Common.{◌∙◌, sym, ap, Some, reverse, length, drop}
use Rattle.std.proofs.lemmas.List.{length_push}
use Rattle.std.proofs.lemmas.Iterator.Adapters.{YieldsList-from_rev_slice}
use Rattle.std.proofs.lemmas.Iterator.Consumers.{YieldsList-turn}
use Rattle.mxml_tree.specs.Namespaces.{space_of}
use Rattle.mxml_tree.specs.Opened.{declared_in}
use Rattle.mxml_tree.proofs.SpaceLaws.{is_declared_at, is_declared_outside}
use Rattle.mxml_tree.proofs.elements.space_around.Goals as goal

pub returns-in-Some-declared_space : goal.returns-in-Some-declared_space
returns-in-Some-declared_space c =
    let opened = c.args.opened.now in
    let prefix = c.args.prefix.now in
    let turn = YieldsList-turn (YieldsList-from_rev_slice opened cc) c.loop-element.yielded _ c.loop-element.yielded_by _ _ c.in-Some.element c.in-Some.is c.next.ensures.steps in
    let found = rw c.as_slice.ensures at c.in-Some-declared_space.ensures in
    ap Some c.in_ok-clone.ensures.cases
    ∙ is_declared_at (reverse opened) (length c.loop-element.yielded) c.in-Some.element.now prefix _ turn.0 turn.1 found
    ∙ c.loop-element.invariant

pub loop-element-preserved : goal.loop-element-preserved
loop-element-preserved c =
    let opened = c.args.opened.now in
    let prefix = c.args.prefix.now in
    let turn = YieldsList-turn (YieldsList-from_rev_slice opened cc) c.loop-element.yielded _ c.loop-element.yielded_by _ _ c.in-Some.element c.in-Some.is c.next.ensures.steps in
    let missed = rw c.as_slice.ensures at c.in_default.ensures in
    ap (λ n. space_of (declared_in (drop n (reverse opened))) prefix) (length_push c.loop-element.yielded c.in-Some.element)
    ∙ sym (is_declared_outside (reverse opened) (length c.loop-element.yielded) c.in-Some.element.now prefix turn.0 turn.1 missed)
    ∙ c.loop-element.invariant
