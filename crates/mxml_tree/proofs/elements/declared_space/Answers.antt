use Rattle.std.proofs.Common.{◌∙◌, sym, ap}
use Rattle.std.proofs.lemmas.List.{drop_all}
use Rattle.mxml_tree.specs.Namespaces.{space_of}
use Rattle.mxml_tree.specs.Opened.{own_of}
use Rattle.mxml_tree.proofs.SpaceLaws.{declares_at, declares_further}
use Rattle.mxml_tree.proofs.elements.declared_space.Goals as goal

pub returns-then-eq : goal.returns-then-eq
returns-then-eq c =
    sym (declares_at c.args.declarations.now c.loop-declaration.declaration-index c.declaration-item.result c.args.prefix.now c.loop-declaration-test.true c.declaration-item.is (sym c.eq.ensures ∙ c.if-eq.true))
    ∙ c.loop-declaration.invariant

pub loop-declaration-preserved : goal.loop-declaration-preserved
loop-declaration-preserved c =
    sym (declares_further c.args.declarations.now c.loop-declaration.declaration-index c.declaration-item.result c.args.prefix.now c.loop-declaration-test.true c.declaration-item.is (sym c.eq.ensures ∙ c.if-eq.false))
    ∙ c.loop-declaration.invariant

pub returns : goal.returns
returns c =
    ap (λ ds. space_of (own_of ds) c.args.prefix.now) (sym (drop_all c.loop-declaration.declaration-index c.args.declarations.now c.loop-declaration-test.false)) ∙ c.loop-declaration.invariant
