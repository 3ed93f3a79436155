use Rattle.std.proofs.Common.{[], ◌∷◌, ◌++◌, ap, ◌∙◌}
use Rattle.flexc.specs.Emitted.{id_trait}
use Rattle.flexc.proofs.Each.{each_element-onto}
use Rattle.flexc.proofs.emit.instance_traits.Goals as goal

pub loop-number-preserved : goal.loop-number-preserved
loop-number-preserved c =
    let element = c.index-elements-number.result in
    c.in_ok-push.ensures.ok ∙ ap (λ member. c.loop-number.traits ++ member ∷ []) c.in_ok-id_trait.ensures
    ∙ ap (λ traits. traits ++ id_trait c.loop-number.number element ∷ []) c.loop-number.invariant
    ∙ each_element-onto (λ k e. id_trait k e ∷ []) c.new-traits.result c.args.elements.now c.loop-number.number element c.loop-number-test.true c.index-elements-number.is
