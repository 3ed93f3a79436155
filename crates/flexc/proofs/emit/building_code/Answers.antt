use Rattle.std.proofs.Common.{◌++◌, ap, ◌∙◌}
use Rattle.flexc.specs.Emitted.{element_code}
use Rattle.flexc.proofs.Each.{each_element-onto}
use Rattle.flexc.proofs.emit.building_code.Goals as goal

pub loop-number-preserved : goal.loop-number-preserved
loop-number-preserved c =
    let element = c.index-elements-number.result in
    c.in_ok-put_element.ensures ∙ ap (λ code. code ++ element_code c.loop-number.number element) c.loop-number.invariant
    ∙ each_element-onto element_code c.new-code.result c.args.elements.now c.loop-number.number element c.loop-number-test.true c.index-elements-number.is
