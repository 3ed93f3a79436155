use Rattle.std.proofs.Common.{◌∙◌, ◌-◌, ap, false, rules, sym}
use Rattle.std.specs.List.{find}
use Rattle.avm2_instructions.specs.Finding.{has_name}
use Rattle.avm2_instructions.proofs.Finding.{script_met}
use Rattle.avm2_instructions.proofs.look_ups.first_script.Goals as goal
use Rattle.avm2_meaning.specs.Members.{scripts_and_native}

pub loop-left-preserved : goal.loop-left-preserved
loop-left-preserved c =
    let f = has_name c.args.program.now c.args.name.now c.args.heap.now in
    let left = c.loop-left.left - 1 in
    c.loop-left.invariant
    ∙ (script_met c.args.program.now f c.loop-left.number c.loop-left.left left false (search rules) (search rules)
    ∙ ap (λ n. find f (scripts_and_native c.args.program.now n left)) (search rules))

pub returns : goal.returns
returns c =
    let f = has_name c.args.program.now c.args.name.now c.args.heap.now in
    c.in_ok-native.ensures
    ∙ sym (c.loop-left.invariant ∙ ap (λ n. find f (scripts_and_native c.args.program.now c.loop-left.number n)) {y = 0} (search rules))
