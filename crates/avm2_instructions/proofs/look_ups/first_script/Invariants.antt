use Rattle.std.proofs.Common.{◌≡◌}
use Rattle.std.specs.List.{find}
use Rattle.avm2_instructions.specs.Finding.{has_name}
use Rattle.avm2_meaning.specs.Members.{all_scripts, scripts_and_native}
use Rattle.avm2_instructions.proofs.look_ups.first_script.Given as goal

-- the scripts that are left have the first
abbrev pub invariant-loop-left : goal.invariant-loop-left
invariant-loop-left l =
    find (has_name l.fn.program l.fn.name l.fn.heap) (all_scripts l.fn.program)
    ≡ find (has_name l.fn.program l.fn.name l.fn.heap) (scripts_and_native l.fn.program l.number l.left)

abbrev pub decreases-loop-left : goal.decreases-loop-left
decreases-loop-left l = l.left
