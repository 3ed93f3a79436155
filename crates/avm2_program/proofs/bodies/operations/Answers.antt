use Rattle.std.proofs.Common.{IfOk, subst, sym, ◌≡◌}
use Rattle.avm2_code.specs.Body.{AreInstructions}
use Rattle.avm2_program.specs.Naming.{naming_with}
use Rattle.avm2_program.specs.Operations.{operations_of}
use Rattle.avm2_program.proofs.Targets.{are_decoded, rises}
use Rattle.avm2_program.proofs.bodies.operations.Goals as goal

pub all_operations-requires : goal.all_operations-requires
all_operations-requires c = rises c.args.code.now c.as_slice.result.now (subst (AreInstructions c.args.code.now) (sym c.as_slice.ensures) c.in_ok-instructions.ensures)

pub returns : goal.returns
returns c =
    let are = subst (AreInstructions c.args.code.now) (sym c.as_slice.ensures) c.in_ok-instructions.ensures in
    subst (λ xs. IfOk c.all_operations.result (λ ready. ready ≡ operations_of (naming_with c.args.abc.now c.args.classes.now) xs)) (are_decoded c.args.code.now c.as_slice.result.now are) c.all_operations.ensures
