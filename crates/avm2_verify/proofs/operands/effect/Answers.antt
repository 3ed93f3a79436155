use Rattle.std.proofs.Common.{◌∙◌, Bool, ap}
use Rattle.avm2_code.specs.Table.{row}
use Rattle.avm2_verify.specs.Ways.{first_is_late}
use Rattle.avm2_verify.proofs.OperandLaws.{effect_is}
use Rattle.avm2_verify.proofs.operands.effect.Goals as goal

pub returns : goal.returns
returns c =
    c.effect_of.ensures
    ∙ ap (λ (late : Bool). (row (λ name. late) c.args.instruction.now).effect) (c.first_is_late-is_late.ensures ∙ ap (first_is_late c.args.abc.now.constant_pool) c.operands_of.ensures)
    ∙ effect_is c.args.abc.now c.args.instruction.now
