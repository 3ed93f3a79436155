use Rattle.std.proofs.Common.{◌∙◌}
use Rattle.avm2_program.proofs.TypeLaws.{named_type}
use Rattle.avm2_program.proofs.types.type_at.Goals as goal

pub returns : goal.returns
returns c = named_type c.args.abc.now c.args.classes.now c.args.index _ (λ is. c.if-number-eq0.false (c.number.ensures ∙ is)) c.in_ok-found.ensures
