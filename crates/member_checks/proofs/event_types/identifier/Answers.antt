-- What isn't UTF-8.
use Rattle.member_checks.proofs.Events.{not_utf8}
use Rattle.member_checks.proofs.event_types.identifier.Goals as goal

pub returns-in_default : goal.returns-in_default
returns-in_default c = not_utf8 c.as_slice.result.now c.args.name.now c.as_slice.ensures c.in_default.ensures.cases.0
