use Rattle.std.proofs.Common.{sym}
use Rattle.avm2_code.proofs.BodyLaws.{ends_behind, read_all}
use Rattle.avm2_code.proofs.body.instructions_of.Goals as goal

pub returns-in_default : goal.returns-in_default
returns-in_default c =
    read_all c.args.code.now c.loop-place.instructions c.loop-place.place (record { reason = c.in_default.field-0; is = sym c.in_default.ensures.read }) c.loop-place.invariant

pub returns : goal.returns
returns c = read_all c.args.code.now c.loop-place.instructions c.loop-place.place (ends_behind c.args.code.now c.loop-place.place c.loop-place-test.false) c.loop-place.invariant
