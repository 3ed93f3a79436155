use Rattle.std.proofs.Common.{◌<◌, arith}
use Rattle.avm2_machine.proofs.Stages.{with_property-set, has_place, has_item, some_or_none}
use Rattle.avm2_machine.proofs.stage.Stage.write.Goals as goal

pub returns-in-Some-get_mut : goal.returns-in-Some-get_mut
returns-in-Some-get_mut c =
    let pos : 0 < c.args.object.0 = omega arith in
    with_property-set c.args.self.now c.args.object c.args.name.now c.args.value c.in-Some.object.now c.in-Some-place_of.place c.in-Some-get_mut.slot.now
    pos c.in-Some.ensures.value (rw c.as_slice.ensures at c.in-Some-place_of.ensures.place) c.in-Some-get_mut.ensures.value

-- the object has the property
pub returns-in_default-place_of : goal.returns-in_default-place_of
returns-in_default-place_of c =
    let pos : 0 < c.args.object.0 = omega arith in
    let place = has_place c.args.self.now c.args.object c.args.name.now c.in-Some.object.now pos c.in-Some.ensures.value c.requires in
    absurd (some_or_none _ place (rw c.as_slice.ensures at c.in_default-place_of.ensures.place))

pub returns-in_default-get_mut : goal.returns-in_default-get_mut
returns-in_default-get_mut c =
    absurd (has_item c.in-Some.object.now.slots c.in-Some-place_of.place (rw c.as_slice.ensures at c.in-Some-place_of.ensures.within) c.in_default-get_mut.ensures.value)
