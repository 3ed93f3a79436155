-- The first of this name among the members of a class.
use Rattle.std.proofs.Common.{◌∙◌, ap}
use Rattle.std.specs.List.{find}
use Rattle.std.specs.Str.{bytes_eq}
use Rattle.as3_types.specs.declared.table.OwnMember.{OwnMember}
use Rattle.as3_types.proofs.Sources.{found_source}
use Rattle.as3_types.proofs.look_ups.source_member.Goals as goal

pub returns : goal.returns
returns c =
    found_source c.args.table.now.members c.args.number c.args.name.now c.in_ok-members.members.now c.first_named.result c.in_ok-members.ensures.value
    (c.first_named.ensures ∙ ap (find (λ (m : OwnMember). bytes_eq m.name c.args.name.now)) c.as_slice.ensures)
