-- A member of the catalog.
use Rattle.std.proofs.Common.{◌∙◌, ap, sym}
use Rattle.source_sites.specs.LookUps.{member_named, own_members}
use Rattle.as3_types.specs.Tables.{table_of}
use Rattle.as3_types.proofs.look_ups.own_member.Goals as goal

pub returns-in-Native : goal.returns-in-Native
returns-in-Native c =
    c.native_member.ensures c.args.table.now
    ∙ ap (λ k. member_named c.args.name.now (own_members (table_of c.args.table.now) k)) (sym c.in-Native.is)
