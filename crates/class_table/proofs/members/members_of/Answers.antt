-- Member by member.
use Rattle.std.proofs.Common.{◌∙◌, ◌++◌, ap, sym, map, append_assoc}
use Rattle.as3_types.specs.Tables.{owned_of}
use Rattle.class_table.specs.Columns.{member_owned, members_owned}
use Rattle.class_table.proofs.members.members_of.Goals as goal

pub loop-member-preserved : goal.loop-member-preserved
loop-member-preserved c =
    let code = c.args.code.now in
    let had = map owned_of c.loop-member.owned in
    let others = members_owned code c.in-Some.others.now in
    ap (λ os. os ++ others) c.in_ok-add_member.ensures
    ∙ (append_assoc had (member_owned code c.in-Some.member.now) others ∙ (ap (λ ms. had ++ members_owned code ms) (sym c.in-Some.ensures.cases.0) ∙ c.loop-member.invariant))
