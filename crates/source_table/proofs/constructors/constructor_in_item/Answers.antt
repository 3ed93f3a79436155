-- A member.
use Rattle.std.proofs.Common.{◌∙◌, ap, sym}
use Rattle.source_sites.specs.Functions.{member_in}
use Rattle.source_sites.specs.Trees.{item_of}
use Rattle.source_table.specs.Constructors.{taken}
use Rattle.source_table.proofs.FirstTaken.{one_member}
use Rattle.source_table.proofs.constructors.constructor_in_item.Goals as goal

pub returns-in_ok-found-in-Member : goal.returns-in_ok-found-in-Member
returns-in_ok-found-in-Member c =
    c.in_ok-found-in-Member.ensures
    ∙ (one_member c.args.classes.now c.args.here.now c.in-Member.member ∙ ap (λ i. taken c.args.classes.now c.args.here.now (member_in (item_of i))) (sym c.in-Member.is))
