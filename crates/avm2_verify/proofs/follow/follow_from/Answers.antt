use Rattle.std.proofs.Common.{◌∙◌, refl, sym, subst}
use Rattle.avm2_verify.specs.Ways.{LeadTo}
use Rattle.avm2_verify.proofs.FollowedLaws.{known_stands, followed, differs, leads_next, leads_branch, leads_inside, both_ways}
use Rattle.avm2_verify.proofs.KnownLaws.{known_is}
use Rattle.avm2_verify.proofs.follow.follow_from.Goals as goal

pub ways_on-requires-clause-stands : goal.ways_on-requires-clause-stands
ways_on-requires-clause-stands c = known_stands c.args.abc.now c.args.body.now _ c.args.walk.now c.args.place c.in-Some.before c.requires.followed (known_is c.args.walk.now c.args.place c.in-Some.before (sym c.in-Some.ensures))

pub returns-in_default-ways_on : goal.returns-in_default-ways_on
returns-in_default-ways_on c =
    let known = known_is c.args.walk.now c.args.place c.in-Some.before (sym c.in-Some.ensures) in
    (followed c.args.abc.now c.args.body.now c.args.place c.in-Some.before c.args.walk.now known (λ to e s. absurd (subst (λ o. LeadTo o to e) c.in_default-ways_on.is (c.ways_on.ensures.all to e s))) c.requires.followed, refl)

pub arrive-requires : goal.arrive-requires
arrive-requires c =
    let w = c.in-Some-ways_on.ways in
    leads_inside c.args.abc.now c.args.body.now c.args.place c.in-Some.before w w.next c.args.walk.now c.in-Some-ways_on.ensures (leads_next c.args.abc.now c.args.body.now w) c.requires.followed.long

pub arrive-requires-then-branch : goal.arrive-requires-then-branch
arrive-requires-then-branch c =
    let w = c.in-Some-ways_on.ways in
    let g = rw c.if-branch.true at c.in_ok-arrive.ensures in
    leads_inside c.args.abc.now c.args.body.now c.args.place c.in-Some.before w w.branch c.arrive.new.self c.in-Some-ways_on.ensures (leads_branch c.args.abc.now c.args.body.now w) (g.long ∙ c.requires.followed.long)

pub returns-then-branch : goal.returns-then-branch
returns-then-branch c =
    let known = known_is c.args.walk.now c.args.place c.in-Some.before (sym c.in-Some.ensures) in
    let g = rw c.if-branch.true at c.in_ok-arrive.ensures in
    both_ways c.args.abc.now c.args.body.now c.args.place c.in-Some.before c.in-Some-ways_on.ways c.args.walk.now c.arrive.new.self c.arrive-then-branch.new.self known c.in-Some-ways_on.ensures g c.requires.followed
    c.arrive-then-branch.result c.arrive-then-branch.ensures

pub returns-else-branch : goal.returns-else-branch
returns-else-branch c =
    let w = c.in-Some-ways_on.ways in
    let known = known_is c.args.walk.now c.args.place c.in-Some.before (sym c.in-Some.ensures) in
    let o = rw c.if-branch.false at c.in_ok-arrive.ensures in
    differs c.args.abc.now c.args.body.now c.args.place c.in-Some.before w w.next c.args.walk.now known c.in-Some-ways_on.ensures (leads_next c.args.abc.now c.args.body.now w) o c.requires.followed
