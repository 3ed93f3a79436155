use Rattle.std.proofs.Common.{◌∙◌, sym, ap, subst}
use Rattle.verified_code.specs.Verified.{no_depths}
use Rattle.avm2_verify.specs.Known.{Known, IsBegun}
use Rattle.avm2_verify.specs.Tables.{AreDepthsOf}
use Rattle.avm2_verify.proofs.FollowedLaws.{begun, taken, all_known}
use Rattle.avm2_verify.proofs.follow.follow.Goals as goal

pub loop-place-init : goal.loop-place-init
loop-place-init c =
    begun c.args.abc.now c.args.body.now c.in_ok-walk.walk (subst (λ n. IsBegun n (no_depths c.args.abc.now) c.in_ok-walk.walk) c.len.ensures c.in_ok-walk.ensures)

pub follow_from-requires-clause-followed : goal.follow_from-requires-clause-followed
follow_from-requires-clause-followed c = taken c.args.abc.now c.args.body.now c.in-Some.place c.loop-place.walk c.take.new.self c.in-Some.ensures c.loop-place.invariant

pub returns : goal.returns
returns c =
    let e = c.in_default.ensures in
    subst (AreDepthsOf c.args.abc.now c.args.body.now) (sym (c.into_table.ensures ∙ ap (λ (k : Known). k.table) e.1)) (all_known c.args.abc.now c.args.body.now c.loop-place.walk e.0 c.loop-place.invariant)
