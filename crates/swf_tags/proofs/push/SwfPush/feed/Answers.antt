use Rattle.std.proofs.Common.{rules, arith, ◌≡◌, ◌+◌, ◌-◌, length, Some, None, Ok, Err, refl, sym, subst}
use Rattle.swf_tags.specs.Feeding.{AwaitsByte, early_fault}
use Rattle.swf_tags.specs.Push.{FeedsFrom, refusal_of, refused}
use Rattle.swf_tags.specs.declared.stage.Stage.TheVariants as stage
use Rattle.swf_tags.proofs.StepLaws.{awaits-fed, feeds-from, feeds-taken}
use Rattle.swf_tags.proofs.push.SwfPush.feed.Goals as goal

pub returns-in-Failed : goal.returns-in-Failed
returns-in-Failed c =
    let fault = c.in-Failed.fault in
    let here : c.self.inside.stage ≡ Some (stage.Failed fault) = search rules in
    rw (← c.self.view_is, c.from.ensures)
    (subst (λ o. FeedsFrom c.self.inside.taken o c.args.piece.now (Err (refusal_of fault)) (refused c.self.inside.taken (stage.Failed fault))) (sym here) (refl, refl))

pub invariant_of-self-in-Ok : goal.invariant_of-self-in-Ok
invariant_of-self-in-Ok c =
    let awaits : AwaitsByte c.in-Some.stage = search rules in
    subst AwaitsByte (sym c.in-Ok.ensures.0) (awaits-fed c.args.piece.now _ awaits)

pub returns-in-Ok : goal.returns-in-Ok
returns-in-Ok c =
    let here : c.self.inside.stage ≡ Some c.in-Some.stage = search rules in
    let taken = c.self.inside.taken in
    let piece = c.args.piece.now in
    let fine : early_fault c.in-Some.stage ≡ None = search rules in
    let before : taken + length piece - length piece ≡ taken = omega arith in
    rw (← c.self.view_is)
    (subst (λ o. FeedsFrom taken o piece (Ok tt) (record { taken = taken + length piece; stage = Some c.in-Ok.stage })) (sym here)
    (feeds-from taken c.in-Some.stage piece _ _ fine (feeds-taken taken _ _ c.in-Some.stage c.in-Ok.stage piece before refl c.in-Ok.ensures)))
