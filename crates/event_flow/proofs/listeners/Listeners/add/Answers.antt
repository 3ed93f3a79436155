use Rattle.std.proofs.Common.{◌≡◌, ◌∙◌, ◌++◌, ◌∷◌, [], ap, of_z, subst, sym, to_z, true, w32}
use Rattle.std.proofs.Math.Facts.{to_z-of_z}
use Rattle.std.specs.Prelude.{Err, Ok, OnErr, OnOk, Result, false, if◌then◌else◌}
use Rattle.flex_world.specs.Events.{registration}
use Rattle.event_flow.specs.Hearing.{has_listener}
use Rattle.event_flow.specs.Registered.{all_registered}
use Rattle.event_flow.specs.declared.listeners.Addition.TheVariants.{Kept, New}
use Rattle.event_flow.proofs.Numbered.{grown, is_there, still_numbered, with_its}
use Rattle.event_flow.proofs.listeners.Listeners.add.Goals as goal

pub invariant_of-self-inside-then-contains : goal.invariant_of-self-inside-then-contains
invariant_of-self-inside-then-contains c =
    ((grown c.self.inside.kinds c.number.new.self c.args.kind.now c.self.inside.registrations c.args.self.now c.self.inside.numbered c.self.view_is c.in_ok-number.ensures.after).0, tt)

pub returns-then-contains-clause-after : goal.returns-then-contains-clause-after
returns-then-contains-clause-after c =
    let kinds = c.self.inside.kinds in
    let after = c.number.new.self in
    let pairs = c.self.inside.registrations in
    let kind = c.args.kind.now in
    let now = c.args.self.now in
    let l = c.args.listener in
    let capture = c.args.capture in
    let there : has_listener kind l capture now ≡ true =
    is_there kinds after kind pairs now c.self.inside.numbered c.self.view_is c.in_ok-number.ensures.after c.in_ok-number.number c.in_ok-number.ensures.number l capture c.of-key.result c.contains.result c.of-key.ensures c.contains.ensures
    ∙ c.if-contains.true in
    (grown kinds after kind pairs now c.self.inside.numbered c.self.view_is c.in_ok-number.ensures.after).1
    ∙ ap (λ b. if b then now else now ++ registration kind l.0 l.1 capture c.args.priority ∷ []) (sym there)

pub returns-then-contains-clause-answer : goal.returns-then-contains-clause-answer
returns-then-contains-clause-answer c =
    let there =
    is_there c.self.inside.kinds c.number.new.self c.args.kind.now c.self.inside.registrations c.args.self.now c.self.inside.numbered c.self.view_is c.in_ok-number.ensures.after
    c.in_ok-number.number c.in_ok-number.ensures.number c.args.listener c.args.capture c.of-key.result c.contains.result c.of-key.ensures c.contains.ensures in
    ap (λ b. if b then Kept else New) (sym (there ∙ c.if-contains.true))

pub invariant_of-self-inside-2 : goal.invariant_of-self-inside-2
invariant_of-self-inside-2 c =
    let after = c.number.new.self in
    let pairs = c.self.inside.registrations in
    let kind = c.args.kind.now in
    let grow = grown c.self.inside.kinds after kind pairs c.args.self.now c.self.inside.numbered c.self.view_is c.in_ok-number.ensures.after in
    let priority = to_z w32 (of_z w32 c.args.priority) in
    let put = subst (λ k. OnOk c.push.result (c.push.new.self ≡ pairs ++ (k, priority) ∷ [])) c.of-key.ensures c.push.ensures.after in
    (still_numbered after kind c.in_ok-number.number c.in_ok-number.ensures.number c.args.listener c.args.capture pairs grow.0 priority c.push.new.self c.push.result put c.push.ensures.err, tt)

whatever_fails : {A E P : Type 0} (answer : Result A E) → P → OnErr answer P
whatever_fails (Ok a) p = tt
whatever_fails (Err e) p = p

pub returns-in_err-push-clause-err : goal.returns-in_err-push-clause-err
returns-in_err-push-clause-err c =
    let after = c.number.new.self in
    let kept : all_registered after c.push.new.self ≡ c.args.self.now =
    ap (all_registered after) c.in_err-push.ensures.err
    ∙ (grown c.self.inside.kinds after c.args.kind.now c.self.inside.registrations c.args.self.now c.self.inside.numbered c.self.view_is c.in_ok-number.ensures.after).1 in
    whatever_fails c.from_residual-in_err-push.result kept

pub returns-clause-after : goal.returns-clause-after
returns-clause-after c =
    let kinds = c.self.inside.kinds in
    let after = c.number.new.self in
    let pairs = c.self.inside.registrations in
    let kind = c.args.kind.now in
    let now = c.args.self.now in
    let l = c.args.listener in
    let capture = c.args.capture in
    let grow = grown kinds after kind pairs now c.self.inside.numbered c.self.view_is c.in_ok-number.ensures.after in
    let there : has_listener kind l capture now ≡ false =
    is_there kinds after kind pairs now c.self.inside.numbered c.self.view_is c.in_ok-number.ensures.after c.in_ok-number.number c.in_ok-number.ensures.number l capture c.of-key.result c.contains.result c.of-key.ensures c.contains.ensures
    ∙ c.if-contains.false in
    let priority = to_z w32 (of_z w32 c.args.priority) in
    ap (all_registered after) (c.in_ok-push.ensures.after ∙ ap (λ k. pairs ++ (k, priority) ∷ []) c.of-key.ensures)
    ∙ with_its after kind c.in_ok-number.number c.in_ok-number.ensures.number l capture pairs grow.0 priority
    ∙ ap (λ rs. rs ++ registration kind l.0 l.1 capture priority ∷ []) grow.1
    ∙ ap (λ p. now ++ registration kind l.0 l.1 capture p ∷ []) (to_z-of_z c.ranges.priority)
    ∙ ap (λ b. if b then now else now ++ registration kind l.0 l.1 capture c.args.priority ∷ []) (sym there)

pub returns-clause-answer : goal.returns-clause-answer
returns-clause-answer c =
    let there =
    is_there c.self.inside.kinds c.number.new.self c.args.kind.now c.self.inside.registrations c.args.self.now c.self.inside.numbered c.self.view_is c.in_ok-number.ensures.after
    c.in_ok-number.number c.in_ok-number.ensures.number c.args.listener c.args.capture c.of-key.result c.contains.result c.of-key.ensures c.contains.ensures in
    ap (λ b. if b then Kept else New) (sym (there ∙ c.if-contains.false))
