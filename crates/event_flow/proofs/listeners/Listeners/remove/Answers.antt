use Rattle.std.proofs.Common.{◌≡◌, ◌∙◌, ap, subst, sym, true}
use Rattle.std.specs.Prelude.{None, Some, false, if◌then◌else◌, slice_get, ℕ}
use Rattle.event_flow.specs.Hearing.{has_listener, without_listener}
use Rattle.event_flow.specs.Registered.{all_registered, are_numbered, is_among, without}
use Rattle.event_flow.specs.declared.listeners.Removal.TheVariants.{Absent, Gone}
use Rattle.event_flow.proofs.Numbered.{has_its, has_none, numbered_filter, stands_at, without_its, without_none}
use Rattle.event_flow.proofs.listeners.Listeners.remove.Goals.{then-remove, else-remove}
use Rattle.event_flow.proofs.listeners.Listeners.remove.Goals as goal

nowhere : (c : goal.In_default) → (n : ℕ) → slice_get c.self.inside.kinds n ≡ Some c.args.kind.now → None ≡ Some n
nowhere c n is = sym c.in_default.is ∙ (c.number_of.ensures n).1 is

pub returns-in_default-clause-after : goal.returns-in_default-clause-after
returns-in_default-clause-after c =
    let kind = c.args.kind.now in
    let l = c.args.listener in
    let capture = c.args.capture in
    sym c.self.view_is ∙ sym (without_none c.self.inside.kinds kind (nowhere c) l capture c.self.inside.registrations c.self.inside.numbered) ∙ ap (without_listener kind l capture) c.self.view_is

pub returns-in_default-clause-answer : goal.returns-in_default-clause-answer
returns-in_default-clause-answer c =
    let kind = c.args.kind.now in
    let l = c.args.listener in
    let capture = c.args.capture in
    let none : has_listener kind l capture c.args.self.now ≡ false =
    ap (has_listener kind l capture) (sym c.self.view_is) ∙ has_none c.self.inside.kinds kind (nowhere c) l capture c.self.inside.registrations c.self.inside.numbered in
    ap (λ b. if b then Gone else Absent) (sym none)

pub invariant_of-self-inside : goal.invariant_of-self-inside
invariant_of-self-inside c =
    let kept = numbered_filter c.self.inside.kinds _ c.self.inside.registrations c.self.inside.numbered in
    (subst (λ pairs. are_numbered c.self.inside.kinds pairs ≡ true) (sym c.remove.ensures.after) kept, tt)

pub returns-clause-after : goal.returns-clause-after
returns-clause-after c =
    let kind = c.args.kind.now in
    let kinds = c.self.inside.kinds in
    let pairs = c.self.inside.registrations in
    let l = c.args.listener in
    let capture = c.args.capture in
    ap (all_registered kinds) c.remove.ensures.after ∙ ap (λ k. all_registered kinds (without k pairs)) c.of.ensures
    ∙ sym (without_its kinds kind c.in-Some.number (stands_at kinds kind c.number_of.result c.in-Some.number c.number_of.ensures c.in-Some.is) l capture pairs c.self.inside.numbered)
    ∙ ap (without_listener kind l capture) c.self.view_is

pub returns-clause-answer : goal.returns-clause-answer
returns-clause-answer c =
    let kind = c.args.kind.now in
    let kinds = c.self.inside.kinds in
    let pairs = c.self.inside.registrations in
    let l = c.args.listener in
    let capture = c.args.capture in
    let there : c.remove.result ≡ has_listener kind l capture c.args.self.now =
    c.remove.ensures.answer ∙ ap (λ k. is_among k pairs) c.of.ensures
    ∙ sym (has_its kinds kind c.in-Some.number (stands_at kinds kind c.number_of.result c.in-Some.number c.number_of.ensures c.in-Some.is) l capture pairs c.self.inside.numbered)
    ∙ ap (has_listener kind l capture) c.self.view_is in
    elim c.if-remove.branch [
      | then-remove w ↦ w.result-is ∙ ap (λ b. if b then Gone else Absent) (sym w.if-remove.true ∙ there)
      | else-remove w ↦ w.result-is ∙ ap (λ b. if b then Gone else Absent) (sym w.if-remove.false ∙ there)
    ]
