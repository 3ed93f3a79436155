use Rattle.std.proofs.Common.{◌≡◌, ◌∙◌, ◌∷◌, ◌-◌, ◌+◌, ap, sym, drop, slice_get}
use Rattle.std.specs.Option.{option_copied}
use Rattle.std.specs.Prelude.{Some}
use Rattle.flex_base.specs.Events.{arrival}
use Rattle.flex_base.specs.declared.event.Phase.TheVariants.{Bubble}
use Rattle.event_flow.specs.Kept.{arrivals_left}
use Rattle.event_flow.proofs.Walks.{far_phase, inward_left, inward_phase, near_phase, none_left, outward_left}
use Rattle.event_flow.proofs.nodes.Nodes.next.Goals.{then-self-gt0-2, else-self-gt0-2}
use Rattle.event_flow.proofs.nodes.Nodes.next.Goals as goal

first_inward : (c : goal.After-node-1) → c.args.self.now ≡ arrival (inward_phase (c.self.inside.inward - 1)) c.in_ok-node.field-0.now ∷ arrivals_left c.self.inside.path c.self.inside.bubbles (c.self.inside.inward - 1) c.self.inside.outward
first_inward c = inward_left _ _ _ _ _ c.self.view_is c.in_ok-node.field-0.now c.if-self-gt0.true (sym c.get.ensures.value ∙ ap option_copied c.in_ok-node.was)

pub returns-then-self-gt0-clause-value : goal.returns-then-self-gt0-clause-value
returns-then-self-gt0-clause-value c =
    let node = c.in_ok-node.field-0.now in
    let phase : c.if-self-gt0-2.phase ≡ inward_phase (c.self.inside.inward - 1) =
    elim c.if-self-gt0-2.branch [ then-self-gt0-2 w ↦ w.phase-is ∙ sym (far_phase _ w.if-self-gt0-2.true) | else-self-gt0-2 w ↦ w.phase-is ∙ sym (near_phase _ w.if-self-gt0-2.false) ] in
    ap (λ p. Some (arrival p node)) phase ∙ ap (λ xs. slice_get xs 0) (sym (first_inward c))

pub returns-then-self-gt0-clause-after : goal.returns-then-self-gt0-clause-after
returns-then-self-gt0-clause-after c = ap (drop 1) (sym (first_inward c))

pub returns-in_err-node-2-clause-value : goal.returns-in_err-node-2-clause-value
returns-in_err-node-2-clause-value c =
    let none = none_left _ _ _ _ _ c.self.view_is c.if-self-gt0.false c.if-not-self.false (sym c.get-2.ensures.value ∙ ap option_copied c.in_err-node-2.was) in
    c.from_residual-in_err-node-2.ensures ∙ ap (λ xs. slice_get xs 0) (sym none)

pub returns-in_err-node-2-clause-after : goal.returns-in_err-node-2-clause-after
returns-in_err-node-2-clause-after c =
    let none = none_left _ _ _ _ _ c.self.view_is c.if-self-gt0.false c.if-not-self.false (sym c.get-2.ensures.value ∙ ap option_copied c.in_err-node-2.was) in
    none ∙ ap (drop 1) (sym none)

first_outward : (c : goal.After-self-2-1) → c.args.self.now ≡ arrival Bubble c.in_ok-node-2.field-0.now ∷ arrivals_left c.self.inside.path c.self.inside.bubbles c.self.inside.inward (c.self.inside.outward + 1)
first_outward c = outward_left _ _ _ _ _ c.self.view_is c.in_ok-node-2.field-0.now c.if-self-gt0.false c.if-not-self.false (sym c.get-2.ensures.value ∙ ap option_copied c.in_ok-node-2.was)

pub returns-clause-value : goal.returns-clause-value
returns-clause-value c = ap (λ xs. slice_get xs 0) (sym (first_outward c))

pub returns-clause-after : goal.returns-clause-after
returns-clause-after c = ap (drop 1) (sym (first_outward c))
