use Rattle.std.proofs.Common.{arith, rules, ◌≡◌, ◌∙◌, ap, refl, sym, ◌<◌}
use Rattle.std.proofs.lemmas.Grind.{common_steps}
use Rattle.std.specs.List.{position}
use Rattle.std.specs.Prelude.{IsSome, None, OnSome, Option, Some}
use Rattle.std.specs.VecDeque.{deque_len}
use Rattle.flex_base.specs.Value.{is_object}
use Rattle.flex_world.specs.Children.{without_child}
use Rattle.flex_objects.specs.Once.{stand_once}
use Rattle.flex_objects.proofs.Positions.{cut, cut_first}
use Rattle.flex_objects.proofs.children.Children.remove.Goals as goal
use Rattle.flex_objects.proofs.children.Children.remove.Goals.{in-Text-1, in-Undefined-1}

pub returns-in_default : goal.returns-in_default
returns-in_default c =
    let os = c.args.self.now in
    ap (cut os) (sym c.in_default.is ∙ c.place_of.ensures) ∙ cut_first (λ o. is_object o c.args.child) (without_child c.args.child) refl (λ x xs. refl) os

on_some : {X : Type 0} {P : Type 0} (r : Option X) → IsSome r → OnSome r P → P
on_some None is held = absurd (cc)
on_some (Some x) is held = held

pub invariant_of-self-inside : goal.invariant_of-self-inside
invariant_of-self-inside c =
    let child = c.args.child in
    let os = c.self.inside.list.items in
    let there : c.in-Some.place < deque_len c.self.inside.list = search rules in
    let stands : c.remove.new.self.items ≡ without_child child os =
    on_some c.remove.result (c.remove.ensures.variant.1 there) c.remove.ensures.items
    ∙ ap (cut os) (sym c.in-Some.is ∙ c.place_of.ensures ∙ ap (position (λ o. is_object o child)) (sym c.self.view_is))
    ∙ cut_first (λ o. is_object o child) (without_child child) refl (λ x xs. refl) os in
    let once = c.forget.ensures os c.self.inside.apart in
    (grind (arith, common_steps), (ap (stand_once c.forget.new.once) stands ∙ once, tt))

pub returns-in-Int : goal.returns-in-Int
returns-in-Int c =
    let os = c.args.self.now in
    let there : c.in-Some.place < deque_len c.self.inside.list = search rules in
    let stands : c.remove.new.self.items ≡ without_child c.args.child os =
    on_some c.remove.result (c.remove.ensures.variant.1 there) c.remove.ensures.items
    ∙ ap (λ xs. cut xs (Some c.in-Some.place)) c.self.view_is
    ∙ ap (cut os) (sym c.in-Some.is ∙ c.place_of.ensures) ∙ cut_first (λ o. is_object o c.args.child) (without_child c.args.child) refl (λ x xs. refl) os in
    elim c.match-self-2.branch [ in-Text-1 w ↦ w.self-is ∙ stands | in-Undefined-1 w ↦ w.self-is ∙ stands ]
