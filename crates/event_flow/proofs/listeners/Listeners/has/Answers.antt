use Rattle.std.proofs.Common.{◌∙◌, ap, sym}
use Rattle.std.specs.Prelude.{◌==◌, false}
use Rattle.std.specs.Str.{bytes_eq}
use Rattle.flex_world.specs.Events.{is_heard}
use Rattle.event_flow.proofs.Numbered.{any_alike, no_pass, none_tells, number_tells, stands_at}
use Rattle.event_flow.proofs.listeners.Listeners.has.Goals as goal

pub returns-in-Some : goal.returns-in-Some
returns-in-Some c =
    let kind = c.args.kind.now in
    let kinds = c.self.inside.kinds in
    let number = c.in-Some.number in
    let tells = number_tells kinds kind number (stands_at kinds kind c.number_of.result number c.number_of.ensures c.in-Some.is) in
    c.has_kind.ensures
    ∙ sym (any_alike kinds (λ r. bytes_eq r.event kind) (λ p. number == p.0.kind) (λ p is. tells p.0.kind is) c.self.inside.registrations c.self.inside.numbered)
    ∙ ap (is_heard kind) c.self.view_is

pub returns-in-None : goal.returns-in-None
returns-in-None c =
    let kind = c.args.kind.now in
    let kinds = c.self.inside.kinds in
    let tells = none_tells kinds kind (λ n is. sym c.in-None.is ∙ (c.number_of.ensures n).1 is) in
    sym (no_pass c.self.inside.registrations)
    ∙ sym (any_alike kinds (λ r. bytes_eq r.event kind) (λ p. false) (λ p is. tells p.0.kind is) c.self.inside.registrations c.self.inside.numbered)
    ∙ ap (is_heard kind) c.self.view_is
