use Rattle.std.proofs.Common.{◌≡◌, ◌∙◌, [], IfOk, ap, fold, subst, sym}
use Rattle.std.specs.Prelude.{◌==◌, false}
use Rattle.event_flow.specs.Hearers.{hearers_after, listeners, with_pair}
use Rattle.event_flow.specs.Hearing.{heard_at}
use Rattle.event_flow.proofs.Numbered.{heard_alike, none_pass, none_tells, number_tells, stands_at}
use Rattle.event_flow.proofs.listeners.Listeners.at_node.Goals as goal

pub returns-in_ok-hearers-in-Some : goal.returns-in_ok-hearers-in-Some
returns-in_ok-hearers-in-Some c =
    let kind = c.args.kind.now in
    let kinds = c.self.inside.kinds in
    let number = c.in-Some.number in
    let phase = c.args.phase in
    let tells = number_tells kinds kind number (stands_at kinds kind c.number_of.result number c.number_of.ensures c.in-Some.is) in
    let is : listeners (hearers_after number phase [] c.self.inside.registrations) ≡ heard_at kind phase c.args.self.now =
    sym (heard_alike kinds kind (λ n. number == n) tells phase c.self.inside.registrations c.self.inside.numbered) ∙ ap (heard_at kind phase) c.self.view_is in
    subst (λ xs. IfOk c.list-in-Some.result (λ list. list ≡ xs)) (ap listeners c.in_ok-hearers-in-Some.ensures ∙ is) c.list-in-Some.ensures

pub returns-in-None : goal.returns-in-None
returns-in-None c =
    let kind = c.args.kind.now in
    let kinds = c.self.inside.kinds in
    let phase = c.args.phase in
    let tells = none_tells kinds kind (λ n is. sym c.in-None.is ∙ (c.number_of.ensures n).1 is) in
    c.new.ensures ∙ sym (heard_alike kinds kind (λ n. false) tells phase c.self.inside.registrations c.self.inside.numbered ∙ ap (λ pairs. listeners (fold with_pair [] pairs)) (none_pass c.self.inside.registrations)) ∙ ap (heard_at kind phase) c.self.view_is
