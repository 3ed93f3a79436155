use Rattle.std.proofs.Common.{◌∙◌, ap, sym}
use Rattle.event_flow.proofs.Pairs.{found}
use Rattle.event_flow.specs.Registered.{is_among, pairs_in, same_key}
use Rattle.event_flow.proofs.registrations.Registrations.contains.Goals as goal

pub returns-in-Some : goal.returns-in-Some
returns-in-Some c = c.contains.ensures ∙ found (same_key c.args.key) c.in-Some.pairs.entries ∙ ap (λ p. is_among c.args.key (pairs_in p)) (sym c.in-Some.is) ∙ ap (is_among c.args.key) c.self.view_is
