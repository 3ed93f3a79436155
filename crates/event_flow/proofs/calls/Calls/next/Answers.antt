use Rattle.std.proofs.Common.{◌∙◌, ap, drop}
use Rattle.event_flow.proofs.Walks.{items_later}
use Rattle.event_flow.proofs.calls.Calls.next.Goals as goal

pub returns-clause-after : goal.returns-clause-after
returns-clause-after c = items_later c.self.inside.made c.self.inside.listeners ∙ ap (drop 1) c.self.view_is
