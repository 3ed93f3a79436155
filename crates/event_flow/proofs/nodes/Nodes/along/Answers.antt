use Rattle.std.proofs.Common.{◌∙◌, ap}
use Rattle.event_flow.specs.Kept.{arrivals_left}
use Rattle.event_flow.proofs.Walks.{whole_path}
use Rattle.event_flow.proofs.nodes.Nodes.along.Goals as goal

pub returns : goal.returns
returns c = ap (λ n. arrivals_left c.args.path c.args.bubbles n 1) c.len-inward.ensures ∙ whole_path c.args.path c.args.bubbles
