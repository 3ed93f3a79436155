use Rattle.std.proofs.Common.{◌∙◌, ◌++◌, ap}
use Rattle.event_flow.proofs.Ranks.{without_ranks}
use Rattle.event_flow.specs.Hearers.{listeners}
use Rattle.event_flow.proofs.hearers.Hearers.list.Goals as goal

pub loop-listener-init : goal.loop-listener-init
loop-listener-init c =
    ap (λ xs. xs ++ c.into_iter-listener-iterator.result) c.new-list.ensures
    ∙ c.into_iter-listener-iterator.ensures.into_iter_gives ∙ c.values-listener-items.ensures.rest ∙ without_ranks c.self.inside.by_rank.entries ∙ ap listeners c.self.view_is
