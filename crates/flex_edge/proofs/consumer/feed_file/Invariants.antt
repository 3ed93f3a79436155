use Rattle.flex_edge.proofs.Feeding.{IsFeeding}
use Rattle.flex_edge.proofs.consumer.feed_file.Given as goal

abbrev pub invariant-loop-count : goal.invariant-loop-count
invariant-loop-count g l = IsFeeding g.C.Consumer.takes l.name (g.F.Files.state l.fn.files) l.fn.consumer (g.F.Files.state l.files) l.consumer

abbrev pub decreases-loop-count : goal.decreases-loop-count
decreases-loop-count g l = g.C.Consumer.room l.consumer
