use Rattle.std.proofs.Common.{◌≡◌, ◌-◌, None, length}
use Rattle.swf_tags.specs.Feeding.{early_fault, fed}
use Rattle.swf_tags.proofs.StepLaws.{LeadsOn}
use Rattle.swf_tags.proofs.stage.feed_stage.Given as goal

abbrev pub invariant-loop-rest : goal.invariant-loop-rest
invariant-loop-rest l = record {
  leads : LeadsOn l.end (fed (record { taken = l.fn.end - length l.fn.piece; stage = l.fn.stage }) l.fn.piece) l.stage l.rest;
  fine : early_fault l.stage ≡ None;
}

abbrev pub decreases-loop-rest : goal.decreases-loop-rest
decreases-loop-rest l = length l.rest
