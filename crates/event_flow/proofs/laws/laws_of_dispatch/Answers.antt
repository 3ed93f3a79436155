use Rattle.std.proofs.Common.{[], false}
use Rattle.event_flow.specs.Dispatch.{dispatch_path}
use Rattle.event_flow.proofs.WholeDispatch.{along}
use Rattle.event_flow.proofs.laws.laws_of_dispatch.Goals as goal

pub returns : goal.returns
returns c = λ lists path bubbles cancelable. along lists cancelable (dispatch_path path bubbles) [] false
