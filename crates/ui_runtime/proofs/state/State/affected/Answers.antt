use Rattle.std.proofs.Common.{IfOk, subst, ◌≡◌}
use Rattle.stage_objects.specs.Entities.{held_in}
use Rattle.ui_runtime.specs.Stage.{Stage, held}
use Rattle.watch_table.specs.Affected.{affected}
use Rattle.ui_runtime.proofs.Watching.{pairs_affected}
use Rattle.ui_runtime.proofs.state.State.affected.Goals as goal

pub returns : goal.returns
returns c =
    let o = c.args.object in
    let key = c.args.key.now in
    subst (λ (s : Stage). IfOk c.affected.result (λ pairs. pairs ≡ affected (held s) o key s.watched)) c.self.view_is
    (pairs_affected (held_in c.self.inside.objects) o key c.self.inside.watch c.affected.result c.affected.ensures.value)
