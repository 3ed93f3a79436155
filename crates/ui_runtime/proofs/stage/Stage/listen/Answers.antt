use Rattle.std.proofs.Common.{rules, subst, sym, ℤ, ◌≡◌}
use Rattle.std.proofs.Math.Facts.{to_z-of_z}
use Rattle.std.specs.Prelude.{Some}
use Rattle.ui_runtime.specs.Answers.{Gives, Hands}
use Rattle.ui_runtime.specs.Events.{listens}
use Rattle.ui_runtime.proofs.Keeping.{state_given}
use Rattle.ui_runtime.proofs.stage.Stage.listen.Goals as goal

pub returns : goal.returns
returns c =
    let of = λ (p : ℤ). listens c.args.node c.args.kind.now c.args.listener c.args.capture p in
    let f = of c.args.priority in
    let before = c.args.self.now in
    let state = c.in_ok-state.state in
    let answer = c.listen-addition.result in
    let after = c.listen-addition.new.self in
    let there : before ≡ Some state = search rules in
    let done : Hands (f state) answer after = subst (λ p. Hands (of p state) answer after) (to_z-of_z c.ranges.priority) c.listen-addition.ensures in
    subst (λ r. Gives before f r c.keep_given.new.self) (sym c.keep_given.ensures.answer)
    (subst (λ a. Gives before f answer a) (sym c.keep_given.ensures.after) (state_given f before state after answer there done))
