-- A property that holds no object ends the walk.
use Rattle.std.proofs.Common.{◌≡◌, ◌∷◌, ◌∙◌, ap, sym, None, Some, drop, get_or, rules, suc}
use Rattle.std.proofs.Math.Seq.{drop-cons}
use Rattle.avm2_machine.specs.Stage.{held, property, walked}
use Rattle.avm2_machine.proofs.Walks.{walked_stops}
use Rattle.avm2_machine.proofs.stage.Stage.walk.Goals as goal

pub returns-in_err-object : goal.returns-in_err-object
returns-in_err-object c =
    let path = c.args.path.now in
    let i = c.loop-name.name-index in
    let name = get_or path i c.as_str.result.now in
    let here : name ≡ c.as_str.result.now = search rules in
    let none : held (property c.args.self.now c.loop-name.object name) ≡ None = ap (λ n. held (property c.args.self.now c.loop-name.object n)) here ∙ ap held (sym c.property.ensures) ∙ sym c.held.ensures ∙ c.in_err-object.was in
    c.from_residual.ensures ∙ walked_stops c.args.self.now c.loop-name.object (walked c.args.self.now (Some c.args.from) path) path i name (drop-cons path i c.as_str.result.now c.loop-name-test.true) c.loop-name.invariant none
