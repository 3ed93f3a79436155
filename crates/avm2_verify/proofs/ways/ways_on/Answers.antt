use Rattle.std.proofs.Common.{ℕ, ◌∙◌, List, sym, ap}
use Rattle.avm2_code.specs.declared.table.Effect.{Effect}
use Rattle.avm2_code.specs.declared.table.Successor.{Successor}
use Rattle.avm2_verify.specs.Ways.{passed, next_met, branch_met}
use Rattle.avm2_verify.proofs.OperandLaws.{successor_is, ok_from_some}
use Rattle.avm2_verify.proofs.WayLaws.{ways_are}
use Rattle.avm2_verify.proofs.ways.ways_on.Goals as goal

pub returns : goal.returns
returns c =
    let i = c.in_ok-instruction.instruction in
    let next = c.in_ok-instruction.next in
    let a = c.args.abc.now in
    let is = ap (λ (l : List ℕ). passed a l c.args.place) (sym c.as_slice.ensures) ∙ sym c.passed.ensures.read ∙ ok_from_some _ _ (sym c.ok.ensures.value ∙ c.in_ok-instruction.was) in
    let on = ap (λ (e : Effect). e.successor) c.effect-successor.ensures ∙ successor_is a i in
    ways_are a c.args.body.now c.args.marks.now c.requires.marks c.args.place c.args.before c.requires.stands i next _ is c.in_ok-behind.ensures.only.0 c.in_ok-behind.ensures.only.1
    (c.next_met.ensures ∙ ap (λ (s : Successor). next_met c.args.marks.now s next) on) (c.branch_met.ensures.value ∙ ap (λ (s : Successor). branch_met c.args.marks.now s next) on)
