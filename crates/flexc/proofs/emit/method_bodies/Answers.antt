use Rattle.std.proofs.Common.{rules, ◌≡◌, ap, subst, sym, length, All, arith}
use Rattle.avm2_code.specs.Assembly.{FitsForm}
use Rattle.avm2_code.specs.Table.{operands}
use Rattle.flexc.specs.Emitted.{building_code}
use Rattle.flexc.proofs.Decoded.{encodable_all}
use Rattle.flexc.proofs.Encodable.{building_encodable}
use Rattle.flexc.proofs.WrittenSize.{building_code-length}
use Rattle.flexc.proofs.emit.method_bodies.Goals as goal

pub assembled-requires-4-clause-fits : goal.assembled-requires-4-clause-fits
assembled-requires-4-clause-fits c =
    let is : c.as_slice.result.now ≡ building_code c.args.elements.now = search rules in
    subst (All (λ i. All FitsForm (operands i))) (sym is) (encodable_all (building_code c.args.elements.now) (building_encodable c.args.elements.now c.requires))

pub assembled-requires-4-clause-few : goal.assembled-requires-4-clause-few
assembled-requires-4-clause-few c =
    let is : c.as_slice.result.now ≡ building_code c.args.elements.now = search rules in
    omega (arith, ap length is, building_code-length c.args.elements.now, c.requires)
