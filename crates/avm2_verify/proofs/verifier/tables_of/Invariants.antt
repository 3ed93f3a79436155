use Rattle.avm2_verify.specs.Reasons.{AreChecked}
use Rattle.avm2_verify.proofs.verifier.tables_of.Given as goal

abbrev pub invariant-loop-body : goal.invariant-loop-body
invariant-loop-body l = AreChecked l.abc l.body-index l.tables
