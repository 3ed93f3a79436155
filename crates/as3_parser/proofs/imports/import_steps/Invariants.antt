use Rattle.std.proofs.Common.{ℕ, ◌-◌, length}
use Rattle.as3_parser.specs.Ahead.{Reached, Reads}
use Rattle.as3_parser.specs.Productions as production
use Rattle.as3_parser.specs.Members.{AreImportSteps, AreModifiers, AreParameters, AreItems}
use Rattle.as3_parser.specs.MemberForms.{parameters_behind}
use Rattle.as3_parser.specs.Forms.{part}
use Rattle.as3_parser.proofs.MemberSteps.{behind_parameters}
use Rattle.as3_parser.proofs.imports.import_steps.Given as goal

abbrev pub invariant-loop-alloc : goal.invariant-loop-alloc
invariant-loop-alloc l = Reads l.tokens l.fn.at l.at (part production.import_steps) (part production.import_steps) (AreImportSteps l.text l.steps.items)

abbrev pub decreases-loop-alloc : goal.decreases-loop-alloc
decreases-loop-alloc l = length l.tokens - l.at
