use Rattle.std.proofs.Common.{ℕ, ◌-◌, length}
use Rattle.as3_parser.specs.Ahead.{Reached, Reads}
use Rattle.as3_parser.specs.Productions as production
use Rattle.as3_parser.specs.Members.{AreImportSteps, AreModifiers, AreParameters, AreItems}
use Rattle.as3_parser.specs.MemberForms.{parameters_behind}
use Rattle.as3_parser.specs.Forms.{part}
use Rattle.as3_parser.proofs.MemberSteps.{behind_parameters}
use Rattle.as3_parser.proofs.members.modifiers.Given as goal

abbrev pub invariant-loop-modifier : goal.invariant-loop-modifier
invariant-loop-modifier l = Reads l.tokens l.fn.at l.at (part production.modifiers) (part production.modifiers) (AreModifiers l.modifiers.items)

abbrev pub decreases-loop-modifier : goal.decreases-loop-modifier
decreases-loop-modifier l = length l.tokens - l.at
