use Rattle.std.proofs.Common.{ℕ, ◌-◌, length}
use Rattle.as3_parser.specs.Ahead.{Reached, Reads}
use Rattle.as3_parser.specs.Productions as production
use Rattle.as3_parser.specs.Members.{AreImportSteps, AreModifiers, AreParameters, AreItems}
use Rattle.as3_parser.specs.MemberForms.{parameters_behind}
use Rattle.as3_parser.specs.Forms.{part}
use Rattle.as3_parser.proofs.MemberSteps.{behind_parameters}
use Rattle.as3_parser.proofs.members.all_items.Given as goal

abbrev pub invariant-loop-at : goal.invariant-loop-at
invariant-loop-at l = Reached l.tokens 0 l.at (part production.imports_and_members) (AreItems l.text l.items.items)

abbrev pub decreases-loop-at : goal.decreases-loop-at
decreases-loop-at l = length l.tokens - l.at
