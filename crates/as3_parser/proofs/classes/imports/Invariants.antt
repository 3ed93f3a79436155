use Rattle.std.proofs.Common.{ℕ, ◌-◌, length}
use Rattle.as3_parser.specs.Ahead.{Reads}
use Rattle.as3_parser.specs.Productions as production
use Rattle.as3_parser.specs.Classes.{AreImports, AreMembers}
use Rattle.as3_parser.specs.ClassForms.{members_symbols}
use Rattle.as3_parser.specs.Forms.{part}
use Rattle.as3_parser.proofs.classes.imports.Given as goal

abbrev pub invariant-loop-alloc : goal.invariant-loop-alloc
invariant-loop-alloc l = Reads l.tokens l.fn.at l.at (part production.imports) (part production.imports) (AreImports l.text l.imports.items)

abbrev pub decreases-loop-alloc : goal.decreases-loop-alloc
decreases-loop-alloc l = length l.tokens - l.at
