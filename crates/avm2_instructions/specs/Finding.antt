-- Operands that have a name.
use Rattle.std.specs.Prelude.{Bool, is_some}
use Rattle.avm2_meaning.specs.Members.{member}
use Rattle.avm2_meaning.specs.declared.heap.Heap.{Heap}
use Rattle.avm2_meaning.specs.declared.operand.Operand.{Operand}
use Rattle.avm2_program.specs.declared.file.Program.{Program}
use Rattle.avm2_program.specs.declared.names.Name.{Name}

abbrev pub has_name : Program → Name → Heap → Operand → Bool
has_name p n h v = is_some (member p v n h)
