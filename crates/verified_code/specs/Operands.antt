-- What the operands of an instruction may name.
use Rattle.std.specs.Prelude.{ℕ, zero, suc, length, Bool, true, false, not, Option, Some, None, slice_get, if◌then◌else◌}
use Rattle.abc_format.specs.declared.records.Abc.{Abc}
use Rattle.abc_format.specs.declared.records.ConstantPool.{ConstantPool}
use Rattle.abc_format.specs.declared.records.Multiname.{Multiname}
use Rattle.abc_format.specs.declared.records.Multiname.TheVariants as multiname
use Rattle.abc_format.specs.declared.tables.IndexRule.{IndexRule}
use Rattle.abc_format.specs.declared.tables.IndexRule.TheVariants.{Entry, Item}
use Rattle.abc_format.specs.Indexes.{allows}
use Rattle.avm2_code.specs.declared.table.OperandForm.{OperandForm}
use Rattle.avm2_code.specs.declared.table.OperandForm.TheVariants.{U30}
use Rattle.avm2_code.specs.declared.table.Role.{Role}
use Rattle.avm2_code.specs.declared.table.Role.TheVariants.{Name, String, Int, Class}

-- what a number may be, by what it says: an entry of the pool, or a class counted from 0
abbrev pub index_rule : Abc → Role → Option IndexRule
index_rule a Name = Some (Entry (length a.constant_pool.multinames))
index_rule a String = Some (Entry (length a.constant_pool.strings))
index_rule a Int = Some (Entry (length a.constant_pool.integers))
index_rule a Class = Some (Item (length a.classes))
index_rule a _ = None

abbrev pub is_allowed : Option IndexRule → ℕ → Bool
is_allowed None n = true
is_allowed (Some rule) n = allows rule n

-- whether an operand names an entry that isn't there
abbrev pub is_missing : Abc → OperandForm → Bool
is_missing a (U30 role n) = not (is_allowed (index_rule a role) n)
is_missing a _ = false

-- the name of a number, counted from 1
abbrev pub name_at : ConstantPool → ℕ → Option Multiname
name_at p zero = None
name_at p (suc n) = slice_get p.multinames n

-- the kinds 1B and 1C, whose text is a value of the stack
abbrev pub is_late_kind : Multiname → Bool
is_late_kind (multiname.MultinameL set) = true
is_late_kind (multiname.MultinameLA set) = true
is_late_kind _ = false

-- the kinds 0F, 10, 11 and 12, whose namespace is a value of the stack
abbrev pub is_runtime_kind : Multiname → Bool
is_runtime_kind (multiname.RtqName name) = true
is_runtime_kind (multiname.RtqNameA name) = true
is_runtime_kind multiname.RtqNameL = true
is_runtime_kind multiname.RtqNameLA = true
is_runtime_kind _ = false

abbrev pub late_in : Option Multiname → Bool
late_in None = false
late_in (Some name) = is_late_kind name

-- whether the name of a number is of a late kind
abbrev pub is_late : ConstantPool → ℕ → Bool
is_late p n = late_in (name_at p n)

abbrev pub unplayed_in : Bool → Option Multiname → Bool
unplayed_in late_name None = false
unplayed_in late_name (Some name) = if is_runtime_kind name then true else if is_late_kind name then not late_name else false

-- whether an operand is a name that isn't played, where one of a late kind may stand or not
abbrev pub is_unplayed : ConstantPool → Bool → OperandForm → Bool
is_unplayed p late_name (U30 Name n) = unplayed_in late_name (name_at p n)
is_unplayed p late_name _ = false
