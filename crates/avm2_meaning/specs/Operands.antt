-- What is asked of operands, and small ones.
use Rattle.std.specs.Prelude.{Bool, false, true, ℕ}
use Rattle.flex_base.specs.declared.value.ObjId.{ObjId}
use Rattle.flex_base.specs.declared.value.Value.{Value}
use Rattle.flex_base.specs.declared.value.Value.TheVariants as value
use Rattle.flex_world.specs.Classes.{same_class}
use Rattle.flex_world.specs.declared.kind.Class.TheVariants as Class
use Rattle.flex_world.specs.declared.kind.StaticType.{StaticType}
use Rattle.flex_world.specs.declared.kind.StaticType.TheVariants as StaticType
use Rattle.avm2_meaning.specs.declared.operand.Operand.{Operand}
use Rattle.avm2_meaning.specs.declared.operand.Operand.TheVariants.{ClassValue, Plain}

-- whether both are one class
abbrev pub same_type : StaticType → StaticType → Bool
same_type StaticType.Int StaticType.Int = true
same_type StaticType.Boolean StaticType.Boolean = true
same_type StaticType.String StaticType.String = true
same_type StaticType.Array StaticType.Array = true
same_type (StaticType.Object a) (StaticType.Object b) = same_class a b
same_type _ _ = false

abbrev pub is_class : StaticType → Operand → Bool
is_class type (ClassValue other) = same_type type other
is_class type _ = false

abbrev pub is_null : Operand → Bool
is_null (Plain value.Null) = true
is_null _ = false

abbrev pub undefined : Operand
undefined = Plain value.Undefined

abbrev pub ref : ObjId → Operand
ref o = Plain (value.Ref o)

-- the type whose values are the objects of a class of the file
abbrev pub file_type : ℕ → StaticType
file_type k = StaticType.Object (Class.File k)

abbrev pub class_value : ℕ → Operand
class_value k = ClassValue (file_type k)
