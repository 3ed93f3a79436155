-- What the machine looks up in an ABC.
use Rattle.std.specs.Prelude.{ℕ, ◌-◌, List, [], ◌∷◌, ◌++◌, length, codes, Bool, true, false, ◌&&◌, ◌||◌, option_map, if◌then◌else◌, ◌==◌, Option, Some, None, slice_get, replicate}
use Rattle.std.specs.Result.{result_ok}
use Rattle.std.specs.Str.{bytes_eq}
use Rattle.abc_format.specs.declared.records.Abc.{Abc}
use Rattle.abc_format.specs.declared.records.MethodBody.{MethodBody}
use Rattle.abc_format.specs.declared.records.MethodInfo.{MethodInfo}
use Rattle.abc_format.specs.declared.records.ScriptInfo.{ScriptInfo}
use Rattle.abc_format.specs.declared.records.Trait.{Trait}
use Rattle.abc_format.specs.declared.records.TraitKind.{TraitKind}
use Rattle.abc_format.specs.declared.records.TraitKind.TheVariants as kind
use Rattle.flex_base.specs.declared.value.Value.TheVariants as value
use Rattle.avm2_machine.specs.declared.catalog.NativeClass.{NativeClass}
use Rattle.avm2_machine.specs.declared.frame.Operand.{Operand}
use Rattle.avm2_machine.specs.declared.frame.Operand.TheVariants as operand
use Rattle.avm2_machine.specs.declared.frame.CodeFrame.{CodeFrame}
use Rattle.avm2_code.specs.Reading.{instruction_at}
use Rattle.avm2_code.specs.declared.instruction.Instruction.{Instruction}
use Rattle.avm2_machine.specs.declared.stage.Class.TheVariants as class
use Rattle.avm2_machine.specs.declared.stage.PropertyType.TheVariants as type
use Rattle.avm2_machine.specs.declared.stage.Slot.{Slot}
use Rattle.avm2_machine.specs.Names.{Name, name_at, native_at, same_name}
use Rattle.flex_base.specs.Lists.{one_later}

abbrev pub fetch_in : Option MethodBody → ℕ → Option (Instruction × ℕ)
fetch_in None pc = None
fetch_in (Some body) pc = result_ok (instruction_at body.code pc)

-- the next instruction of a frame, and the place behind it
abbrev pub fetch : Abc → CodeFrame → Option (Instruction × ℕ)
fetch abc frame = fetch_in (slice_get abc.method_bodies frame.body) frame.pc

-- the number of the first body of a method
abbrev pub body_in : ℕ → List MethodBody → Option ℕ
body_in method [] = None
body_in method (body ∷ bodies) = if body.method == method then Some 0 else one_later (body_in method bodies)

abbrev pub body_of : Abc → ℕ → Option ℕ
body_of abc method = body_in method abc.method_bodies

abbrev pub local_count : Option MethodBody → ℕ
local_count None = 0
local_count (Some body) = body.local_count

-- the locals of a body when it is entered: the receiver and the arguments, and then undefined
abbrev pub first_locals : Abc → ℕ → List Operand → List Operand
first_locals abc body given = given ++ replicate (local_count (slice_get abc.method_bodies body) - length given) (operand.Value value.Undefined)

abbrev pub public_text : Option Name → Option (List ℕ)
public_text None = None
public_text (Some n) = if bytes_eq n.space [] then Some n.local else None

-- the text of a public name
abbrev pub public_at : Abc → ℕ → Option (List ℕ)
public_at abc name = public_text (name_at abc name)

abbrev pub named : Option Name → Name → Bool
named None name = false
named (Some other) name = same_name other name

-- whether the one parameter of a method is for the event of a click
abbrev pub takes_click : Abc → List ℕ → Bool
takes_click abc (parameter ∷ []) = named (name_at abc parameter) (record { space = codes "flash.events"; local = codes "MouseEvent" })
takes_click abc _ = false

abbrev pub takes_clicks : Abc → Option MethodInfo → Bool
takes_clicks abc None = false
takes_clicks abc (Some method) = takes_click abc method.param_types

abbrev pub hears_clicks : Abc → ℕ → Bool
hears_clicks abc method = takes_clicks abc (slice_get abc.methods method)

abbrev pub typed_slot : Option (List ℕ) → Option NativeClass → Option Slot
typed_slot None c = None
typed_slot (Some name) None = None
typed_slot (Some name) (Some c) = Some (record { name = name; kind = type.Instance (class.Native c); value = value.Null })

-- the property of a member: none where the member is no variable, and nothing where it has a name or a type that no emitted code gives it
abbrev pub declared_slot : Abc → ℕ → TraitKind → Option (Option Slot)
declared_slot abc name (kind.Slot slot_id type_name vindex vkind) = option_map Some (typed_slot (public_at abc name) (native_at abc type_name))
declared_slot abc name _ = Some None

abbrev pub and_slot : Option (Option Slot) → List Slot → (List Slot → Option (List Slot)) → Option (List Slot)
and_slot None slots k = None
and_slot (Some None) slots k = k slots
and_slot (Some (Some slot)) slots k = k (slots ++ slot ∷ [])

-- these properties and those that the members declare, each null
abbrev pub declared_onto : Abc → List Trait → List Slot → Option (List Slot)
declared_onto abc [] slots = Some slots
declared_onto abc (t ∷ traits) slots = and_slot (declared_slot abc t.name t.kind) slots (declared_onto abc traits)

abbrev pub is_named : Abc → ℕ → Name → Bool
is_named abc number name = named (name_at abc number) name

abbrev pub method_by : Bool → TraitKind → Option ℕ → Option ℕ
method_by true (kind.Method disp_id method) rest = Some method
method_by _ _ rest = rest

-- the number of the first method of this name among the members
abbrev pub method_named : Abc → List Trait → Name → Option ℕ
method_named abc [] name = None
method_named abc (t ∷ traits) name = method_by (is_named abc t.name name) t.kind (method_named abc traits name)

abbrev pub is_class : ℕ → TraitKind → Bool
is_class class (kind.Class slot_id other) = other == class
is_class class _ = false

-- whether a member of this name is for this class
abbrev pub class_trait_in : ℕ → ℕ → List Trait → Bool
class_trait_in name class [] = false
class_trait_in name class (t ∷ traits) = ((t.name == name) && is_class class t.kind) || class_trait_in name class traits

abbrev pub traits_of : Option ScriptInfo → List Trait
traits_of None = []
traits_of (Some script) = script.traits

abbrev pub has_class_trait : Abc → ℕ → ℕ → ℕ → Bool
has_class_trait abc script name class = class_trait_in name class (traits_of (slice_get abc.scripts script))
