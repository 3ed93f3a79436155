-- Finding what a name is: at a value, and in code.
use Rattle.std.specs.List.{find}
use Rattle.std.specs.Prelude.{Bool, List, None, Option, Some, [], codes, false, if◌then◌else◌, is_some, length, option_and_then, option_map, slice_get, suc, true, unwrap_or, zero, ℕ, ◌&&◌, ◌++◌, ◌∷◌}
use Rattle.std.specs.Str.{bytes_eq}
use Rattle.avm2_program.specs.Names.{has_space, names_it, public_space, runtime_space}
use Rattle.avm2_program.specs.Naming.{native_type}
use Rattle.avm2_program.specs.declared.class.FileClass.{FileClass}
use Rattle.avm2_program.specs.declared.member.Member.{Member}
use Rattle.avm2_program.specs.declared.member.NamedMember.{NamedMember}
use Rattle.avm2_program.specs.declared.file.Program.{Program}
use Rattle.avm2_program.specs.declared.member.RuntimeCall.{RuntimeCall}
use Rattle.avm2_program.specs.declared.file.Script.{Script}
use Rattle.avm2_program.specs.declared.names.Name.{Name}
use Rattle.component_catalog.specs.Classes.{or_else}
use Rattle.component_catalog.specs.Methods.{Row, method_of as catalog_method}
use Rattle.component_catalog.specs.Properties.{property_of}
use Rattle.component_catalog.specs.declared.class.NativeClass.{NativeClass}
use Rattle.component_catalog.specs.declared.class.NativeClass.TheVariants as native
use Rattle.flex_base.specs.declared.outcome.MachineFault.TheVariants as fault
use Rattle.flex_base.specs.declared.outcome.Stop.TheVariants as stop
use Rattle.flex_base.specs.declared.value.Value.TheVariants as value
use Rattle.flex_world.specs.Classes.{native_descends}
use Rattle.flex_world.specs.declared.kind.Class.{Class}
use Rattle.flex_world.specs.declared.kind.StaticType.{StaticType}
use Rattle.flex_world.specs.Objects.{An_array, Instance_of, Kind, Object}
use Rattle.ui_runtime.specs.Stage.{object_at}
use Rattle.avm2_meaning.specs.Classes.{file_class_at, owner_of}
use Rattle.avm2_meaning.specs.declared.work.Work.{Work}
use Rattle.avm2_meaning.specs.Heap.{made_class}
use Rattle.avm2_meaning.specs.declared.heap.Heap.{Heap}
use Rattle.avm2_meaning.specs.declared.heap.MadeClass.{MadeClass}
use Rattle.avm2_meaning.specs.declared.operand.Operand.{Operand}
use Rattle.avm2_meaning.specs.declared.operand.Operand.TheVariants.{ClassValue, Natives, Plain, ScriptValue}
use Rattle.avm2_meaning.specs.Results.{Goes, Result, faults, or_fault, stops}

-- the first of the members that a name names
abbrev pub member_among : Name → List NamedMember → Option Member
member_among n members = option_map (λ (m : NamedMember). m.member) (find (λ (m : NamedMember). names_it n m.name) members)

abbrev pub when : {A : Type 0} → Bool → Option A → Option A
when true x = x
when false x = None

abbrev pub property_member : NativeClass → List ℕ → Option Member
property_member class text = option_map (λ _. Member.Slot text) (property_of class text)

abbrev pub method_member : NativeClass → List ℕ → Option Member
method_member class text = option_map (λ (r : Row). Member.Catalog r.method) (catalog_method class text)

-- the members of a class of the catalog are public
abbrev pub native_member : NativeClass → Name → Option Member
native_member class n = when (has_space public_space n) (or_else (property_member class n.text) (method_member class n.text))

-- the call of the runtime of this name
abbrev pub runtime_call : List ℕ → Option RuntimeCall
runtime_call text =
    if bytes_eq text (codes "state") then Some RuntimeCall.RegisterState
    else if bytes_eq text (codes "bind") then Some RuntimeCall.Bind
    else if bytes_eq text (codes "runBinding") then Some RuntimeCall.RunBinding
    else if bytes_eq text (codes "begin") then Some RuntimeCall.Begin
    else if bytes_eq text (codes "place") then Some RuntimeCall.Place
    else if bytes_eq text (codes "takeOut") then Some RuntimeCall.TakeOut
    else None

abbrev pub runtime_member : NativeClass → Name → Option Member
runtime_member class n = when (has_space runtime_space n && native_descends class native.UIComponent) (option_map Member.Runtime (runtime_call n.text))

abbrev pub array_member : List ℕ → Option Member
array_member text =
    if bytes_eq text (codes "length") then Some Member.ArrayLength
    else if bytes_eq text (codes "push") then Some Member.Push
    else if bytes_eq text (codes "pop") then Some Member.Pop
    else None

abbrev pub text_member : List ℕ → Option Member
text_member text = when (bytes_eq text (codes "length")) (Some Member.TextLength)

-- what a name is at a class of the native script
abbrev pub builtin_member : StaticType → Name → Option Member
builtin_member (StaticType.Object (Class.Native class)) n = native_member class n
builtin_member StaticType.Array n = when (has_space public_space n) (array_member n.text)
builtin_member StaticType.String n = when (has_space public_space n) (text_member n.text)
builtin_member _ n = None

-- the same for a class of the file that descends from it: the calls of the runtime come last
abbrev pub inherited_member : Option StaticType → Name → Option Member
inherited_member (Some (StaticType.Object (Class.Native class))) n = or_else (native_member class n) (runtime_member class n)
inherited_member (Some type) n = builtin_member type n
inherited_member None n = None

-- what a name is at the native script
abbrev pub script_member : Name → Option Member
script_member n =
    or_else (when (has_space public_space n && bytes_eq n.text (codes "trace")) (Some Member.Trace)) (option_map Member.ClassOf (native_type n))

module _ (p : Program) where
  -- the traits of a class of the file, then those of its bases, then the native members
  abbrev pub file_member : ℕ → Name → Option Member
  file_member k n = option_and_then (λ (class : FileClass). or_else (member_among n class.members) (inherited_member class.behind n)) (file_class_at p k)

  abbrev pub class_member : Class → Name → Option Member
  class_member (Class.File k) n = file_member k n
  class_member (Class.Native class) n = native_member class n

  abbrev pub kind_member : Kind → Name → Option Member
  kind_member (Instance_of class) n = class_member class n
  kind_member An_array n = builtin_member StaticType.Array n

  -- the members at which `super` begins with this base
  abbrev pub base_member : StaticType → Name → Option Member
  base_member (StaticType.Object (Class.File k)) n = file_member k n
  base_member type n = inherited_member (Some type) n

  -- what a name is at a value
  abbrev pub member : Operand → Name → Heap → Option Member
  member (Plain (value.Ref o)) n h = option_and_then (λ (c : Object). kind_member c.kind n) (object_at o h.stage)
  member (Plain (value.Text text)) n h = builtin_member StaticType.String n
  member (ClassValue (StaticType.Object (Class.File k))) n h = option_and_then (λ (class : FileClass). member_among n class.own_members) (file_class_at p k)
  member (ScriptValue k) n h = option_and_then (λ (script : Script). member_among n script.members) (slice_get p.scripts k)
  member Natives n h = script_member n
  member _ n h = None

  -- the same at the receiver of an instruction
  abbrev pub found : Operand → Name → Heap → Result Member
  found (Plain value.Undefined) n h = stops stop.NullReference h
  found (Plain value.Null) n h = stops stop.NullReference h
  found (Plain (value.Int i)) n h = faults fault.WrongKind h
  found (Plain (value.Bool b)) n h = faults fault.WrongKind h
  found (Plain (value.Listener o m)) n h = faults fault.WrongKind h
  found v n h = or_fault fault.NoName (member v n h) h (λ m. Goes m h)

  -- so many scripts from a number on, and the native one
  abbrev pub scripts_and_native : ℕ → ℕ → List Operand
  scripts_and_native n zero = Natives ∷ []
  scripts_and_native n (suc left) = ScriptValue n ∷ scripts_and_native (suc n) left

  -- the scripts in order, and the native one
  abbrev pub all_scripts : List Operand
  all_scripts = scripts_and_native 0 (length p.scripts)

  -- the scopes that were open when the class of a method was made
  abbrev pub class_scopes : ℕ → Heap → List Operand
  class_scopes m h = unwrap_or (option_map (λ (made : MadeClass). made.scopes) (option_and_then (λ k. made_class k h) (owner_of p m))) []

  -- where code looks for a name
  abbrev pub holders : Work → Heap → List Operand
  holders w h = w.scopes ++ class_scopes w.method h ++ all_scripts

  -- the first of them that has the name
  abbrev pub look_up : Work → Name → Heap → Result Operand
  look_up w n h = or_fault fault.NoName (find (λ v. is_some (member v n h)) (holders w h)) h (λ v. Goes v h)
