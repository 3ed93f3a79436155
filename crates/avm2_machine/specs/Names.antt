-- The names of an ABC's pool, by their texts.
use Rattle.std.specs.Prelude.{ℕ, zero, suc, List, [], Bool, true, false, ◌&&◌, Option, Some, None, slice_get, codes, if◌then◌else◌}
use Rattle.std.specs.Str.{bytes_eq}
use Rattle.abc_format.specs.declared.records.Abc.{Abc}
use Rattle.abc_format.specs.declared.records.Namespace.{Namespace}
use Rattle.abc_format.specs.declared.records.Multiname.{Multiname}
use Rattle.abc_format.specs.declared.records.Multiname.TheVariants.{QName}
use Rattle.avm2_machine.specs.declared.names.Name as Borrowed
use Rattle.avm2_machine.specs.declared.catalog.NativeClass.{NativeClass}
use Rattle.avm2_machine.specs.declared.catalog.NativeClass.TheVariants.{Application, Label, Button}
use Rattle.avm2_machine.specs.declared.frame.Operand.{Operand}
use Rattle.avm2_machine.specs.declared.frame.Operand.TheVariants as operand
use Rattle.flex_base.specs.Lists.{entry}

-- a qualified name: the text of its namespace, and its own text
pub record Name : Type 0 where
  pub space : List ℕ
  pub local : List ℕ

-- the texts of a name that the code has
abbrev pub texts_of : Borrowed.Name → Name
texts_of n = record { space = n.space.now; local = n.local.now }

abbrev pub string_at : Abc → ℕ → Option (List ℕ)
string_at abc zero = Some []
string_at abc (suc n) = slice_get abc.constant_pool.strings n

abbrev pub with_texts : Option (List ℕ) → Option (List ℕ) → Option Name
with_texts None local = None
with_texts (Some space) None = None
with_texts (Some space) (Some local) = Some (record { space = space; local = local })

abbrev pub name_in : Abc → Option Namespace → ℕ → Option Name
name_in abc None name = None
name_in abc (Some namespace) name = with_texts (string_at abc namespace.name) (string_at abc name)

abbrev pub name_of : Abc → Option Multiname → Option Name
name_of abc (Some (QName namespace name)) = name_in abc (entry abc.constant_pool.namespaces namespace) name
name_of abc _ = None

abbrev pub name_at : Abc → ℕ → Option Name
name_at abc number = name_of abc (entry abc.constant_pool.multinames number)

abbrev pub same_name : Name → Name → Bool
same_name a b = bytes_eq a.space b.space && bytes_eq a.local b.local

abbrev pub is_name : Name → List ℕ → List ℕ → Bool
is_name n space local = bytes_eq n.space space && bytes_eq n.local local

-- the own name of a native class
abbrev pub class_name : NativeClass → List ℕ
class_name Application = codes "Application"
class_name Label = codes "Label"
class_name Button = codes "Button"

-- a native class by its name
abbrev pub class_named : List ℕ → List ℕ → Option NativeClass
class_named space local =
    if bytes_eq space (codes "spark.components") then
    (if bytes_eq local (codes "Application") then Some Application else if bytes_eq local (codes "Label") then Some Label else if bytes_eq local (codes "Button") then Some Button else None)
    else None

-- who holds a name that is looked up: the native script, which has `trace` and the native classes
abbrev pub holder_of : Bool → Option NativeClass → Option Operand
holder_of true c = Some operand.Natives
holder_of false None = None
holder_of false (Some c) = Some operand.Natives

abbrev pub holder : Option Name → Option Operand
holder None = None
holder (Some n) = holder_of (is_name n [] (codes "trace")) (class_named n.space n.local)

abbrev pub class_of_name : Option Name → Option NativeClass
class_of_name None = None
class_of_name (Some n) = class_named n.space n.local

abbrev pub native_at : Abc → ℕ → Option NativeClass
native_at abc number = class_of_name (name_at abc number)
