-- The ABC of a document.
use Rattle.std.specs.Prelude.{ℕ, zero, suc, ◌+◌, ◌*◌, List, [], ◌∷◌, ◌++◌, length, pos, Some, None, codes}
use Rattle.std.specs.List.{flat_map}
use Rattle.abc_format.specs.declared.records.Abc.{Abc}
use Rattle.abc_format.specs.declared.records.ConstantPool.{ConstantPool}
use Rattle.abc_format.specs.declared.records.Namespace.{Namespace}
use Rattle.abc_format.specs.declared.records.NamespaceKind.TheVariants as space_kind
use Rattle.abc_format.specs.declared.records.Multiname.{Multiname}
use Rattle.abc_format.specs.declared.records.Multiname.TheVariants.{QName}
use Rattle.abc_format.specs.declared.records.MethodInfo.{MethodInfo}
use Rattle.abc_format.specs.declared.records.MetadataInfo.{MetadataInfo}
use Rattle.abc_format.specs.declared.records.InstanceInfo.{InstanceInfo}
use Rattle.abc_format.specs.declared.records.ClassInfo.{ClassInfo}
use Rattle.abc_format.specs.declared.records.ScriptInfo.{ScriptInfo}
use Rattle.abc_format.specs.declared.records.MethodBody.{MethodBody}
use Rattle.abc_format.specs.declared.records.Trait.{Trait}
use Rattle.abc_format.specs.declared.records.TraitKind.TheVariants as trait_kind
use Rattle.flex_front.specs.declared.document.Element.{Element}
use Rattle.flex_front.specs.declared.document.Element.TheVariants as element
use Rattle.avm2_code.specs.declared.instruction.Instruction.{Instruction}
use Rattle.avm2_code.specs.declared.instruction.Instruction.TheVariants as instruction
use Rattle.avm2_code.specs.Writing.{encode}

-- the bytes of instructions, one behind another
abbrev pub encode_all : List Instruction → List ℕ
encode_all is = flat_map encode is

-- what f gives for each number from k on, so many of them
abbrev pub each_from : {A : Type 0} → (ℕ → List A) → ℕ → ℕ → List A
each_from f k zero = []
each_from f k (suc n) = f k ++ each_from f (suc k) n

-- what f gives for each element, where the first has the number k
abbrev pub each_element : {A : Type 0} → (ℕ → Element → List A) → ℕ → List Element → List A
each_element f k [] = []
each_element f k (e ∷ es) = f k e ++ each_element f (suc k) es

-- what f gives for each handler: of its number, where the first one has the number h, and of its element's number, where the first element has the number k
abbrev pub each_handler : {A : Type 0} → (ℕ → ℕ → A) → ℕ → ℕ → List Element → List A
each_handler f h k [] = []
each_handler f h k (element.Button id (Some text) ∷ es) = f h k ∷ each_handler f (suc h) (suc k) es
each_handler f h k (e ∷ es) = each_handler f h (suc k) es

-- the name of the main class
abbrev pub main_text : List ℕ
main_text = codes "Main"

-- the strings that every pool begins with
abbrev pub fixed_strings : List (List ℕ)
fixed_strings =
    main_text ∷ codes "spark.components" ∷ codes "Application" ∷ codes "Label" ∷ codes "text" ∷ codes "flexc" ∷ codes "place"
    ∷ codes "#building" ∷ codes "Bindable" ∷ codes "Button" ∷ codes "trace" ∷ codes "click" ∷ codes "addEventListener" ∷ codes "flash.events"
    ∷ codes "MouseEvent" ∷ []

-- the name of the method that handles the clicks of an element
abbrev pub handler_text : List ℕ → List ℕ
handler_text id = codes "#click-" ++ id

-- an element's id, its text and the name of its handler, which are empty where it has none
abbrev pub element_strings : Element → List (List ℕ)
element_strings (element.Label id text) = id ∷ text ∷ [] ∷ []
element_strings (element.Button id None) = id ∷ [] ∷ [] ∷ []
element_strings (element.Button id (Some text)) = id ∷ text ∷ handler_text id ∷ []

-- the numbers of an element's strings, names and int
abbrev pub id_string : ℕ → ℕ
id_string k = 16 + 3 * k

abbrev pub text_string : ℕ → ℕ
text_string k = 17 + 3 * k

abbrev pub handler_string : ℕ → ℕ
handler_string k = 18 + 3 * k

abbrev pub id_name : ℕ → ℕ
id_name k = 11 + 2 * k

abbrev pub handler_name : ℕ → ℕ
handler_name k = 12 + 2 * k

abbrev pub rank_int : ℕ → ℕ
rank_int k = 1 + k

abbrev pub fixed_names : List Multiname
fixed_names =
    QName 1 1 ∷ QName 2 3 ∷ QName 2 4 ∷ QName 1 5 ∷ QName 3 7 ∷ QName 3 8 ∷ QName 2 10 ∷ QName 1 11 ∷ QName 1 13 ∷ QName 4 15 ∷ []

-- the names of an element's id and of its handler
abbrev pub element_names : ℕ → List Multiname
element_names k = QName 1 (id_string k) ∷ QName 3 (handler_string k) ∷ []

-- the number of the name of an element's class
abbrev pub class_number : Element → ℕ
class_number (element.Label id text) = 3
class_number (element.Button id click) = 7

abbrev pub namespaces : List Namespace
namespaces =
    record { kind = space_kind.PackageNamespace; name = 0 } ∷ record { kind = space_kind.PackageNamespace; name = 2 }
    ∷ record { kind = space_kind.Namespace; name = 6 } ∷ record { kind = space_kind.PackageNamespace; name = 14 } ∷ []

abbrev pub pool_of : List Element → ConstantPool
pool_of es = record {
  integers = each_from (λ k. pos k ∷ []) 0 (length es);
  unsigned_integers = [];
  doubles = [];
  strings = fixed_strings ++ flat_map element_strings es;
  namespaces = namespaces;
  namespace_sets = [];
  multinames = fixed_names ++ each_from element_names 0 (length es);
}

-- a method without parameters and without a result
abbrev pub plain_method : MethodInfo
plain_method = record { return_type = 0; param_types = []; name = 0; flags = 0; options = []; param_names = [] }

-- the method of a handler, whose parameter is the event
abbrev pub handler_method : MethodInfo
handler_method = record { return_type = 0; param_types = 10 ∷ []; name = 0; flags = 0; options = []; param_names = [] }

abbrev pub methods_of : List Element → List MethodInfo
methods_of es = plain_method ∷ plain_method ∷ plain_method ∷ plain_method ∷ each_handler (λ h k. handler_method) 0 0 es

-- the number of the method of a handler
abbrev pub handler_number : ℕ → ℕ
handler_number h = 4 + h

abbrev pub bindable : MetadataInfo
bindable = record { name = 9; items = [] }

-- the bindable slot of an element's id
abbrev pub id_trait : ℕ → Element → Trait
id_trait k e = record { name = id_name k; kind = trait_kind.Slot 0 (class_number e) 0 0; attributes = 4; metadata = 0 ∷ [] }

-- the method that builds the document
abbrev pub building_trait : Trait
building_trait = record { name = 6; kind = trait_kind.Method 0 3; attributes = 0; metadata = [] }

-- the method that handles the clicks of an element
abbrev pub handler_trait : ℕ → ℕ → Trait
handler_trait h k = record { name = handler_name k; kind = trait_kind.Method 0 (handler_number h); attributes = 0; metadata = [] }

abbrev pub instance_traits : List Element → List Trait
instance_traits es = each_element (λ k e. id_trait k e ∷ []) 0 es ++ (building_trait ∷ each_handler handler_trait 0 0 es)

abbrev pub instance_of : List Element → InstanceInfo
instance_of es =
    record { name = 1; super_name = 2; flags = 1; protected_namespace = 0; interfaces = []; iinit = 2; traits = instance_traits es }

abbrev pub class_info : ClassInfo
class_info = record { cinit = 1; traits = [] }

abbrev pub class_trait : Trait
class_trait = record { name = 1; kind = trait_kind.Class 0 0; attributes = 0; metadata = [] }

abbrev pub script_info : ScriptInfo
script_info = record { init = 0; traits = class_trait ∷ [] }

-- makes the class, and writes it into the script's slot
abbrev pub script_code : List Instruction
script_code = instruction.GetLocal0 ∷ instruction.GetLex 2 ∷ instruction.NewClass 0 ∷ instruction.InitProperty 1 ∷ instruction.ReturnVoid ∷ []

-- runs the base's constructor, and builds the document
abbrev pub constructor_code : List Instruction
constructor_code =
    instruction.GetLocal0 ∷ instruction.ConstructSuper 0 ∷ instruction.GetLocal0 ∷ instruction.CallPropVoid 6 0 ∷ instruction.ReturnVoid ∷ []

-- makes an element, and writes its id
abbrev pub making_code : ℕ → Element → List Instruction
making_code k e =
    instruction.FindPropStrict (class_number e) ∷ instruction.ConstructProp (class_number e) 0 ∷ instruction.SetLocal1 ∷ instruction.GetLocal0
    ∷ instruction.GetLocal1 ∷ instruction.SetProperty (id_name k) ∷ []

-- applies its attributes: writes its text, or registers its handler
abbrev pub attribute_code : ℕ → Element → List Instruction
attribute_code k (element.Label id text) = instruction.GetLocal1 ∷ instruction.PushString (text_string k) ∷ instruction.SetProperty 4 ∷ []
attribute_code k (element.Button id None) = []
attribute_code k (element.Button id (Some text)) =
    instruction.GetLocal1 ∷ instruction.PushString 12 ∷ instruction.GetLocal0 ∷ instruction.GetProperty (handler_name k) ∷ instruction.CallPropVoid 9 2 ∷ []

-- adds it to the document
abbrev pub place_code : ℕ → List Instruction
place_code k =
    instruction.GetLocal0 ∷ instruction.GetLocal0 ∷ instruction.GetLocal1 ∷ instruction.PushInt (rank_int k) ∷ instruction.CallPropVoid 5 3 ∷ []

abbrev pub element_code : ℕ → Element → List Instruction
element_code k e = making_code k e ++ (attribute_code k e ++ place_code k)

-- builds the elements one after another
abbrev pub building_code : List Element → List Instruction
building_code es = each_element element_code 0 es ++ instruction.ReturnVoid ∷ []

-- a handler traces its text
abbrev pub handler_code : ℕ → List Instruction
handler_code k =
    instruction.FindPropStrict 8 ∷ instruction.PushString (text_string k) ∷ instruction.CallPropVoid 8 1 ∷ instruction.ReturnVoid ∷ []

abbrev pub body : ℕ → ℕ → ℕ → List ℕ → MethodBody
body method max_stack local_count code =
    record { method = method; max_stack = max_stack; local_count = local_count; init_scope_depth = 0; max_scope_depth = 0; code = code; exceptions = []; traits = [] }

abbrev pub handler_body : ℕ → ℕ → MethodBody
handler_body h k = body (handler_number h) 2 2 (encode_all (handler_code k))

abbrev pub bodies_of : List Element → List MethodBody
bodies_of es =
    body 0 2 1 (encode_all script_code) ∷ body 1 0 1 (encode_all (instruction.ReturnVoid ∷ [])) ∷ body 2 1 1 (encode_all constructor_code)
    ∷ body 3 4 2 (encode_all (building_code es)) ∷ each_handler handler_body 0 0 es

-- the ABC of a document with these elements
abbrev pub abc_of : List Element → Abc
abc_of es = record {
  constant_pool = pool_of es;
  methods = methods_of es;
  metadata = bindable ∷ [];
  instances = instance_of es ∷ [];
  classes = class_info ∷ [];
  scripts = script_info ∷ [];
  method_bodies = bodies_of es;
}
