-- Each number in the ABC of a document names an entry that is there.
use Rattle.std.proofs.Common.{ℕ, ◌+◌, ◌*◌, ◌<◌, ◌≤◌, List, [], ◌∷◌, ◌++◌, length, refl, arith}
use Rattle.std.specs.Prelude.{All}
use Rattle.std.specs.List.{flat_map}
use Rattle.std.proofs.lemmas.Bool.{lt-ltb, le-leb}
use Rattle.std.proofs.lemmas.List.Elements.{All-nil, All-cons, All-from_recursion}
use Rattle.abc_format.specs.Indexes.{IsIndex, string_rule, namespace_rule, name_rule, interface_rule, method_rule, metadata_rule, tables_of, NamespaceIndexes, SetIndexes, MultinameIndexes, MethodIndexes, MetadataIndexes, TraitIndexes, InstanceIndexes, ClassIndexes, ScriptIndexes, BodyIndexes, HasIndexes}
use Rattle.abc_format.specs.declared.tables.Tables.{Tables}
use Rattle.avm2_code.specs.declared.instruction.Instruction.TheVariants.{ReturnVoid}
use Rattle.flex_front.specs.declared.document.Element.{Element}
use Rattle.flexc.specs.Emitted.{encode_all, each_from, each_handler, class_number, fixed_strings, element_strings, fixed_names, element_names, namespaces, id_name, id_trait, building_trait, handler_name, handler_trait, handler_number, class_trait, plain_method, handler_method, methods_of, bindable, class_info, script_info, instance_of, instance_traits, script_code, constructor_code, building_code, handler_code, body, handler_body, bodies_of, abc_of}
use Rattle.flexc.proofs.Encodable.{class_number-low}
use Rattle.flexc.proofs.Sizes.{each_handler-same, each_handler-all}
use Rattle.flexc.proofs.WrittenSize.{instance_traits-all, names-length, names-all, strings-length}

module _ (es : List Element) where
  abbrev t : Tables
  t = tables_of (abc_of es)

  string : (n : ℕ) → n ≤ 15 + 3 * length es → IsIndex (string_rule t) n
  string n le = let e = strings-length es in le-leb n (length (fixed_strings ++ flat_map element_strings es)) (omega arith)

  namespace : (n : ℕ) → n ≤ 4 → IsIndex (namespace_rule t) n
  namespace n le = le-leb n 4 le

  name : (n : ℕ) → n ≤ 10 + 2 * length es → IsIndex (name_rule t) n
  name n le = let e = names-length (length es) in le-leb n (length (fixed_names ++ each_from element_names 0 (length es))) (omega arith)

  -- how many handlers there are
  abbrev handlers : ℕ
  handlers = length (each_handler (λ h k. handler_method) 0 0 es)

  method : (n : ℕ) → n < 4 + handlers → IsIndex (method_rule t) n
  method n lt = lt-ltb n (length (methods_of es)) (omega arith)

  no_metadata : All (IsIndex (metadata_rule t)) []
  no_metadata = All-nil (IsIndex (metadata_rule t))

  no_traits : All (TraitIndexes t) []
  no_traits = All-nil (TraitIndexes t)

  namespaces-named : All (NamespaceIndexes t) namespaces
  namespaces-named =
      All-from_recursion (NamespaceIndexes t) namespaces (
        string 0 (omega arith),
        (string 2 (omega arith), (string 6 (omega arith), (string 14 (omega arith), tt))),
      )

  names-named : All (MultinameIndexes t) (fixed_names ++ each_from element_names 0 (length es))
  names-named = names-all (MultinameIndexes t) (length es) (λ space local le less. (namespace space le, string local less))

  method-named : MethodIndexes t plain_method
  method-named = (name 0 (omega arith), All-nil (IsIndex (name_rule t)), string 0 (omega arith), All-nil (IsIndex (string_rule t)))

  handler_method-named : MethodIndexes t handler_method
  handler_method-named = (
    name 0 (omega arith),
    All-cons (IsIndex (name_rule t)) 10 [] (name 10 (omega arith)) (All-nil (IsIndex (name_rule t))),
    string 0 (omega arith),
    All-nil (IsIndex (string_rule t)),
  )

  methods-named : All (MethodIndexes t) (methods_of es)
  methods-named =
      let P = MethodIndexes t in
      let others = each_handler (λ h k. handler_method) 0 0 es in
      All-cons P plain_method (plain_method ∷ plain_method ∷ plain_method ∷ others) method-named
      (All-cons P plain_method (plain_method ∷ plain_method ∷ others) method-named
      (All-cons P plain_method (plain_method ∷ others) method-named
      (All-cons P plain_method others method-named
      (each_handler-all P (λ h k. handler_method) 0 0 handlers (length es) es (omega arith) (omega arith) (λ h k is lt. handler_method-named)))))

  id_trait-named : (k : ℕ) (e : Element) → k < length es → TraitIndexes t (id_trait k e)
  id_trait-named k e lt =
      let c = class_number-low e in
      (name (id_name k) (omega arith), name (class_number e) (omega arith), All-cons (IsIndex (metadata_rule t)) 0 [] refl no_metadata)

  building_trait-named : TraitIndexes t building_trait
  building_trait-named = (name 6 (omega arith), method 3 (omega arith), no_metadata)

  handler_trait-named : (h k : ℕ) → h < length (each_handler handler_trait 0 0 es) → k < length es → TraitIndexes t (handler_trait h k)
  handler_trait-named h k is lt =
      let same = each_handler-same handler_trait (λ h k. handler_method) 0 0 0 0 es in
      (name (handler_name k) (omega arith), method (handler_number h) (omega arith), no_metadata)

  class_trait-named : TraitIndexes t class_trait
  class_trait-named = (name 1 (omega arith), refl, no_metadata)

  instance-named : InstanceIndexes t (instance_of es)
  instance-named = (
    name 1 (omega arith),
    name 2 (omega arith),
    namespace 0 (omega arith),
    All-nil (IsIndex (interface_rule t)),
    method 2 (omega arith),
    instance_traits-all (TraitIndexes t) es id_trait-named building_trait-named handler_trait-named,
  )

  body-named : (number max_stack local_count : ℕ) (code : List ℕ) → number < 4 + handlers → BodyIndexes t (body number max_stack local_count code)
  body-named number max_stack local_count code lt = (method number lt, no_traits)

  bodies-named : All (BodyIndexes t) (bodies_of es)
  bodies-named =
      let P = BodyIndexes t in
      let script = body 0 2 1 (encode_all script_code) in
      let static = body 1 0 1 (encode_all (ReturnVoid ∷ [])) in
      let constructor = body 2 1 1 (encode_all constructor_code) in
      let building = body 3 4 2 (encode_all (building_code es)) in
      let others = each_handler handler_body 0 0 es in
      let same = each_handler-same handler_body (λ h k. handler_method) 0 0 0 0 es in
      All-cons P script (static ∷ constructor ∷ building ∷ others) (body-named 0 2 1 (encode_all script_code) (omega arith))
      (All-cons P static (constructor ∷ building ∷ others) (body-named 1 0 1 (encode_all (ReturnVoid ∷ [])) (omega arith))
      (All-cons P constructor (building ∷ others) (body-named 2 1 1 (encode_all constructor_code) (omega arith))
      (All-cons P building others (body-named 3 4 2 (encode_all (building_code es)) (omega arith))
      (each_handler-all P handler_body 0 0 handlers (length es) es (omega arith) (omega arith)
      (λ h k is lt. body-named (handler_number h) 2 2 (encode_all (handler_code k)) (omega arith))))))

  -- the ABC of a document
  pub abc-named : HasIndexes (abc_of es)
  abc-named = record {
    constant_pool = (namespaces-named, All-nil (SetIndexes t), names-named);
    methods = methods-named;
    metadata = All-cons (MetadataIndexes t) bindable [] (string 9 (omega arith)) (All-nil (MetadataIndexes t));
    instances = All-cons (InstanceIndexes t) (instance_of es) [] instance-named (All-nil (InstanceIndexes t));
    classes = All-cons (ClassIndexes t) class_info [] (method 1 (omega arith), no_traits) (All-nil (ClassIndexes t));
    scripts = All-cons (ScriptIndexes t) script_info [] (method 0 (omega arith), All-cons (TraitIndexes t) class_trait [] class_trait-named no_traits) (All-nil (ScriptIndexes t));
    method_bodies = bodies-named;
  }
