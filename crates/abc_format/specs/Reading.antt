-- What bytes say as an ABC, or the first place at which they are none and the reason. AVM2 Overview, chapter 4.
use Rattle.std.specs.Prelude.{◌≡◌, ℕ, ◌/◌, ◌%◌, List, [], length, if◌then◌else◌, ◌==◌, Option, Some, None, Result, Ok, Err, MatchResult}
use Rattle.abc_format.specs.Kinds.{namespace_kind_of, qname_kind, qname_a_kind, rtq_name_kind, rtq_name_a_kind, rtq_name_l_kind, rtq_name_la_kind, multiname_kind, multiname_a_kind, multiname_l_kind, multiname_la_kind, slot_code, method_code, getter_code, setter_code, class_code, function_code, const_code}
use Rattle.abc_format.specs.Indexes.{string_rule, namespace_rule, set_rule, name_rule, interface_rule, method_rule, metadata_rule, class_rule, pool_tables, with_tables}
use Rattle.abc_format.specs.Fields.{Cursor, Fault, Reading, place_of, done, fault_at, fails, and_then, read_byte, read_piece, read_u32, read_u30, read_index, read_int, read_double, read_string, read_version, times, counted, table, flagged}
use Rattle.abc_format.specs.declared.tables.IndexRule.{IndexRule}
use Rattle.abc_format.specs.declared.tables.Tables.{Tables}
use Rattle.abc_format.specs.declared.reason.AbcReason.TheVariants as reason
use Rattle.abc_format.specs.declared.reason.AbcRefusal.{AbcRefusal}
use Rattle.abc_format.specs.declared.reason.AbcRefusal.TheVariants as refusal
use Rattle.abc_format.specs.declared.reading.Classes.{Classes}
use Rattle.abc_format.specs.declared.reading.traits.Variable.{Variable}
use Rattle.abc_format.specs.declared.records.Abc.{Abc}
use Rattle.abc_format.specs.declared.records.ConstantPool.{ConstantPool}
use Rattle.abc_format.specs.declared.records.Namespace.{Namespace}
use Rattle.abc_format.specs.declared.records.NamespaceKind.{NamespaceKind}
use Rattle.abc_format.specs.declared.records.Multiname.{Multiname}
use Rattle.abc_format.specs.declared.records.Multiname.TheVariants as multiname
use Rattle.abc_format.specs.declared.records.MethodInfo.{MethodInfo}
use Rattle.abc_format.specs.declared.records.OptionDetail.{OptionDetail}
use Rattle.abc_format.specs.declared.records.MetadataInfo.{MetadataInfo}
use Rattle.abc_format.specs.declared.records.ItemInfo.{ItemInfo}
use Rattle.abc_format.specs.declared.records.InstanceInfo.{InstanceInfo}
use Rattle.abc_format.specs.declared.records.ClassInfo.{ClassInfo}
use Rattle.abc_format.specs.declared.records.ScriptInfo.{ScriptInfo}
use Rattle.abc_format.specs.declared.records.MethodBody.{MethodBody}
use Rattle.abc_format.specs.declared.records.ExceptionInfo.{ExceptionInfo}
use Rattle.abc_format.specs.declared.records.Trait.{Trait}
use Rattle.abc_format.specs.declared.records.TraitKind.{TraitKind}
use Rattle.abc_format.specs.declared.records.TraitKind.TheVariants as trait_kind

-- a kind that stands at the first cursor
abbrev pub known : Cursor → Option NamespaceKind → Cursor → Reading NamespaceKind
known c None rest = fails c reason.Kind
known c (Some kind) rest = done kind rest

unfoldable pub read_namespace_kind : Cursor → Reading NamespaceKind
read_namespace_kind c = and_then (read_byte c) (λ byte rest. known c (namespace_kind_of byte) rest)

unfoldable pub read_namespace : Tables → Cursor → Reading Namespace
read_namespace t c =
    and_then (read_namespace_kind c) (λ kind r1.
    and_then (read_index (string_rule t) r1) (λ name r2.
    done (record { kind = kind; name = name }) r2))

unfoldable pub read_set : Tables → Cursor → Reading (List ℕ)
read_set t c = counted (read_index (namespace_rule t)) c

-- a name of one part
abbrev pub read_one : (ℕ → Multiname) → IndexRule → Cursor → Reading Multiname
read_one name rule c = and_then (read_index rule c) (λ part rest. done (name part) rest)

-- and of two
abbrev pub read_two : (ℕ → ℕ → Multiname) → IndexRule → IndexRule → Cursor → Reading Multiname
read_two name one other c =
    and_then (read_index one c) (λ first r1.
    and_then (read_index other r1) (λ second r2.
    done (name first second) r2))

-- what a kind with this byte, which stands at the place, has of its own
unfoldable pub read_name_parts : Tables → ℕ → ℕ → Cursor → Reading Multiname
read_name_parts t place kind rest =
    if kind == qname_kind then read_two (λ namespace name. multiname.QName namespace name) (namespace_rule t) (string_rule t) rest
    else if kind == qname_a_kind then read_two (λ namespace name. multiname.QNameA namespace name) (namespace_rule t) (string_rule t) rest
    else if kind == rtq_name_kind then read_one (λ name. multiname.RtqName name) (string_rule t) rest
    else if kind == rtq_name_a_kind then read_one (λ name. multiname.RtqNameA name) (string_rule t) rest
    else if kind == rtq_name_l_kind then done multiname.RtqNameL rest
    else if kind == rtq_name_la_kind then done multiname.RtqNameLA rest
    else if kind == multiname_kind then read_two (λ name set. multiname.Multiname name set) (string_rule t) (set_rule t) rest
    else if kind == multiname_a_kind then read_two (λ name set. multiname.MultinameA name set) (string_rule t) (set_rule t) rest
    else if kind == multiname_l_kind then read_one (λ set. multiname.MultinameL set) (set_rule t) rest
    else if kind == multiname_la_kind then read_one (λ set. multiname.MultinameLA set) (set_rule t) rest
    else Err (record { place = place; reason = reason.Kind })

unfoldable pub read_multiname : Tables → Cursor → Reading Multiname
read_multiname t c = and_then (read_byte c) (λ kind rest. read_name_parts t (place_of c) kind rest)

-- the tables of strings, of namespaces and of sets, as far as they are read
abbrev pub some_tables : ℕ → ℕ → ℕ → Tables
some_tables strings namespaces namespace_sets =
    record { strings = strings; namespaces = namespaces; namespace_sets = namespace_sets; multinames = 0; methods = 0; metadata = 0; classes = 0 }

unfoldable pub read_pool : Cursor → Reading ConstantPool
read_pool c =
    and_then (table read_int c) (λ integers r1.
    and_then (table read_u32 r1) (λ unsigned_integers r2.
    and_then (table read_double r2) (λ doubles r3.
    and_then (table read_string r3) (λ strings r4.
    and_then (table (read_namespace (some_tables (length strings) 0 0)) r4) (λ namespaces r5.
    and_then (table (read_set (some_tables (length strings) (length namespaces) 0)) r5) (λ namespace_sets r6.
    and_then (table (read_multiname (some_tables (length strings) (length namespaces) (length namespace_sets))) r6) (λ multinames r7.
    done (record {
      integers = integers;
      unsigned_integers = unsigned_integers;
      doubles = doubles;
      strings = strings;
      namespaces = namespaces;
      namespace_sets = namespace_sets;
      multinames = multinames;
    }) r7)))))))

unfoldable pub read_option : Cursor → Reading OptionDetail
read_option c =
    and_then (read_u30 c) (λ value r1.
    and_then (read_byte r1) (λ kind r2.
    done (record { value = value; kind = kind }) r2))

-- default values, where the flags say that there are some
abbrev pub read_options : ℕ → Cursor → Reading (List OptionDetail)
read_options flags c = flagged flags 0x08 [] (counted read_option) c

-- a string for each parameter, where the flags say so
abbrev pub read_param_names : Tables → ℕ → ℕ → Cursor → Reading (List ℕ)
read_param_names t flags count c = flagged flags 0x80 [] (times (read_index (string_rule t)) count) c

unfoldable pub read_method : Tables → Cursor → Reading MethodInfo
read_method t c =
    and_then (read_u30 c) (λ param_count r1.
    and_then (read_index (name_rule t) r1) (λ return_type r2.
    and_then (times (read_index (name_rule t)) param_count r2) (λ param_types r3.
    and_then (read_index (string_rule t) r3) (λ name r4.
    and_then (read_byte r4) (λ flags r5.
    and_then (read_options flags r5) (λ options r6.
    and_then (read_param_names t flags param_count r6) (λ param_names r7.
    done (record { return_type = return_type; param_types = param_types; name = name; flags = flags; options = options; param_names = param_names }) r7)))))))

unfoldable pub read_item : Cursor → Reading ItemInfo
read_item c =
    and_then (read_u30 c) (λ key r1.
    and_then (read_u30 r1) (λ value r2.
    done (record { key = key; value = value }) r2))

unfoldable pub read_metadata : Tables → Cursor → Reading MetadataInfo
read_metadata t c =
    and_then (read_index (string_rule t) c) (λ name r1.
    and_then (counted read_item r1) (λ items r2.
    done (record { name = name; items = items }) r2))

-- the kind of a default value, where there is one
abbrev pub read_value_kind : ℕ → Cursor → Reading ℕ
read_value_kind vindex c = if vindex == 0 then done 0 c else read_byte c

unfoldable pub read_variable : Tables → Cursor → Reading Variable
read_variable t c =
    and_then (read_u30 c) (λ slot_id r1.
    and_then (read_index (name_rule t) r1) (λ type_name r2.
    and_then (read_u30 r2) (λ vindex r3.
    and_then (read_value_kind vindex r3) (λ vkind r4.
    done (record { slot_id = slot_id; type_name = type_name; vindex = vindex; vkind = vkind }) r4))))

-- a number, and one that names an entry
abbrev pub read_member : (ℕ → ℕ → TraitKind) → IndexRule → Cursor → Reading TraitKind
read_member kind rule c =
    and_then (read_u30 c) (λ id r1.
    and_then (read_index rule r1) (λ index r2.
    done (kind id index) r2))

-- what a kind with this code, whose byte stands at the place, has of its own
unfoldable pub read_trait_parts : Tables → ℕ → ℕ → Cursor → Reading TraitKind
read_trait_parts t place code rest =
    if code == slot_code then and_then (read_variable t rest) (λ v more. done (trait_kind.Slot v.slot_id v.type_name v.vindex v.vkind) more)
    else if code == method_code then read_member (λ disp_id method. trait_kind.Method disp_id method) (method_rule t) rest
    else if code == getter_code then read_member (λ disp_id method. trait_kind.Getter disp_id method) (method_rule t) rest
    else if code == setter_code then read_member (λ disp_id method. trait_kind.Setter disp_id method) (method_rule t) rest
    else if code == class_code then read_member (λ slot_id class. trait_kind.Class slot_id class) (class_rule t) rest
    else if code == function_code then read_member (λ slot_id function. trait_kind.Function slot_id function) (method_rule t) rest
    else if code == const_code then and_then (read_variable t rest) (λ v more. done (trait_kind.Const v.slot_id v.type_name v.vindex v.vkind) more)
    else Err (record { place = place; reason = reason.Kind })

-- the numbers of metadata, where the attributes say that there are some
abbrev pub read_trait_metadata : Tables → ℕ → Cursor → Reading (List ℕ)
read_trait_metadata t attributes c = flagged attributes 0x04 [] (counted (read_index (metadata_rule t))) c

-- the kind in the lower four bits, the attributes in the upper four
unfoldable pub read_trait : Tables → Cursor → Reading Trait
read_trait t c =
    and_then (read_index (name_rule t) c) (λ name r1.
    and_then (read_byte r1) (λ byte r2.
    and_then (read_trait_parts t (place_of r1) (byte % 16) r2) (λ kind r3.
    and_then (read_trait_metadata t (byte / 16) r3) (λ metadata r4.
    done (record { name = name; kind = kind; attributes = byte / 16; metadata = metadata }) r4))))

-- the protected namespace, where the flags say that there is one
abbrev pub read_protected_namespace : Tables → ℕ → Cursor → Reading ℕ
read_protected_namespace t flags c = flagged flags 0x08 0 (read_index (namespace_rule t)) c

unfoldable pub read_instance : Tables → Cursor → Reading InstanceInfo
read_instance t c =
    and_then (read_index (name_rule t) c) (λ name r1.
    and_then (read_index (name_rule t) r1) (λ super_name r2.
    and_then (read_byte r2) (λ flags r3.
    and_then (read_protected_namespace t flags r3) (λ protected_namespace r4.
    and_then (counted (read_index (interface_rule t)) r4) (λ interfaces r5.
    and_then (read_index (method_rule t) r5) (λ iinit r6.
    and_then (counted (read_trait t) r6) (λ traits r7.
    done (record {
      name = name;
      super_name = super_name;
      flags = flags;
      protected_namespace = protected_namespace;
      interfaces = interfaces;
      iinit = iinit;
      traits = traits;
    }) r7)))))))

unfoldable pub read_class : Tables → Cursor → Reading ClassInfo
read_class t c =
    and_then (read_index (method_rule t) c) (λ cinit r1.
    and_then (counted (read_trait t) r1) (λ traits r2.
    done (record { cinit = cinit; traits = traits }) r2))

unfoldable pub read_script : Tables → Cursor → Reading ScriptInfo
read_script t c =
    and_then (read_index (method_rule t) c) (λ init r1.
    and_then (counted (read_trait t) r1) (λ traits r2.
    done (record { init = init; traits = traits }) r2))

unfoldable pub read_exception : Cursor → Reading ExceptionInfo
read_exception c =
    and_then (read_u30 c) (λ from r1.
    and_then (read_u30 r1) (λ to r2.
    and_then (read_u30 r2) (λ target r3.
    and_then (read_u30 r3) (λ exc_type r4.
    and_then (read_u30 r4) (λ var_name r5.
    done (record { from = from; to = to; target = target; exc_type = exc_type; var_name = var_name }) r5)))))

unfoldable pub read_code : Cursor → Reading (List ℕ)
read_code c = and_then (read_u30 c) (λ size rest. read_piece size rest)

unfoldable pub read_body : Tables → Cursor → Reading MethodBody
read_body t c =
    and_then (read_index (method_rule t) c) (λ method r1.
    and_then (read_u30 r1) (λ max_stack r2.
    and_then (read_u30 r2) (λ local_count r3.
    and_then (read_u30 r3) (λ init_scope_depth r4.
    and_then (read_u30 r4) (λ max_scope_depth r5.
    and_then (read_code r5) (λ code r6.
    and_then (counted read_exception r6) (λ exceptions r7.
    and_then (counted (read_trait t) r7) (λ traits r8.
    done (record {
      method = method;
      max_stack = max_stack;
      local_count = local_count;
      init_scope_depth = init_scope_depth;
      max_scope_depth = max_scope_depth;
      code = code;
      exceptions = exceptions;
      traits = traits;
    }) r8))))))))

-- the versions 16 and 46, and the pool
unfoldable pub read_head : Cursor → Reading ConstantPool
read_head c =
    and_then (read_version 16 c) (λ minor r1.
    and_then (read_version 46 r1) (λ major r2.
    read_pool r2))

abbrev pub with_classes : Tables → ℕ → Tables
with_classes t count = record t { classes = count }

-- a class may be named before it stands there
unfoldable pub read_classes : Tables → Cursor → Reading Classes
read_classes t c =
    and_then (read_u30 c) (λ count r1.
    and_then (times (read_instance (with_classes t count)) count r1) (λ instances r2.
    and_then (times (read_class (with_classes t count)) count r2) (λ classes r3.
    done (record { instances = instances; classes = classes }) r3)))

unfoldable pub read_file : Cursor → Reading Abc
read_file c =
    and_then (read_head c) (λ constant_pool r1.
    and_then (counted (read_method (pool_tables constant_pool)) r1) (λ methods r2.
    and_then (counted (read_metadata (pool_tables constant_pool)) r2) (λ metadata r3.
    and_then (read_classes (with_tables constant_pool (length methods) (length metadata) 0) r3) (λ both r4.
    and_then (counted (read_script (with_tables constant_pool (length methods) (length metadata) (length both.classes))) r4) (λ scripts r5.
    and_then (counted (read_body (with_tables constant_pool (length methods) (length metadata) (length both.classes))) r5) (λ method_bodies r6.
    done (record {
      constant_pool = constant_pool;
      methods = methods;
      metadata = metadata;
      instances = both.instances;
      classes = both.classes;
      scripts = scripts;
      method_bodies = method_bodies;
    }) r6))))))

abbrev pub whole : Reading Abc → Result Abc Fault
whole (Err fault) = Err fault
whole (Ok file) = if length file.rest.rest == 0 then Ok file.it else Err (fault_at file.rest reason.Trailing)

-- the cursor before all of the bytes
abbrev pub start : List ℕ → Cursor
start bytes = record { size = length bytes; rest = bytes }

-- an ABC with nothing behind it
unfoldable pub read_abc : List ℕ → Result Abc Fault
read_abc bytes = whole (read_file (start bytes))

-- the first fault of the bytes as an ABC, if they have one
abbrev pub fault_of : Result Abc Fault → Option Fault
fault_of (Ok abc) = None
fault_of (Err fault) = Some fault

abbrev pub abc_fault : List ℕ → Option Fault
abc_fault bytes = fault_of (read_abc bytes)

-- what `read_abc` may refuse of these bytes: for want of memory whatever they are
abbrev pub RefusesBytes : List ℕ → AbcRefusal → Type 0
RefusesBytes bytes (refusal.BadAbc place why) = abc_fault bytes ≡ Some (record { place = place; reason = why })
RefusesBytes bytes refusal.NoMemory = Unit {0}

-- an answer of the code is what the bytes say, or their first fault
abbrev pub Tells : List ℕ → Result Abc AbcRefusal → Type 0
Tells bytes result = MatchResult result (λ abc. read_abc bytes ≡ Ok abc) (λ why. RefusesBytes bytes why)
