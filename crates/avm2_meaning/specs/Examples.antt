-- A small file, and what is seen of it.
use Rattle.std.specs.Prelude.{List, Some, [], codes, ℕ, ◌∷◌, ◌≡◌}
use Rattle.abc_format.specs.declared.records.Abc.{Abc}
use Rattle.abc_format.specs.declared.records.ConstantPool.{ConstantPool}
use Rattle.abc_format.specs.declared.records.MethodBody.{MethodBody}
use Rattle.abc_format.specs.declared.records.MethodInfo.{MethodInfo}
use Rattle.abc_format.specs.declared.records.Multiname.TheVariants as multiname
use Rattle.abc_format.specs.declared.records.Namespace.{Namespace}
use Rattle.abc_format.specs.declared.records.NamespaceKind.TheVariants as namespace_kind
use Rattle.flex_base.specs.declared.event.UserEvent.TheVariants as user
use Rattle.flex_base.specs.declared.outcome.Outcome.TheVariants.{Ended, TurnsSpent}
use Rattle.flex_base.specs.declared.record.TraceItem.TheVariants as trace
use Rattle.flex_base.specs.declared.value.ObjId.{ObjId}
use Rattle.avm2_meaning.specs.Trace.{bytes_trace}

-- a method without parameters and result
abbrev pub alone : MethodInfo
alone = record { return_type = 0; param_types = []; name = 0; flags = 0; options = []; param_names = [] }

abbrev pub body : ℕ → List ℕ → MethodBody
body method code = record {
  method = method;
  max_stack = 2;
  local_count = 1;
  init_scope_depth = 0;
  max_scope_depth = 0;
  code = code;
  exceptions = [];
  traits = [];
}

-- the package of this string
abbrev pub in_package : ℕ → Namespace
in_package name = record { kind = namespace_kind.PackageNamespace; name = name }

abbrev pub greeting_pool : ConstantPool
greeting_pool = record {
  integers = [];
  unsigned_integers = [];
  doubles = [];
  strings = codes "Main" ∷ codes "spark.components" ∷ codes "Application" ∷ codes "trace" ∷ codes "hi" ∷ [];
  namespaces = in_package 0 ∷ in_package 2 ∷ [];
  namespace_sets = [];
  multinames = multiname.QName 1 1 ∷ multiname.QName 2 3 ∷ multiname.QName 1 4 ∷ [];
}

-- `getlex Application`, `newclass 0`, `pop`, `returnvoid`
abbrev pub script_code : List ℕ
script_code = 0x60 ∷ 2 ∷ 0x58 ∷ 0 ∷ 0x29 ∷ 0x47 ∷ []

-- `getlocal_0`, `constructsuper 0`, `findpropstrict trace`, `pushstring "hi"`, `callpropvoid trace 1`, `returnvoid`
abbrev pub constructor_code : List ℕ
constructor_code = 0xD0 ∷ 0x49 ∷ 0 ∷ 0x5D ∷ 3 ∷ 0x2C ∷ 5 ∷ 0x4F ∷ 3 ∷ 1 ∷ 0x47 ∷ []

-- an application whose constructor traces `hi`
abbrev pub greeting : Abc
greeting = record {
  constant_pool = greeting_pool;
  methods = alone ∷ alone ∷ alone ∷ [];
  metadata = [];
  instances = record { name = 1; super_name = 2; flags = 0; protected_namespace = 0; interfaces = []; iinit = 2; traits = [] } ∷ [];
  classes = record { cinit = 1; traits = [] } ∷ [];
  scripts = record { init = 0; traits = [] } ∷ [];
  method_bodies = body 0 script_code ∷ body 1 (0x47 ∷ []) ∷ body 2 constructor_code ∷ [];
}

abbrev pub first_object : ObjId
first_object = record { 0 = 1 }

-- a click is told, but reaches nothing
abbrev pub GreetingPlays : Type 0
GreetingPlays =
    bytes_trace greeting (codes "Main") (user.Click (codes "b" ∷ []) (codes "click b") ∷ []) 1 100
    ≡ Some
    (record {
      records = trace.Made first_object (codes "Main") ∷ trace.Traced (codes "hi") ∷ trace.User (codes "click b") ∷ trace.Missed (codes "b") ∷ [];
      outcome = Ended;
    })

-- the constructor is an activity, and takes a turn
abbrev pub SpentPlays : Type 0
SpentPlays = bytes_trace greeting (codes "Main") [] 0 100 ≡ Some (record { records = trace.Made first_object (codes "Main") ∷ []; outcome = TurnsSpent })
