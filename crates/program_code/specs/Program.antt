-- The code of a program, as a relation between a checked program and a file made ready to play.
use Rattle.std.specs.Prelude.{Contains, List, None, Option, Some, [], is_some, length, option_and_then, option_map, slice_get, take, true, ℕ, ◌+◌, ◌<◌, ◌∷◌, ◌≡◌}
use Rattle.flex_base.specs.declared.value.Value.TheVariants as value
use Rattle.flex_world.specs.declared.kind.Class.{Class}
use Rattle.flex_world.specs.declared.kind.Class.TheVariants as Class
use Rattle.flex_world.specs.declared.kind.StaticType.{StaticType}
use Rattle.flex_world.specs.declared.kind.StaticType.TheVariants as StaticType
use Rattle.flex_program.specs.Classes.{bases}
use Rattle.flex_program.specs.Instances.{instances_of, part_of}
use Rattle.flex_program.specs.Program.{Binding, Document, Instance, Member, Method, Program, SourceClass, State}
use Rattle.program_code.specs.Code.{IsMethodCode, local_count, result_type}
use Rattle.program_code.specs.Constructors.{IsConstructorCode, method_of}
use Rattle.program_code.specs.Documents.{IsBindingCode, IsEnterCode, IsInstanceCode, IsLeaveCode, IsRootCode}
use Rattle.program_code.specs.Names.{Labels}
use Rattle.program_code.specs.Shapes.{All}
use Rattle.program_code.specs.Shapes.{Meant, One, Spells, Then}
use Rattle.avm2_program.specs.Naming.{Naming}
use Rattle.avm2_program.specs.declared.method.Body as FileBody
use Rattle.avm2_program.specs.declared.class.FileClass as FileClassRecord
use Rattle.avm2_program.specs.declared.method.Method as FileMethod
use Rattle.avm2_program.specs.declared.file.Program as FileProgram
use Rattle.avm2_program.specs.declared.file.Script as FileScript
use Rattle.avm2_program.specs.declared.operation.Operation.TheVariants as Operation

-- so many locals and parameters, a result, and code
pub record HasMethod (g : Naming) (f : FileProgram.Program) (number : ℕ) (parameters : List StaticType) (result : StaticType) (locals : ℕ) (P : Meant) : Type 0 where
  pub method : FileMethod.Method
  pub body : FileBody.Body
  pub there : slice_get f.methods number ≡ Some method
  pub parameters_are : method.parameters ≡ parameters
  pub result_is : method.result ≡ result
  pub has : method.body ≡ Some body
  pub locals_are : body.locals ≡ locals
  pub code : Spells g P body.code

-- a method of the program, which has its number in the file
abbrev pub HasMethodCode : Naming → Labels → FileProgram.Program → ℕ → Method → Type 0
HasMethodCode g l f number m = HasMethod g f number m.parameters (result_type m.result) (local_count m) (IsMethodCode l m)

-- a method behind an activity, whose result has no type
abbrev pub HasActivity : Naming → FileProgram.Program → ℕ → List StaticType → Meant → Type 0
HasActivity g f number parameters P = HasMethod g f number parameters StaticType.Any (1 + length parameters) P

-- the methods behind the activities of a document, by the number of its class
pub record IsDocumentCode (g : Naming) (l : Labels) (f : FileProgram.Program) (class : ℕ) (d : Document) : Type 0 where
  pub building : HasActivity g f (l.building_of class) [] (IsRootCode l class d d.root)
  pub instances :
      (instance : Instance) → Contains (instances_of d.root) instance → is_some (part_of instance).presence ≡ true
      → HasActivity g f (l.instance_building_of class (part_of instance).number) [] (IsInstanceCode l class d instance)
  pub bindings :
      (n : ℕ) (b : Binding) → slice_get d.bindings n ≡ Some b
      → HasActivity g f (l.binding_run_of class n) [] (IsBindingCode l class d b.source b.destination)
  pub leaves :
      (n : ℕ) (s : State) → slice_get d.states n ≡ Some s
      → HasActivity g f (l.leave_of class n) (StaticType.String ∷ []) (IsLeaveCode l class d n s)
  pub enters :
      (n : ℕ) (s : State) → slice_get d.states n ≡ Some s → HasActivity g f (l.enter_of class n) [] (IsEnterCode l class d n s)

-- what a constructor takes, and how many locals it has
abbrev pub constructor_types : Option Method → List StaticType
constructor_types None = []
constructor_types (Some m) = m.parameters

abbrev pub constructor_locals : Option Method → ℕ
constructor_locals None = 1
constructor_locals (Some m) = local_count m

-- a method of the file belongs to a class, at whose base `super` begins
abbrev pub BelongsTo : FileProgram.Program → (method class : ℕ) → Type 0
BelongsTo f method class = option_and_then (λ (m : FileMethod.Method). m.owner) (slice_get f.methods method) ≡ Some class

-- a class, which has its number in the file: its name, its base, its constructor, its methods, and what is behind its document
pub record IsClassCode (g : Naming) (l : Labels) (p : Program) (f : FileProgram.Program) (number : ℕ) (class : SourceClass) : Type 0 where
  pub of_file : FileClassRecord.FileClass
  pub there : slice_get f.classes number ≡ Some of_file
  pub name_is : of_file.name ≡ class.name
  pub base_is : of_file.base ≡ option_map StaticType.Object class.base
  pub constructor :
      HasMethod g f of_file.constructor (constructor_types (method_of l p class)) StaticType.Any (constructor_locals (method_of l p class))
      (IsConstructorCode l p number class)
  -- it belongs to this class, and so do the methods that the class declares
  pub owned : BelongsTo f of_file.constructor number
  pub declared : (place : ℕ) (m : Member) → slice_get class.members place ≡ Some m → BelongsTo f m.method number
  pub initialiser : HasActivity g f of_file.initialiser [] (One Operation.ReturnVoid)
  pub document : (d : Document) → class.document ≡ Some d → IsDocumentCode g l f number d

-- the base of a class is looked up; there may be none
abbrev pub IsBaseLookUp : Labels → Option Class → Meant
IsBaseLookUp l None = One (Operation.Push value.Null)
IsBaseLookUp l (Some base) = One (Operation.GetLex (l.class_name base))

-- the class of a number is made, and becomes a property of the script
abbrev pub IsClassMade : Labels → Program → ℕ → Meant
IsClassMade l p number =
    Then (One (Operation.GetLocal 0)) (Then (IsBaseLookUp l (option_and_then (λ base. base) (slice_get (bases p) number)))
    (Then (One (Operation.NewClass number)) (One (Operation.SetProperty (l.class_name (Class.File number))))))

-- classes are made one after another
abbrev pub IsLoadCode : Labels → Program → List ℕ → Meant
IsLoadCode l p order = Then (All (IsClassMade l p) order) (One Operation.ReturnVoid)

-- each number below a limit stands in an order, and once, behind that of its base
pub record IsLoadOrder (p : Program) (order : List ℕ) : Type 0 where
  pub each : (number : ℕ) → number < length p.classes → Contains order number
  pub once : length order ≡ length p.classes
  pub bases_first : (at number base : ℕ) → slice_get order at ≡ Some number → slice_get (bases p) number ≡ Some (Some (Class.File base)) → Contains (take at order) base

-- the methods and the classes of a program have their numbers in the file, whose only script makes the classes
pub record IsProgramCode (g : Naming) (l : Labels) (p : Program) (f : FileProgram.Program) : Type 0 where
  pub methods : (number : ℕ) (m : Method) → slice_get p.methods number ≡ Some m → HasMethodCode g l f number m
  pub classes : (number : ℕ) (class : SourceClass) → slice_get p.classes number ≡ Some class → IsClassCode g l p f number class
  pub count : length f.classes ≡ length p.classes
  pub script : FileScript.Script
  pub scripts : f.scripts ≡ script ∷ []
  pub order : List ℕ
  pub ordered : IsLoadOrder p order
  pub load : HasActivity g f script.initialiser [] (IsLoadCode l p order)
