-- Which programs are fine: every number and name is there, and each part is used by its type, so that no play is stuck.
use Rattle.std.specs.List.{find, list_all, list_any}
use Rattle.std.specs.Prelude.{Bool, List, None, Option, Some, [], codes, false, if◌then◌else◌, is_some, length, map, not, option_and_then, option_map, slice_get, suc, true, unwrap_or, ℕ, ◌&&◌, ◌++◌, ◌+◌, ◌==◌, ◌||◌, ◌∷◌}
use Rattle.std.specs.Str.{bytes_eq}
use Rattle.component_catalog.specs.Classes.{or_else}
use Rattle.component_catalog.specs.Laws.{are_distinct}
use Rattle.component_catalog.specs.Methods.{element, parameters_of, result_of}
use Rattle.component_catalog.specs.declared.method.NativeMethod.TheVariants as catalog
use Rattle.component_catalog.specs.declared.method.Parameter.{Parameter}
use Rattle.component_catalog.specs.declared.method.Parameter.TheVariants.{Required}
use Rattle.flex_world.specs.Classes.{base_in, descends, is_component, is_container, same_class, static_type, upward_in}
use Rattle.flex_world.specs.declared.kind.Class.{Class}
use Rattle.flex_world.specs.declared.kind.StaticType.{StaticType}
use Rattle.flex_world.specs.Conversions.{accepts, constructor_parameters}
use Rattle.flex_world.specs.Objects.{can_be_written, field_named}
use Rattle.flex_world.specs.declared.operator.Operator.{Operator}
use Rattle.flex_program.specs.Classes.{Callee, bases, callee, class_name, constructor_of, document_of, fields_of}
use Rattle.flex_program.specs.Instances.{part_of, parts_of}
use Rattle.flex_program.specs.Program.{Attribute, Binding, BindingSource, Block, Change, Constructor, Contents, Destination, Document, Expr, Exprs, Given, Givens, Instance, Literal, Member, Method, MoreExpr, MoreStmt, NoExpr, NoStmt, Override, Part, Place, Presence, Program, SourceClass, State, Stmt, Variable}

-- whether it is there, and passes
abbrev pub holds : {A : Type 0} → (A → Bool) → Option A → Bool
holds test None = false
holds test (Some x) = test x

abbrev pub same_type : StaticType → StaticType → Bool
same_type StaticType.Int StaticType.Int = true
same_type StaticType.Boolean StaticType.Boolean = true
same_type StaticType.String StaticType.String = true
same_type StaticType.Array StaticType.Array = true
same_type (StaticType.Object a) (StaticType.Object b) = same_class a b
same_type StaticType.Any StaticType.Any = true
same_type _ _ = false

abbrev pub same_types : List StaticType → List StaticType → Bool
same_types [] [] = true
same_types (a ∷ as1) (b ∷ bs) = same_type a b && same_types as1 bs
same_types _ _ = false

-- a method may have no result
abbrev pub same_result : Option StaticType → Option StaticType → Bool
same_result None None = true
same_result (Some a) (Some b) = same_type a b
same_result _ _ = false

-- what a call gives: a method without a result gives Undefined
abbrev pub value_type : Option StaticType → StaticType
value_type None = StaticType.Any
value_type (Some type) = type

-- a type that names a class where it names one at all
abbrev pub is_named : StaticType → Bool
is_named StaticType.Unnamed = false
is_named _ = true

abbrev pub is_named_result : Option StaticType → Bool
is_named_result None = true
is_named_result (Some type) = is_named type

abbrev pub class_of_type : StaticType → Option Class
class_of_type (StaticType.Object class) = Some class
class_of_type _ = None

-- for values of a class
abbrev pub for_class : {A : Type 0} → Option StaticType → (Class → Option A) → Option A
for_class type f = option_and_then f (option_and_then class_of_type type)

-- the types of parameters of the catalog, where a call gives them all and none is a listener
abbrev pub required_types : List Parameter → Option (List StaticType)
required_types [] = Some []
required_types (Required kind ∷ parameters) = option_map (λ types. static_type kind ∷ types) (required_types parameters)
required_types (_ ∷ parameters) = None

-- what the body of a method, or an expression, stands in
pub record Scope : Type 0 where
  pub this : Class
  pub locals : List StaticType

abbrev pub literal_type : Literal → StaticType
literal_type Literal.Null = StaticType.Any
literal_type (Literal.Truth b) = StaticType.Boolean
literal_type (Literal.Whole n) = StaticType.Int
literal_type (Literal.Quoted text) = StaticType.String

abbrev pub is_string : StaticType → Bool
is_string StaticType.String = true
is_string _ = false

abbrev pub is_whole : StaticType → Bool
is_whole StaticType.Int = true
is_whole _ = false

abbrev pub is_array_type : StaticType → Bool
is_array_type StaticType.Array = true
is_array_type _ = false

abbrev pub sum_type : StaticType → StaticType → StaticType
sum_type a b = if is_whole a && is_whole b then StaticType.Int else if is_string a || is_string b then StaticType.String else StaticType.Any

abbrev pub result_type : Operator → StaticType → StaticType → StaticType
result_type Operator.Plus a b = sum_type a b
result_type Operator.Minus a b = StaticType.Int
result_type Operator.Times a b = StaticType.Int
result_type Operator.Modulo a b = StaticType.Int
result_type _ a b = StaticType.Boolean

-- a type, where a test passes
abbrev pub when : Bool → StaticType → Option StaticType
when true type = Some type
when false type = None

-- the second of the arguments is a method taken from an object
abbrev pub listens : Exprs → Bool
listens (MoreExpr e (MoreExpr (Expr.Method_of object name) es)) = true
listens _ = false

module _ (p : Program) where
  -- the type of a property that the objects of a class keep
  abbrev pub kept_type : Class → List ℕ → Option StaticType
  kept_type class name = option_map (λ f. f.type) (field_named name (fields_of p class))

  -- the type of a property that code may write
  abbrev pub written_type : Class → List ℕ → Option StaticType
  written_type class name = option_and_then (λ f. if can_be_written f then Some f.type else None) (field_named name (fields_of p class))

  abbrev pub computed_type : Class → List ℕ → Option StaticType
  computed_type class name =
      if bytes_eq name (codes "parent") && is_component (bases p) class then Some (static_type element)
      else if bytes_eq name (codes "numElements") && is_container (bases p) class then Some StaticType.Int
      else None

  abbrev pub property_type : Class → List ℕ → Option StaticType
  property_type class name = or_else (kept_type class name) (computed_type class name)

  abbrev pub method_numbered : ℕ → Option Method
  method_numbered m = slice_get p.methods m

  -- a call of a method may give so many arguments
  abbrev pub callee_accepts : Callee → ℕ → Bool
  callee_accepts (Callee.Written m) n = holds (λ x. n == length x.parameters) (method_numbered m)
  callee_accepts (Callee.Catalog m) n = accepts (parameters_of m) n

  -- the types of the parameters of a method that takes no listener and needs all its arguments
  abbrev pub callee_types : Callee → Option (List StaticType)
  callee_types (Callee.Written m) = option_map (λ x. x.parameters) (method_numbered m)
  callee_types (Callee.Catalog m) = required_types (parameters_of m)

  -- its second argument has to be a listener
  abbrev pub needs_listener : Callee → Bool
  needs_listener (Callee.Catalog catalog.AddEventListener) = true
  needs_listener (Callee.Catalog catalog.RemoveEventListener) = true
  needs_listener _ = false

  -- what a method gives, or nothing
  abbrev pub callee_gives : Callee → Option (Option StaticType)
  callee_gives (Callee.Written m) = option_map (λ x. x.result) (method_numbered m)
  callee_gives (Callee.Catalog m) = Some (option_map static_type (result_of m))

  abbrev pub callee_result : Callee → Option StaticType
  callee_result x = option_map value_type (callee_gives x)

  -- what a call of a method with so many arguments gives, where it is given a listener if it needs one
  abbrev pub call_type : (listens : Bool) → Option Callee → ℕ → Option StaticType
  call_type listens None n = None
  call_type listens (Some x) n = if (listens || not (needs_listener x)) && callee_accepts x n then callee_result x else None

  abbrev pub written_accepts : Option Constructor → ℕ → Bool
  written_accepts None n = n == 0
  written_accepts (Some x) n = callee_accepts (Callee.Written x.method) n

  -- the constructor of a class may be given so many arguments
  abbrev pub constructor_accepts : Class → ℕ → Bool
  constructor_accepts (Class.Native class) n = accepts (constructor_parameters class) n
  constructor_accepts (Class.File k) n = written_accepts (constructor_of p (Class.File k)) n

  -- a class that is there, and whose constructor takes so many arguments
  abbrev pub can_make : Class → ℕ → Bool
  can_make class n = is_some (class_name p class) && constructor_accepts class n

  -- a listener's method is written, and has one parameter
  abbrev pub can_listen : Option Callee → Bool
  can_listen (Some (Callee.Written m)) = holds (λ x. length x.parameters == 1) (method_numbered m)
  can_listen _ = false

  abbrev mutual
    -- the type of the values that an expression gives
    pub type_of : Scope → Expr → Option StaticType
    type_of s (Expr.Constant l) = Some (literal_type l)
    type_of s Expr.This = Some (StaticType.Object s.this)
    type_of s (Expr.Local n) = slice_get s.locals n
    type_of s (Expr.Property e name) = for_class (type_of s e) (λ class. property_type class name)
    type_of s (Expr.Length e) = when (holds (λ t. is_string t || is_array_type t) (type_of s e)) StaticType.Int
    type_of s (Expr.Element a i) = when (holds is_array_type (type_of s a) && holds is_whole (type_of s i)) StaticType.Any
    type_of s (Expr.Items es) = when (is_some (count_of s es)) StaticType.Array
    type_of s (Expr.Method_of e name) = for_class (type_of s e) (λ class. when (can_listen (callee p class name)) StaticType.Any)
    type_of s (Expr.Call e name arguments) = for_class (type_of s e) (λ class. option_and_then (call_type (listens arguments) (callee p class name)) (count_of s arguments))
    type_of s (Expr.Call_super base name arguments) =
        if descends (bases p) s.this base then option_and_then (call_type (listens arguments) (callee p base name)) (count_of s arguments) else None
    type_of s (Expr.Push a e) = when (holds is_array_type (type_of s a) && is_some (type_of s e)) StaticType.Int
    type_of s (Expr.Pop a) = when (holds is_array_type (type_of s a)) StaticType.Any
    type_of s (Expr.New class arguments) = when (holds (can_make class) (count_of s arguments)) (StaticType.Object class)
    type_of s (Expr.Convert type e) = when (is_named type && is_some (type_of s e)) type
    type_of s (Expr.To_text e) = when (is_some (type_of s e)) StaticType.String
    type_of s (Expr.Negate e) = when (is_some (type_of s e)) StaticType.Int
    type_of s (Expr.Not e) = when (is_some (type_of s e)) StaticType.Boolean
    type_of s (Expr.Apply operator a b) = option_and_then (λ t. option_map (result_type operator t) (type_of s b)) (type_of s a)
    type_of s (Expr.And a b) = when (is_some (type_of s a) && is_some (type_of s b)) StaticType.Any
    type_of s (Expr.Or a b) = when (is_some (type_of s a) && is_some (type_of s b)) StaticType.Any
    type_of s (Expr.Choose test a b type) = when (is_named type && is_some (type_of s test) && is_some (type_of s a) && is_some (type_of s b)) type

    -- how many expressions, where each has a type
    pub count_of : Scope → Exprs → Option ℕ
    count_of s NoExpr = Some 0
    count_of s (MoreExpr e es) = if is_some (type_of s e) then option_map suc (count_of s es) else None

  abbrev pub has_type : Scope → Expr → Bool
  has_type s e = is_some (type_of s e)

  abbrev pub optional_fine : Scope → Option Expr → Bool
  optional_fine s None = true
  optional_fine s (Some e) = has_type s e

  -- a property that can be written
  abbrev pub can_write : Class → List ℕ → Bool
  can_write class name = is_some (written_type class name)

  abbrev pub is_fine_place : Scope → Place → Bool
  is_fine_place s (Place.Local_place n type) = holds (same_type type) (slice_get s.locals n)
  is_fine_place s (Place.Property_place e name) = is_some (for_class (type_of s e) (λ class. written_type class name))
  is_fine_place s (Place.Element_place a i) = holds is_array_type (type_of s a) && holds is_whole (type_of s i)

  abbrev pub is_base : Scope → Option Class → Bool
  is_base s None = not (is_some (base_in (bases p) s.this))
  is_base s (Some base) = holds (same_class base) (base_in (bases p) s.this)

  -- the base's constructor takes so many arguments
  abbrev pub base_takes : Option Class → ℕ → Bool
  base_takes None n = true
  base_takes (Some base) n = can_make base n

  abbrev mutual
    pub is_fine_stmt : Scope → (in_loop : Bool) → Stmt → Bool
    is_fine_stmt s in_loop (Stmt.Do e) = has_type s e
    is_fine_stmt s in_loop (Stmt.Trace es) = is_some (count_of s es)
    is_fine_stmt s in_loop (Stmt.Assign place e) = is_fine_place s place && has_type s e
    is_fine_stmt s in_loop (Stmt.Update place operator e) = is_fine_place s place && has_type s e
    is_fine_stmt s in_loop (Stmt.If test then_block else_block) = has_type s test && is_fine_block s in_loop then_block && is_fine_block s in_loop else_block
    is_fine_stmt s in_loop (Stmt.Loop test step body) = optional_fine s test && is_fine_block s false step && is_fine_block s true body
    is_fine_stmt s in_loop (Stmt.Do_while body test) = is_fine_block s true body && has_type s test
    is_fine_stmt s in_loop Stmt.Break = in_loop
    is_fine_stmt s in_loop Stmt.Continue = in_loop
    is_fine_stmt s in_loop (Stmt.Return e) = optional_fine s e
    is_fine_stmt s in_loop (Stmt.Super base es) = is_base s base && holds (base_takes base) (count_of s es)

    pub is_fine_block : Scope → (in_loop : Bool) → Block → Bool
    is_fine_block s in_loop NoStmt = true
    is_fine_block s in_loop (MoreStmt stmt block) = is_fine_stmt s in_loop stmt && is_fine_block s in_loop block

  -- a method of a class
  abbrev pub is_fine_method : Class → Method → Bool
  is_fine_method this m =
      list_all is_named m.parameters
      && list_all is_named m.locals
      && is_named_result m.result
      && is_fine_block (record { this = this; locals = m.parameters ++ m.locals }) false m.body

  -- a handler of a class: a method with one parameter
  abbrev pub is_fine_handler : Class → ℕ → Bool
  is_fine_handler this m = holds (λ x. is_fine_method this x && (length x.parameters == 1)) (method_numbered m)

  abbrev pub has_signature : Method → Callee → Bool
  has_signature m x =
      holds (same_types m.parameters) (callee_types x) && holds (same_result m.result) (callee_gives x)

  -- what is overridden has the same parameters and the same result
  abbrev pub overrides_well : Option Class → List ℕ → Method → Bool
  overrides_well None name m = true
  overrides_well (Some base) name m = unwrap_or (option_map (has_signature m) (callee p base name)) true

  abbrev pub is_fine_member : Class → Member → Bool
  is_fine_member this x = holds (λ m. is_fine_method this m && overrides_well (base_in (bases p) this) x.name m) (method_numbered x.method)

  -- the names of a class are distinct, those of its bases and those that are computed included
  abbrev pub has_fine_names : Class → Bool
  has_fine_names class =
      are_distinct (map (λ f. f.name) (fields_of p class))
      && not (list_any (λ f. is_some (computed_type class f.name)) (fields_of p class))

  abbrev pub is_fine_variable : Class → Variable → Bool
  is_fine_variable this v = is_named v.type && optional_fine (record { this = this; locals = [] }) v.start

  -- no document is a base
  abbrev pub is_plain_base : Option Class → Bool
  is_plain_base None = true
  is_plain_base (Some base) = not (is_some (document_of p base))

  -- the written constructor; without `super(..)` the base's constructor takes nothing
  abbrev pub is_fine_written : Class → Option Class → Option Constructor → Bool
  is_fine_written this base None = base_takes base 0
  is_fine_written this base (Some x) = holds (is_fine_method this) (method_numbered x.method) && (x.calls_super || base_takes base 0)

  abbrev pub is_fine_constructor : Class → Option Class → Option Constructor → Bool
  is_fine_constructor this base x = is_plain_base base && is_fine_written this base x

  -- the bases of a class come to an end
  abbrev pub has_no_ring : Class → Bool
  has_no_ring class = not (is_some (slice_get (upward_in (bases p) (length (bases p) + 5) (Some class)) (length (bases p) + 4)))

  module _ (this : Class) (root : Instance) where
    abbrev pub own_scope : Scope
    own_scope = record { this = this; locals = [] }

    abbrev pub instance_class : ℕ → Option Class
    instance_class number = option_map (λ part. part.class) (find (λ part. part.number == number) (parts_of root))

    abbrev pub is_fine_attribute : Class → Attribute → Bool
    is_fine_attribute class (Attribute.Sets name value) = can_write class name
    is_fine_attribute class (Attribute.Handles event m) = is_fine_handler this m

    abbrev pub is_fine_id : Option (List ℕ) → Bool
    is_fine_id None = true
    is_fine_id (Some id) = can_write this id

    -- an instance of a state is a component, and its declared parent a container
    abbrev pub is_fine_presence : Class → Option Presence → Bool
    is_fine_presence class None = true
    is_fine_presence class (Some x) = is_component (bases p) class && holds (is_container (bases p)) (instance_class x.container)

    -- its number is its own
    abbrev pub is_fine_part : Part → Bool
    is_fine_part part =
        list_all (is_fine_attribute part.class) part.attributes && is_fine_id part.id && is_fine_presence part.class part.presence && holds (same_class part.class) (instance_class part.number)

    -- what is made without arguments, and isn't the root
    abbrev pub is_fine_made : Instance → Bool
    is_fine_made i = can_make (part_of i).class 0 && not ((part_of i).number == 0)

    abbrev mutual
      pub is_fine_instance : Instance → Bool
      is_fine_instance (Instance.Holding part contents) = is_fine_part part && is_fine_contents part.class contents

      -- children stand in containers, and are components
      pub is_fine_contents : Class → Contents → Bool
      is_fine_contents class Contents.NoContent = true
      is_fine_contents class (Contents.Child i contents) =
          is_container (bases p) class && is_component (bases p) (part_of i).class && is_fine_made i && is_fine_instance i && is_fine_contents class contents
      is_fine_contents class (Contents.Tag name value contents) = can_write class name && is_fine_given value && is_fine_contents class contents
      is_fine_contents class (Contents.Declared i contents) = is_fine_made i && is_fine_instance i && is_fine_contents class contents
      is_fine_contents class (Contents.Declared_value id value contents) = can_write this id && is_fine_given value && is_fine_contents class contents

      pub is_fine_given : Given → Bool
      is_fine_given (Given.Given_literal value) = true
      is_fine_given (Given.Given_instance i) = is_fine_made i && is_fine_instance i
      is_fine_given (Given.Given_array items) = are_fine_items items

      pub are_fine_items : Givens → Bool
      are_fine_items Givens.NoGiven = true
      are_fine_items (Givens.MoreGiven x items) = is_fine_given x && are_fine_items items

    -- the property at the end of a chain of properties of a class can be written
    abbrev pub ends_well : List ℕ → List (List ℕ) → Class → Bool
    ends_well name [] class = can_write class name
    ends_well name (next ∷ names) class = holds (ends_well next names) (option_and_then class_of_type (property_type class name))

    abbrev pub is_fine_destination : Destination → Bool
    is_fine_destination (Destination.In_instance i name) = holds (λ class. can_write class name) (instance_class i)
    is_fine_destination (Destination.At_chain []) = false
    is_fine_destination (Destination.At_chain (name ∷ names)) = ends_well name names this

    abbrev pub is_fine_source : BindingSource → Bool
    is_fine_source (BindingSource.An_expression e) = has_type own_scope e
    is_fine_source (BindingSource.A_property i name) = holds (λ class. can_write class name) (instance_class i)

    abbrev pub is_fine_binding : Binding → Bool
    is_fine_binding b = is_fine_source b.source && is_fine_destination b.destination

    abbrev pub is_fine_change : Change → Class → Bool
    is_fine_change (Change.Changes_property name value) class = can_write class name
    is_fine_change (Change.Changes_handler event base m) class = is_fine_handler this m && unwrap_or (option_map (is_fine_handler this) base) true

    abbrev pub is_fine_override : Override → Bool
    is_fine_override x = holds (is_fine_change x.change) (instance_class x.instance)

    abbrev pub is_fine_state : State → Bool
    is_fine_state x = list_all is_fine_override x.overrides

  -- the parts of a list have the numbers from this one on
  abbrev pub are_numbered : ℕ → List Part → Bool
  are_numbered n [] = true
  are_numbered n (part ∷ parts) = (part.number == n) && are_numbered (suc n) parts

  -- a document is a component, and its root stands for its base
  abbrev pub is_fine_document : Class → Document → Bool
  is_fine_document this d =
      is_component (bases p) this
      && are_numbered 0 (parts_of d.root)
      && holds (same_class (part_of d.root).class) (base_in (bases p) this)
      && is_fine_instance this d.root d.root
      && list_all (is_fine_binding this d.root) d.bindings
      && list_all (is_fine_state this d.root) d.states

  abbrev pub is_fine_class : ℕ → SourceClass → Bool
  is_fine_class k class =
      has_no_ring (Class.File k)
      && has_fine_names (Class.File k)
      && list_all (is_fine_variable (Class.File k)) class.variables
      && list_all (is_fine_member (Class.File k)) class.members
      && is_fine_constructor (Class.File k) class.base class.constructor
      && unwrap_or (option_map (is_fine_document (Class.File k)) class.document) true

  abbrev pub are_fine_classes : ℕ → List SourceClass → Bool
  are_fine_classes k [] = true
  are_fine_classes k (class ∷ classes) = is_fine_class k class && are_fine_classes (suc k) classes

  -- the main is a document, and is made without arguments
  abbrev pub is_fine : Bool
  is_fine = are_fine_classes 0 p.classes && is_some (document_of p (Class.File p.main)) && can_make (Class.File p.main) 0
