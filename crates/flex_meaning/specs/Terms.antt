-- Words for writing small programs and their traces.
use Rattle.std.specs.Prelude.{Bool, List, None, Option, Some, [], codes, false, map, pos, suc, true, ℕ, ◌++◌, ◌∷◌}
use Rattle.flex_base.specs.Story.{Story}
use Rattle.flex_base.specs.declared.event.UserEvent.{UserEvent}
use Rattle.flex_base.specs.declared.event.UserEvent.TheVariants as user
use Rattle.flex_base.specs.declared.outcome.Outcome.TheVariants.{Ended, Stopped, TurnsSpent}
use Rattle.flex_base.specs.declared.outcome.Stop.{Stop}
use Rattle.flex_base.specs.declared.record.TraceItem.{TraceItem}
use Rattle.flex_base.specs.declared.record.TraceItem.TheVariants.{Added, Heard, Made, Removed, Sent, Written}
use Rattle.flex_base.specs.declared.value.ObjId.{ObjId}
use Rattle.flex_base.specs.declared.value.Value.{Value}
use Rattle.flex_base.specs.declared.value.Value.TheVariants as value
use Rattle.component_catalog.specs.declared.class.NativeClass.{NativeClass}
use Rattle.component_catalog.specs.declared.class.NativeClass.TheVariants as native
use Rattle.flex_world.specs.declared.kind.Class.{Class}
use Rattle.flex_world.specs.declared.kind.StaticType.{StaticType}
use Rattle.flex_program.specs.Program.{Attribute, Binding, BindingSource, Block, Chain, Contents, Destination, Document, Expr, Exprs, Instance, Literal, Member, Method, MoreExpr, MoreStmt, NoExpr, NoStmt, Place, Presence, Program, SourceClass, State, Stmt, Variable}

-- the number of an object
abbrev pub object_number : ℕ → ObjId
object_number n = record { 0 = n }

abbrev pub object_value : ℕ → Value
object_value n = value.Ref (object_number n)

abbrev pub made : ℕ → List ℕ → TraceItem
made o class = Made (object_number o) class

abbrev pub written : ℕ → List ℕ → Value → TraceItem
written o name v = Written (object_number o) name v

abbrev pub added : ℕ → ℕ → ℕ → TraceItem
added parent child place = Added (object_number parent) (object_number child) place

abbrev pub removed : ℕ → ℕ → TraceItem
removed parent child = Removed (object_number parent) (object_number child)

abbrev pub sent : ℕ → List ℕ → TraceItem
sent target kind = Sent (object_number target) kind

abbrev pub heard : ℕ → List ℕ → ℕ → TraceItem
heard node kind phase = Heard (object_number node) kind phase

abbrev pub of_class : NativeClass → StaticType
of_class class = StaticType.Object (Class.Native class)

-- an id, or a public bindable variable
abbrev pub holding : List ℕ → StaticType → Variable
holding name type = record { name = name; type = type; start = None; public = true; bindable = true }

abbrev pub plain_variable : List ℕ → StaticType → Option Expr → Bool → Variable
plain_variable name type start bindable = record { name = name; type = type; start = start; public = true; bindable = bindable }

abbrev pub id_of : NativeClass → List ℕ → Variable
id_of class name = holding name (of_class class)

abbrev pub instance : ℕ → Class → Option (List ℕ) → Option Presence → List Attribute → Contents → Instance
instance number class id presence attributes contents =
    Instance.Holding (record { number = number; class = class; id = id; presence = presence; attributes = attributes }) contents

-- an instance of a native class that is in every state
abbrev pub tag : ℕ → NativeClass → Option (List ℕ) → List Attribute → Contents → Instance
tag number class id attributes contents = instance number (Class.Native class) id None attributes contents

abbrev pub children : List Instance → Contents
children [] = Contents.NoContent
children (i ∷ is) = Contents.Child i (children is)

abbrev pub block : List Stmt → Block
block [] = NoStmt
block (s ∷ ss) = MoreStmt s (block ss)

abbrev pub exprs : List Expr → Exprs
exprs [] = NoExpr
exprs (e ∷ es) = MoreExpr e (exprs es)

abbrev pub number : ℕ → Expr
number n = Expr.Constant (Literal.Whole (pos n))

abbrev pub text : List ℕ → Expr
text t = Expr.Constant (Literal.Quoted t)

-- a property of `this`
abbrev pub my : List ℕ → Expr
my name = Expr.Property Expr.This name

abbrev pub my_place : List ℕ → Place
my_place name = Place.Property_place Expr.This name

-- the handler of an event of a class
abbrev pub handler : NativeClass → List Stmt → Method
handler class ss = record { parameters = of_class class ∷ []; locals = []; result = None; body = block ss }

abbrev pub procedure : List StaticType → List Stmt → Method
procedure parameters ss = record { parameters = parameters; locals = []; result = None; body = block ss }

abbrev pub document : Instance → List Binding → List State → Document
document root bindings states = record { root = root; bindings = bindings; states = states }

abbrev pub application : List Variable → List Member → Document → SourceClass
application variables members d =
    record { name = codes "Main"; base = Some (Class.Native native.Application); variables = variables; members = members; constructor = None; document = Some d }

abbrev pub root : List Attribute → List Instance → Instance
root attributes is = tag 0 native.Application None attributes (children is)

abbrev pub alone : SourceClass → List Method → Program
alone class methods = record { classes = class ∷ []; methods = methods; main = 0 }

abbrev pub clicks_on : List ℕ → UserEvent
clicks_on name = user.Click (name ∷ []) (codes "click " ++ name)

abbrev pub ended : List TraceItem → Option Story
ended records = Some (record { records = records; outcome = Ended })

abbrev pub stopped : Stop → List TraceItem → Option Story
stopped cause records = Some (record { records = records; outcome = Stopped cause })

abbrev pub spent : List TraceItem → Option Story
spent records = Some (record { records = records; outcome = TurnsSpent })

-- a call of a method of `this`
abbrev pub call_my : List ℕ → List Expr → Expr
call_my name arguments = Expr.Call Expr.This name (exprs arguments)

abbrev pub member : List ℕ → ℕ → Member
member name method = record { name = name; method = method }

abbrev pub texts : List (List ℕ) → Exprs
texts [] = NoExpr
texts (t ∷ ts) = MoreExpr (text t) (texts ts)

-- a handler of the root's creationComplete
abbrev pub when_complete : ℕ → List Attribute
when_complete method = Attribute.Handles (codes "creationComplete") method ∷ []

-- a chain of bindable properties from the document
abbrev pub chain : List (List ℕ) → Chain
chain names = record { start = None; names = names }

-- a binding of an instance's property to an expression
abbrev pub one_way : Expr → List (List (List ℕ)) → ℕ → List ℕ → Binding
one_way e chains instance name =
    record { source = BindingSource.An_expression e; destination = Destination.In_instance instance name; chains = map chain chains; counterpart = None; second = false }

-- the two halves of `@{name}` at an instance's property, from this number on
abbrev pub two_way : ℕ → Expr → List (List ℕ) → ℕ → List ℕ → List Binding
two_way number e names instance name =
    record (one_way e (names ∷ []) instance name) { counterpart = Some (suc number) }
    ∷ record {
      source = BindingSource.A_property instance name;
      destination = Destination.At_chain names;
      chains = record { start = Some instance; names = name ∷ [] } ∷ [];
      counterpart = Some number;
      second = true;
    }
    ∷ []

-- the root is complete, and its own handler hears it, by the event of this number
abbrev pub root_is_complete : List TraceItem
root_is_complete = sent 1 (codes "creationComplete") ∷ heard 1 (codes "creationComplete") 2 ∷ []
