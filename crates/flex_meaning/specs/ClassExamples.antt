-- What small programs with classes and events of their own mean.
use Rattle.flex_world.specs.declared.operator.Operator.TheVariants as Operator
use Rattle.std.specs.Prelude.{Bool, List, None, Option, Some, [], codes, false, pos, true, ℕ, ◌++◌, ◌∷◌, ◌≡◌}
use Rattle.flex_base.specs.declared.record.TraceItem.TheVariants.{Traced}
use Rattle.flex_base.specs.declared.value.Value.TheVariants as value
use Rattle.component_catalog.specs.declared.class.NativeClass.TheVariants as native
use Rattle.flex_world.specs.declared.kind.Class.{Class}
use Rattle.flex_world.specs.declared.kind.StaticType.{StaticType}
use Rattle.flex_program.specs.Program.{Expr, Literal, Member, Method, NoExpr, Place, Program, SourceClass, Stmt, Variable}
use Rattle.flex_meaning.specs.Terms.{application, block, document, ended, exprs, heard, made, member, my, my_place, number, of_class, plain_variable, procedure, root, root_is_complete, sent, text, when_complete, written}
use Rattle.flex_meaning.specs.Trace.{source_trace}

abbrev pub source_class : List ℕ → Option Class → List Variable → List Member → ℕ → Bool → SourceClass
source_class name base variables members constructor calls_super = record {
  name = name;
  base = base;
  variables = variables;
  members = members;
  constructor = Some (record { method = constructor; calls_super = calls_super });
  document = None;
}

-- a method that takes an int and gives a text
abbrev pub tells_of : Expr → Method
tells_of e = record { parameters = StaticType.Int ∷ []; locals = []; result = Some StaticType.String; body = block (Stmt.Return (Some e) ∷ []) }

abbrev pub plus : Expr → Expr → Expr
plus a b = Expr.Apply Operator.Plus a b

-- a document whose handler of its own completion is the first method, and has a variable of this type
abbrev pub when_ready : List Member → List StaticType → List Stmt → List Method → List SourceClass → Program
when_ready members locals ss methods classes = record {
  classes = application [] members (document (root (when_complete 0) []) [] []) ∷ classes;
  methods = record { parameters = of_class native.FlexEvent ∷ []; locals = locals; result = None; body = block ss } ∷ methods;
  main = 0;
}

-- `Derived` extends `Base`: its constructor hands twice its argument on, and its `tell` overrides that of `Base` and calls it
abbrev pub family : Program
family =
    when_ready [] (StaticType.Object (Class.File 2) ∷ [])
    (Stmt.Assign (Place.Local_place 1 (StaticType.Object (Class.File 2))) (Expr.New (Class.File 2) (exprs (number 3 ∷ [])))
    ∷ Stmt.Trace (exprs (Expr.Call (Expr.Local 1) (codes "tell") (exprs (number 2 ∷ [])) ∷ []))
    ∷ [])
    (procedure (StaticType.Int ∷ []) (Stmt.Assign (my_place (codes "n")) (Expr.Local 0) ∷ [])
    ∷ tells_of (plus (text (codes "base ")) (plus (my (codes "n")) (Expr.Local 0)))
    ∷ procedure (StaticType.Int ∷ [])
    (Stmt.Super (Some (Class.File 1)) (exprs (Expr.Apply Operator.Times (Expr.Local 0) (number 2) ∷ [])) ∷ Stmt.Trace (exprs (text (codes "derived") ∷ [])) ∷ [])
    ∷ tells_of (plus (text (codes "derived, ")) (Expr.Call_super (Class.File 1) (codes "tell") (exprs (Expr.Local 0 ∷ []))))
    ∷ [])
    (source_class (codes "Base") None (plain_variable (codes "n") StaticType.Int None false ∷ []) (member (codes "tell") 2 ∷ []) 1 false
    ∷ source_class (codes "Derived") (Some (Class.File 1)) [] (member (codes "tell") 4 ∷ []) 3 true
    ∷ [])

abbrev pub ClassesMean : Type 0
ClassesMean =
    source_trace family [] 1000000
    ≡ ended
    (made 1 (codes "Main")
    ∷ root_is_complete
    ++ (made 3 (codes "Derived") ∷ written 3 (codes "n") (value.Int (pos 6)) ∷ Traced (codes "derived") ∷ Traced (codes "derived, base 8") ∷ []))

abbrev pub ask_self : List ℕ → List Expr → Expr
ask_self name arguments = Expr.Call Expr.This name (exprs arguments)

abbrev pub own_listener : List Expr
own_listener = text (codes "ping") ∷ Expr.Method_of Expr.This (codes "noted") ∷ []

abbrev pub traces : Expr → Stmt
traces e = Stmt.Trace (exprs (e ∷ []))

-- an event of the document's own, which can be cancelled and is: and then its listener goes
abbrev pub pinger : Program
pinger =
    when_ready (member (codes "noted") 1 ∷ []) []
    (Stmt.Do (ask_self (codes "addEventListener") own_listener)
    ∷ traces (ask_self (codes "dispatchEvent") (Expr.New (Class.Native native.Event) (exprs (text (codes "ping") ∷ Expr.Constant (Literal.Truth false) ∷ Expr.Constant (Literal.Truth true) ∷ [])) ∷ []))
    ∷ traces (ask_self (codes "hasEventListener") (text (codes "ping") ∷ []))
    ∷ Stmt.Do (ask_self (codes "removeEventListener") own_listener)
    ∷ traces (ask_self (codes "hasEventListener") (text (codes "ping") ∷ []))
    ∷ traces (ask_self (codes "dispatchEvent") (Expr.New (Class.Native native.Event) (exprs (text (codes "ping") ∷ [])) ∷ []))
    ∷ traces (Expr.Apply Operator.LessOrEqual (number 2) (number 2))
    ∷ [])
    (procedure (of_class native.Event ∷ []) (Stmt.Do (Expr.Call (Expr.Local 0) (codes "preventDefault") NoExpr) ∷ traces (Expr.Call (Expr.Local 0) (codes "isDefaultPrevented") NoExpr) ∷ []) ∷ []) []

abbrev pub OwnEventMeans : Type 0
OwnEventMeans =
    source_trace pinger [] 1000000
    ≡ ended
    (made 1 (codes "Main")
    ∷ root_is_complete
    ++ (sent 1 (codes "ping")
    ∷ heard 1 (codes "ping") 2
    ∷ Traced (codes "true")
    ∷ Traced (codes "false")
    ∷ Traced (codes "true")
    ∷ Traced (codes "false")
    ∷ sent 1 (codes "ping")
    ∷ Traced (codes "true")
    ∷ Traced (codes "true")
    ∷ []))
