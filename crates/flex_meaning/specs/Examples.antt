-- What small programs mean, record by record.
use Rattle.flex_world.specs.declared.operator.Operator.TheVariants as Operator
use Rattle.std.specs.Prelude.{List, None, Some, [], codes, false, pos, true, ℕ, ◌++◌, ◌∷◌, ◌≡◌}
use Rattle.flex_base.specs.declared.outcome.Stop.TheVariants as stop
use Rattle.flex_base.specs.declared.record.TraceItem.{TraceItem}
use Rattle.flex_base.specs.declared.record.TraceItem.TheVariants.{Traced, User}
use Rattle.flex_base.specs.declared.value.Value.TheVariants as value
use Rattle.component_catalog.specs.declared.class.NativeClass.TheVariants as native
use Rattle.flex_world.specs.declared.kind.StaticType.TheVariants as StaticType
use Rattle.flex_program.specs.Program.{Attribute, Contents, Expr, Instance, Literal, Member, Method, NoExpr, NoStmt, Place, Program, Stmt, Variable}
use Rattle.flex_meaning.specs.Terms.{added, alone, application, block, clicks_on, document, ended, exprs, handler, heard, id_of, made, my, my_place, number, object_value, of_class, plain_variable, procedure, root, sent, spent, stopped, tag, text, written}
use Rattle.flex_meaning.specs.Trace.{source_trace}

-- a Label whose text is `Hi`
abbrev pub greeting : Program
greeting =
    alone (application (id_of native.Label (codes "greeting") ∷ []) []
    (document (root [] (tag 1 native.Label (Some (codes "greeting")) (Attribute.Sets (codes "text") (Literal.Quoted (codes "Hi")) ∷ []) Contents.NoContent ∷ [])) [] [])) []

abbrev pub greeting_is_built : List TraceItem
greeting_is_built =
    made 1 (codes "Main")
    ∷ made 2 (codes "Label")
    ∷ written 1 (codes "greeting") (object_value 2)
    ∷ written 2 (codes "text") (value.Text (codes "Hi"))
    ∷ added 1 2 0
    ∷ []

abbrev pub GreetingMeans : Type 0
GreetingMeans = source_trace greeting [] 1000000 ≡ ended greeting_is_built

-- one turn is enough for the constructor, and not for the building
abbrev pub OneTurnMeans : Type 0
OneTurnMeans = source_trace greeting [] 1 ≡ spent (made 1 (codes "Main") ∷ [])

-- the smallest document
abbrev pub EmptyMeans : Type 0
EmptyMeans = source_trace (alone (application [] [] (document (root [] []) [] [])) []) [] 1000000 ≡ ended (made 1 (codes "Main") ∷ [])

abbrev pub button : List Attribute → Instance
button attributes = tag 1 native.Button (Some (codes "go")) attributes Contents.NoContent

abbrev pub on_click : ℕ → List Attribute
on_click method = Attribute.Handles (codes "click") method ∷ []

abbrev pub go : Variable
go = id_of native.Button (codes "go")

-- a Button whose clicks are handled by the first method
abbrev pub with_button : List Variable → List Member → List Method → Program
with_button variables members methods = alone (application (variables ++ go ∷ []) members (document (root [] (button (on_click 0) ∷ [])) [] [])) methods

abbrev pub clicked : List TraceItem
clicked = User (codes "click go") ∷ sent 2 (codes "click") ∷ heard 2 (codes "click") 2 ∷ []

abbrev pub button_is_built : List TraceItem
button_is_built = made 1 (codes "Main") ∷ made 2 (codes "Button") ∷ written 1 (codes "go") (object_value 2) ∷ added 1 2 0 ∷ []

-- the end of int: `n = n + 1` at the greatest
abbrev pub counter : Program
counter =
    with_button (plain_variable (codes "n") StaticType.Int (Some (number 2147483647)) false ∷ []) []
    (handler native.MouseEvent (Stmt.Assign (my_place (codes "n")) (Expr.Apply Operator.Plus (my (codes "n")) (number 1)) ∷ []) ∷ [])

abbrev pub EndOfIntMeans : Type 0
EndOfIntMeans =
    source_trace counter (clicks_on (codes "go") ∷ []) 1000000
    ≡ stopped stop.IntRange
    (made 1 (codes "Main")
    ∷ written 1 (codes "n") (value.Int (pos 2147483647))
    ∷ made 2 (codes "Button")
    ∷ written 1 (codes "go") (object_value 2)
    ∷ added 1 2 0
    ∷ clicked)

-- a listener that is added while its node's list was taken waits for the next event
abbrev pub adder : Program
adder =
    with_button [] (record { name = codes "more"; method = 1 } ∷ [])
    (handler native.MouseEvent
    (Stmt.Do (Expr.Call (my (codes "go")) (codes "addEventListener") (exprs (text (codes "click") ∷ Expr.Method_of Expr.This (codes "more") ∷ []))) ∷ [])
    ∷ procedure (of_class native.MouseEvent ∷ []) (Stmt.Trace (exprs (text (codes "more") ∷ [])) ∷ [])
    ∷ [])

abbrev pub TakenOnArrivalMeans : Type 0
TakenOnArrivalMeans =
    source_trace adder (clicks_on (codes "go") ∷ clicks_on (codes "go") ∷ []) 1000000
    ≡ ended (button_is_built ++ clicked ++ clicked ++ (heard 2 (codes "click") 2 ∷ Traced (codes "more") ∷ []))

-- a loop without an end
abbrev pub looper : Program
looper = with_button [] [] (handler native.MouseEvent (Stmt.Loop (Some (Expr.Constant (Literal.Truth true))) NoStmt NoStmt ∷ []) ∷ [])

abbrev pub SpentMeans : ℕ → Type 0
SpentMeans turns = source_trace looper (clicks_on (codes "go") ∷ []) turns ≡ spent (button_is_built ++ clicked)

abbrev pub TwoTurnsMean : Type 0
TwoTurnsMean = source_trace looper (clicks_on (codes "go") ∷ []) 2 ≡ spent (button_is_built ++ (User (codes "click go") ∷ sent 2 (codes "click") ∷ []))

-- a method that calls itself
abbrev pub diver : Program
diver =
    with_button [] (record { name = codes "f"; method = 1 } ∷ [])
    (handler native.MouseEvent (Stmt.Do (Expr.Call Expr.This (codes "f") NoExpr) ∷ []) ∷ procedure [] (Stmt.Do (Expr.Call Expr.This (codes "f") NoExpr) ∷ []) ∷ [])

abbrev pub DepthMeans : Type 0
DepthMeans = source_trace diver (clicks_on (codes "go") ∷ []) 1000000 ≡ stopped stop.Depth (button_is_built ++ clicked)

-- an array in a handler's variable `a`
abbrev pub arrays : Program
arrays =
    with_button [] []
    (record {
      parameters = of_class native.MouseEvent ∷ [];
      locals = StaticType.Array ∷ [];
      result = None;
      body =
          block
          (Stmt.Assign (Place.Local_place 1 StaticType.Array) (Expr.Items (exprs (number 1 ∷ [])))
          ∷ Stmt.Assign (Place.Element_place (Expr.Local 1) (number 1)) (number 2)
          ∷ Stmt.Trace (exprs (Expr.Push (Expr.Local 1) (number 3) ∷ Expr.Length (Expr.Local 1) ∷ Expr.Element (Expr.Local 1) (number 7) ∷ Expr.Pop (Expr.Local 1) ∷ []))
          ∷ Stmt.Assign (Place.Element_place (Expr.Local 1) (number 9)) (number 0)
          ∷ []);
    }
    ∷ [])

abbrev pub ArraysMean : Type 0
ArraysMean = source_trace arrays (clicks_on (codes "go") ∷ []) 1000000 ≡ stopped stop.ArrayIndex (button_is_built ++ clicked ++ (Traced (codes "3 3 undefined 3") ∷ []))
