-- What small programs with listeners mean.
use Rattle.std.specs.Prelude.{Bool, List, Some, [], codes, false, true, ℕ, ◌++◌, ◌∷◌, ◌≡◌, None}
use Rattle.flex_base.specs.declared.event.UserEvent.TheVariants as user
use Rattle.flex_base.specs.declared.outcome.Stop.TheVariants as stop
use Rattle.flex_base.specs.declared.record.TraceItem.{TraceItem}
use Rattle.flex_base.specs.declared.record.TraceItem.TheVariants.{Missed, Traced, User}
use Rattle.flex_base.specs.declared.value.Value.TheVariants as value
use Rattle.component_catalog.specs.declared.class.NativeClass.TheVariants as native
use Rattle.flex_program.specs.Program.{Attribute, Contents, Expr, Literal, Method, NoExpr, Program, Stmt}
use Rattle.flex_meaning.specs.Examples.{button, button_is_built, go, greeting, greeting_is_built, on_click}
use Rattle.flex_meaning.specs.Terms.{added, alone, application, call_my, children, clicks_on, root_is_complete, document, ended, exprs, handler, heard, id_of, made, member, my, number, object_value, of_class, procedure, removed, root, sent, stopped, tag, text, when_complete, written}
use Rattle.flex_meaning.specs.Trace.{source_trace}

-- a method that traces its name and the phase of its event
abbrev pub tells : List ℕ → Method
tells name =
    procedure (of_class native.MouseEvent ∷ []) (Stmt.Trace (exprs (text name ∷ Expr.Property (Expr.Local 0) (codes "eventPhase") ∷ [])) ∷ [])

abbrev pub listens : Expr → List ℕ → List Expr → Stmt
listens node name others =
    Stmt.Do (Expr.Call node (codes "addEventListener") (exprs (text (codes "click") ∷ Expr.Method_of Expr.This name ∷ others)))

abbrev pub boolean : Bool → Expr
boolean b = Expr.Constant (Literal.Truth b)

-- a Button in a Group: `c` listens at the Group in the first phase, and at the Button `a` and `b` of priority 5, and `z`
abbrev pub priorities : Program
priorities =
    alone
    (application
    (id_of native.Group (codes "box") ∷ go ∷ [])
    (member (codes "init") 1 ∷ member (codes "c") 2 ∷ member (codes "a") 3 ∷ member (codes "z") 4 ∷ member (codes "b") 5 ∷ [])
    (document
    (root (when_complete 0) (tag 1 native.Group (Some (codes "box")) [] (children (tag 2 native.Button (Some (codes "go")) [] Contents.NoContent ∷ [])) ∷ []))
    [] []))
    (handler native.FlexEvent (Stmt.Do (call_my (codes "init") []) ∷ [])
    ∷ procedure []
    (listens (my (codes "box")) (codes "c") (boolean true ∷ [])
    ∷ listens (my (codes "go")) (codes "a") (boolean false ∷ number 5 ∷ [])
    ∷ listens (my (codes "go")) (codes "z") (boolean false ∷ number 0 ∷ [])
    ∷ listens (my (codes "go")) (codes "b") (boolean false ∷ number 5 ∷ [])
    ∷ [])
    ∷ tells (codes "c")
    ∷ tells (codes "a")
    ∷ tells (codes "z")
    ∷ tells (codes "b")
    ∷ [])

abbrev pub PrioritiesMean : Type 0
PrioritiesMean =
    source_trace priorities (clicks_on (codes "go") ∷ []) 1000000
    ≡ ended
    (made 1 (codes "Main")
    ∷ made 2 (codes "Group")
    ∷ written 1 (codes "box") (object_value 2)
    ∷ made 3 (codes "Button")
    ∷ written 1 (codes "go") (object_value 3)
    ∷ added 2 3 0
    ∷ added 1 2 0
    ∷ sent 1 (codes "creationComplete")
    ∷ heard 1 (codes "creationComplete") 2
    ∷ User (codes "click go")
    ∷ sent 3 (codes "click")
    ∷ heard 2 (codes "click") 1
    ∷ Traced (codes "c 1")
    ∷ heard 3 (codes "click") 2
    ∷ Traced (codes "a 2")
    ∷ heard 3 (codes "click") 2
    ∷ Traced (codes "b 2")
    ∷ heard 3 (codes "click") 2
    ∷ Traced (codes "z 2")
    ∷ [])

-- two listeners at a Button and one at the document, of which the first calls a method of the event, if any
abbrev pub stopper : List Stmt → Program
stopper ss =
    alone
    (application (go ∷ []) (member (codes "f") 1 ∷ member (codes "g") 2 ∷ member (codes "h") 3 ∷ [])
    (document (root (when_complete 0) (button [] ∷ [])) [] []))
    (handler native.FlexEvent (listens (my (codes "go")) (codes "f") [] ∷ listens (my (codes "go")) (codes "g") [] ∷ listens Expr.This (codes "h") [] ∷ [])
    ∷ procedure (of_class native.MouseEvent ∷ []) ss
    ∷ procedure (of_class native.MouseEvent ∷ []) []
    ∷ procedure (of_class native.MouseEvent ∷ []) []
    ∷ [])

abbrev pub calls_event : List ℕ → List Stmt
calls_event name = Stmt.Do (Expr.Call (Expr.Local 0) name NoExpr) ∷ []

abbrev pub StopsMean : List Stmt → List TraceItem → Type 0
StopsMean ss items =
    source_trace (stopper ss) (clicks_on (codes "go") ∷ []) 1000000
    ≡ ended (button_is_built ++ root_is_complete ++ (User (codes "click go") ∷ sent 2 (codes "click") ∷ []) ++ items)

abbrev pub NoStopMeans : Type 0
NoStopMeans = StopsMean [] (heard 2 (codes "click") 2 ∷ heard 2 (codes "click") 2 ∷ heard 1 (codes "click") 3 ∷ [])

abbrev pub StopMeans : Type 0
StopMeans = StopsMean (calls_event (codes "stopPropagation")) (heard 2 (codes "click") 2 ∷ heard 2 (codes "click") 2 ∷ [])

abbrev pub StopAtOnceMeans : Type 0
StopAtOnceMeans = StopsMean (calls_event (codes "stopImmediatePropagation")) (heard 2 (codes "click") 2 ∷ [])

-- the default action of a click on a CheckBox, and one that is prevented
abbrev pub check_box : List Attribute → List Method → Program
check_box attributes methods =
    alone
    (application (id_of native.CheckBox (codes "box") ∷ []) [] (document (root [] (tag 1 native.CheckBox (Some (codes "box")) attributes Contents.NoContent ∷ [])) [] [])) methods

abbrev pub check_box_is_built : List TraceItem
check_box_is_built =
    made 1 (codes "Main")
    ∷ made 2 (codes "CheckBox")
    ∷ written 1 (codes "box") (object_value 2)
    ∷ added 1 2 0
    ∷ User (codes "click box")
    ∷ sent 2 (codes "click")
    ∷ []

abbrev pub DefaultMeans : Type 0
DefaultMeans =
    source_trace (check_box [] []) (clicks_on (codes "box") ∷ []) 1000000
    ≡ ended (check_box_is_built ++ (written 2 (codes "selected") (value.Bool true) ∷ sent 2 (codes "change") ∷ []))

abbrev pub PreventedMeans : Type 0
PreventedMeans =
    source_trace (check_box (on_click 0) (handler native.MouseEvent (calls_event (codes "preventDefault")) ∷ [])) (clicks_on (codes "box") ∷ []) 1000000
    ≡ ended (check_box_is_built ++ (heard 2 (codes "click") 2 ∷ []))

-- a Label that is moved from a Group to the document, and then what is asked of the Group
abbrev pub mover : Expr → Program
mover last =
    alone
    (application (id_of native.Group (codes "box") ∷ id_of native.Label (codes "out") ∷ []) []
    (document
    (root (when_complete 0) (tag 1 native.Group (Some (codes "box")) [] (children (tag 2 native.Label (Some (codes "out")) [] Contents.NoContent ∷ [])) ∷ []))
    [] []))
    (handler native.FlexEvent (Stmt.Do (call_my (codes "addElement") (my (codes "out") ∷ [])) ∷ Stmt.Do last ∷ []) ∷ [])

abbrev pub moved : List TraceItem
moved =
    made 1 (codes "Main")
    ∷ made 2 (codes "Group")
    ∷ written 1 (codes "box") (object_value 2)
    ∷ made 3 (codes "Label")
    ∷ written 1 (codes "out") (object_value 3)
    ∷ added 2 3 0
    ∷ added 1 2 0
    ∷ sent 1 (codes "creationComplete")
    ∷ heard 1 (codes "creationComplete") 2
    ∷ removed 2 3
    ∷ added 1 3 1
    ∷ []

abbrev pub ask_box : List ℕ → Expr → Expr
ask_box name e = Expr.Call (my (codes "box")) name (exprs (e ∷ []))

abbrev pub NotAChildMeans : Type 0
NotAChildMeans = source_trace (mover (ask_box (codes "removeElement") (my (codes "out")))) [] 1000000 ≡ stopped stop.NotAChild moved

abbrev pub CycleMeans : Type 0
CycleMeans = source_trace (mover (ask_box (codes "addElement") Expr.This)) [] 1000000 ≡ stopped stop.Cycle moved

-- a name that is nobody's, and a state that isn't there
abbrev pub NobodyMeans : Type 0
NobodyMeans = source_trace greeting (clicks_on (codes "nobody") ∷ []) 1000000 ≡ ended (greeting_is_built ++ (User (codes "click nobody") ∷ Missed (codes "nobody") ∷ []))

abbrev pub NoStateMeans : Type 0
NoStateMeans =
    source_trace greeting (user.State (codes "z") (codes "state z") ∷ []) 1000000 ≡ stopped stop.UnknownState (greeting_is_built ++ (User (codes "state z") ∷ []))

-- a Label and its document, each of which hears its own completion: the event of the Label comes no way up
abbrev pub quiet : Program
quiet =
    alone (application [] [] (document (root (when_complete 0) (tag 1 native.Label None (when_complete 0) Contents.NoContent ∷ [])) [] []))
    (handler native.FlexEvent [] ∷ [])

abbrev pub NoWayUpMeans : Type 0
NoWayUpMeans =
    source_trace quiet [] 1000000
    ≡ ended
    (made 1 (codes "Main")
    ∷ made 2 (codes "Label")
    ∷ added 1 2 0
    ∷ sent 2 (codes "creationComplete")
    ∷ heard 2 (codes "creationComplete") 2
    ∷ root_is_complete)
