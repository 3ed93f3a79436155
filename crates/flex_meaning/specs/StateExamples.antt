-- What small programs with view states mean.
use Rattle.flex_world.specs.declared.operator.Operator.TheVariants as Operator
use Rattle.std.specs.Prelude.{List, Option, Some, [], codes, false, ℕ, ◌++◌, ◌∷◌, ◌≡◌}
use Rattle.flex_base.specs.declared.event.UserEvent.{UserEvent}
use Rattle.flex_base.specs.declared.event.UserEvent.TheVariants as user
use Rattle.flex_base.specs.declared.record.TraceItem.{TraceItem}
use Rattle.flex_base.specs.declared.record.TraceItem.TheVariants.{User}
use Rattle.flex_base.specs.declared.value.Value.TheVariants as value
use Rattle.component_catalog.specs.declared.class.NativeClass.TheVariants as native
use Rattle.flex_world.specs.declared.kind.Class.TheVariants as Class
use Rattle.flex_program.specs.Program.{Attribute, Change, Contents, Expr, Instance, Literal, NoStmt, Override, Presence, Program, State, Stmt}
use Rattle.flex_meaning.specs.Terms.{added, alone, application, block, document, ended, handler, heard, id_of, made, my, my_place, object_value, one_way, root, sent, tag, text, written}
use Rattle.flex_meaning.specs.Trace.{source_trace}

abbrev pub asks : List ℕ → UserEvent
asks name = user.State name (codes "state " ++ name)

abbrev pub types : List ℕ → List ℕ → UserEvent
types path words = user.Write (path ∷ []) words (codes "type " ++ path ++ codes " \"" ++ words ++ codes "\"")

abbrev pub state : List ℕ → List Override → State
state name overrides = record { name = name; overrides = overrides }

abbrev pub overrides_text : ℕ → List ℕ → List ℕ → Override
overrides_text instance name words = record { instance = instance; change = Change.Changes_property name (Literal.Quoted words) }

abbrev pub enters : List ℕ → TraceItem
enters name = written 1 (codes "currentState") (value.Text name)

-- a TextInput whose text is `base`, `G` in the group `g` of the state `b`, and `B` in `b`
abbrev pub overrider : Program
overrider =
    alone
    (application (id_of native.TextInput (codes "out") ∷ []) []
    (document
    (root [] (tag 1 native.TextInput (Some (codes "out")) (Attribute.Sets (codes "text") (Literal.Quoted (codes "base")) ∷ []) Contents.NoContent ∷ [])) []
    (state (codes "a") [] ∷ state (codes "b") (overrides_text 1 (codes "text") (codes "G") ∷ overrides_text 1 (codes "text") (codes "B") ∷ []) ∷ [])))
    []

abbrev pub OverridesMean : Type 0
OverridesMean =
    source_trace overrider (asks (codes "b") ∷ types (codes "out") (codes "X") ∷ asks (codes "a") ∷ []) 1000000
    ≡ ended
    (made 1 (codes "Main")
    ∷ made 2 (codes "TextInput")
    ∷ written 1 (codes "out") (object_value 2)
    ∷ written 2 (codes "text") (value.Text (codes "base"))
    ∷ added 1 2 0
    ∷ enters (codes "a")
    ∷ User (codes "state b")
    ∷ enters (codes "b")
    ∷ written 2 (codes "text") (value.Text (codes "G"))
    ∷ written 2 (codes "text") (value.Text (codes "B"))
    ∷ User (codes "type out \"X\"")
    ∷ written 2 (codes "text") (value.Text (codes "X"))
    ∷ sent 2 (codes "change")
    ∷ User (codes "state a")
    ∷ written 2 (codes "text") (value.Text (codes "G"))
    ∷ written 2 (codes "text") (value.Text (codes "base"))
    ∷ enters (codes "a")
    ∷ [])

-- a handler that asks for two states while a change runs
abbrev pub asker : Program
asker =
    alone
    (application [] []
    (document (root (Attribute.Handles (codes "currentStateChange") 0 ∷ []) []) [] (state (codes "a") [] ∷ state (codes "b") [] ∷ state (codes "c") [] ∷ [])))
    (handler native.Event
    (Stmt.If (Expr.Apply Operator.Equal (my (codes "currentState")) (text (codes "b")))
    (block (Stmt.Assign (my_place (codes "currentState")) (text (codes "a")) ∷ Stmt.Assign (my_place (codes "currentState")) (text (codes "c")) ∷ [])) NoStmt
    ∷ [])
    ∷ [])

abbrev pub KeptMeans : Type 0
KeptMeans =
    source_trace asker (asks (codes "b") ∷ []) 1000000
    ≡ ended
    (made 1 (codes "Main")
    ∷ enters (codes "a")
    ∷ User (codes "state b")
    ∷ enters (codes "b")
    ∷ sent 1 (codes "currentStateChange")
    ∷ heard 1 (codes "currentStateChange") 2
    ∷ enters (codes "c")
    ∷ sent 1 (codes "currentStateChange")
    ∷ heard 1 (codes "currentStateChange") 2
    ∷ [])

abbrev pub included : List (List ℕ) → Option Presence
included states = Some (record { states = states; container = 0; immediate = false; auto = false })

-- a TextInput that is in the state `b` alone, and a Label that shows its text
abbrev pub deferrer : Program
deferrer =
    alone
    (application (id_of native.TextInput (codes "late") ∷ id_of native.Label (codes "out") ∷ []) []
    (document
    (root []
    (Instance.Holding
    (record {
      number = 1;
      class = Class.Native native.TextInput;
      id = Some (codes "late");
      presence = included (codes "b" ∷ []);
      attributes = Attribute.Sets (codes "text") (Literal.Quoted (codes "x")) ∷ [];
    })
    Contents.NoContent
    ∷ tag 2 native.Label (Some (codes "out")) [] Contents.NoContent
    ∷ []))
    (one_way (Expr.Property (my (codes "late")) (codes "text")) ((codes "late" ∷ codes "text" ∷ []) ∷ []) 2 (codes "text") ∷ []) (state (codes "a") [] ∷ state (codes "b") [] ∷ [])))
    []

abbrev pub DeferredMeans : Type 0
DeferredMeans =
    source_trace deferrer (asks (codes "b") ∷ types (codes "late") (codes "y") ∷ []) 1000000
    ≡ ended
    (made 1 (codes "Main")
    ∷ made 2 (codes "Label")
    ∷ written 1 (codes "out") (object_value 2)
    ∷ added 1 2 0
    ∷ enters (codes "a")
    ∷ User (codes "state b")
    ∷ enters (codes "b")
    ∷ made 3 (codes "TextInput")
    ∷ written 1 (codes "late") (object_value 3)
    ∷ written 3 (codes "text") (value.Text (codes "x"))
    ∷ written 2 (codes "text") (value.Text (codes "x"))
    ∷ added 1 3 0
    ∷ User (codes "type late \"y\"")
    ∷ written 3 (codes "text") (value.Text (codes "y"))
    ∷ written 2 (codes "text") (value.Text (codes "y"))
    ∷ sent 3 (codes "change")
    ∷ [])
