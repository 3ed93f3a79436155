-- What the programs of small documents mean, record by record.
use Rattle.std.specs.Prelude.{List, None, Some, [], codes, ℕ, ◌++◌, ◌∷◌, ◌≡◌}
use Rattle.flex_base.specs.declared.event.UserEvent.TheVariants.{Click}
use Rattle.flex_base.specs.declared.record.TraceItem.{TraceItem}
use Rattle.flex_base.specs.declared.record.TraceItem.TheVariants.{Missed, Traced, User}
use Rattle.flex_base.specs.declared.value.Value.TheVariants as value
use Rattle.flex_front.specs.declared.document.Document.{Document}
use Rattle.flex_front.specs.declared.document.Element.TheVariants.{Button, Label}
use Rattle.flex_meaning.specs.Terms.{added, clicks_on, ended, heard, made, object_value, sent, spent, written}
use Rattle.flex_meaning.specs.Trace.{source_trace}
use Rattle.built_programs.specs.Programs.{source_program}

-- a document with one Label
abbrev pub with_label : List ℕ → List ℕ → Document
with_label id text = record { elements = Label id text ∷ [] }

abbrev pub label_is_built : List TraceItem
label_is_built = made 1 (codes "Main") ∷ made 2 (codes "Label") ∷ written 1 (codes "greeting") (object_value 2) ∷ added 1 2 0 ∷ []

abbrev pub GreetingMeans : Type 0
GreetingMeans =
    source_trace (source_program (with_label (codes "greeting") (codes "Hi"))) [] 1000000
    ≡ ended
    (made 1 (codes "Main")
    ∷ made 2 (codes "Label")
    ∷ written 1 (codes "greeting") (object_value 2)
    ∷ written 2 (codes "text") (value.Text (codes "Hi"))
    ∷ added 1 2 0
    ∷ [])

abbrev pub EmptyTextMeans : Type 0
EmptyTextMeans = source_trace (source_program (with_label (codes "greeting") [])) [] 1000000 ≡ ended label_is_built

abbrev pub OneTurnMeans : Type 0
OneTurnMeans = source_trace (source_program (with_label (codes "greeting") (codes "Hi"))) [] 1 ≡ spent (made 1 (codes "Main") ∷ [])

abbrev pub ButtonMeans : Type 0
ButtonMeans =
    source_trace (source_program (record { elements = Label (codes "greeting") [] ∷ Button (codes "go") None ∷ [] })) [] 1000000
    ≡ ended (label_is_built ++ (made 3 (codes "Button") ∷ written 1 (codes "go") (object_value 3) ∷ added 1 3 1 ∷ []))

-- a Button that traces `hi` at each click
abbrev pub greeter : Document
greeter = record { elements = Button (codes "go") (Some (codes "hi")) ∷ [] }

abbrev pub greeter_is_built : List TraceItem
greeter_is_built = made 1 (codes "Main") ∷ made 2 (codes "Button") ∷ written 1 (codes "go") (object_value 2) ∷ added 1 2 0 ∷ []

abbrev pub ClickMeans : Type 0
ClickMeans =
    source_trace (source_program greeter) (clicks_on (codes "go") ∷ clicks_on (codes "no") ∷ []) 1000000
    ≡ ended
    (greeter_is_built
    ++ (User (codes "click go")
    ∷ sent 2 (codes "click")
    ∷ heard 2 (codes "click") 2
    ∷ Traced (codes "hi")
    ∷ User (codes "click no")
    ∷ Missed (codes "no")
    ∷ []))

abbrev pub TwoTurnsMean : Type 0
TwoTurnsMean =
    source_trace (source_program greeter) (clicks_on (codes "go") ∷ clicks_on (codes "no") ∷ []) 2
    ≡ spent (greeter_is_built ++ (User (codes "click go") ∷ sent 2 (codes "click") ∷ []))

abbrev pub LabelClickMeans : Type 0
LabelClickMeans =
    source_trace (source_program (with_label (codes "greeting") [])) (clicks_on (codes "greeting") ∷ clicks_on (codes "greeting") ∷ []) 1000000
    ≡ ended
    (label_is_built
    ++ (User (codes "click greeting")
    ∷ sent 2 (codes "click")
    ∷ User (codes "click greeting")
    ∷ sent 2 (codes "click")
    ∷ []))

-- the parent of an element is a public property too, so a path may go up by it
abbrev pub ParentMeans : Type 0
ParentMeans =
    source_trace (source_program greeter) (Click (codes "go" ∷ codes "parent" ∷ []) (codes "click go.parent") ∷ []) 1000000
    ≡ ended (greeter_is_built ++ (User (codes "click go.parent") ∷ sent 1 (codes "click") ∷ []))
