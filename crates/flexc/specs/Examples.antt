-- What small documents mean, record by record.
use Rattle.std.specs.Prelude.{◌≡◌, ℕ, List, [], ◌∷◌, ◌++◌, None, Some, codes}
use Rattle.flex_base.specs.declared.outcome.Outcome.TheVariants.{Ended, TurnsSpent}
use Rattle.flex_base.specs.declared.record.TraceItem.{TraceItem}
use Rattle.flex_base.specs.declared.record.TraceItem.TheVariants.{Made, Written, Added, Sent, Heard, Traced, User, Missed}
use Rattle.flex_base.specs.declared.value.ObjId.{ObjId}
use Rattle.flex_base.specs.declared.value.Value.TheVariants as value
use Rattle.flex_front.specs.declared.document.Document.{Document}
use Rattle.flex_front.specs.declared.document.Element.TheVariants.{Label, Button}
use Rattle.flex_base.specs.declared.event.UserEvent.{UserEvent}
use Rattle.flex_base.specs.declared.event.UserEvent.TheVariants.{Click}
use Rattle.flexc.specs.Meaning.{source_trace}

-- a document with one Label
abbrev pub with_label : List ℕ → List ℕ → Document
with_label id value = record { elements = Label id value ∷ [] }

abbrev pub object : ℕ → ObjId
object n = record { 0 = n }

-- a Label whose text is `Hi`
abbrev pub GreetingMeans : Type 0
GreetingMeans =
    source_trace (with_label (codes "greeting") (codes "Hi")) [] 1000000
    ≡ record {
      records = Made (object 1) (codes "Main")
          ∷ Made (object 2) (codes "Label")
          ∷ Written (object 1) (codes "greeting") (value.Ref (object 2))
          ∷ Written (object 2) (codes "text") (value.Text (codes "Hi"))
          ∷ Added (object 1) (object 2) 0
          ∷ [];
      outcome = Ended;
    }

-- a Label without a text: its empty text equals what it has, and makes no record
abbrev pub EmptyTextMeans : Type 0
EmptyTextMeans =
    source_trace (with_label (codes "greeting") []) [] 1000000
    ≡ record {
      records = Made (object 1) (codes "Main")
          ∷ Made (object 2) (codes "Label")
          ∷ Written (object 1) (codes "greeting") (value.Ref (object 2))
          ∷ Added (object 1) (object 2) 0
          ∷ [];
      outcome = Ended;
    }

-- one turn is enough for the constructor, and not for the building
abbrev pub OneTurnMeans : Type 0
OneTurnMeans = source_trace (with_label (codes "greeting") (codes "Hi")) [] 1 ≡ record { records = Made (object 1) (codes "Main") ∷ []; outcome = TurnsSpent }

-- a Button, which has no text that is written, behind a Label
abbrev pub ButtonMeans : Type 0
ButtonMeans =
    source_trace (record { elements = Label (codes "greeting") [] ∷ Button (codes "go") None ∷ [] }) [] 1000000
    ≡ record {
      records = Made (object 1) (codes "Main")
          ∷ Made (object 2) (codes "Label")
          ∷ Written (object 1) (codes "greeting") (value.Ref (object 2))
          ∷ Added (object 1) (object 2) 0
          ∷ Made (object 3) (codes "Button")
          ∷ Written (object 1) (codes "go") (value.Ref (object 3))
          ∷ Added (object 1) (object 3) 1
          ∷ [];
      outcome = Ended;
    }

-- a Button that traces `hi` at each click
abbrev pub greeter : Document
greeter = record { elements = Button (codes "go") (Some (codes "hi")) ∷ [] }

abbrev pub click_on : List ℕ → UserEvent
click_on name = Click (name ∷ []) (codes "click " ++ name)

abbrev pub greeter_is_built : List TraceItem
greeter_is_built =
    Made (object 1) (codes "Main")
    ∷ Made (object 2) (codes "Button")
    ∷ Written (object 1) (codes "go") (value.Ref (object 2))
    ∷ Added (object 1) (object 2) 0
    ∷ []

-- a click on it is heard, and a click on a name that is no id is missed
abbrev pub ClickMeans : Type 0
ClickMeans =
    source_trace greeter (click_on (codes "go") ∷ click_on (codes "no") ∷ []) 1000000
    ≡ record {
      records = greeter_is_built
          ++ (User (codes "click go")
          ∷ Sent (object 2) (codes "click")
          ∷ Heard (object 2) (codes "click") 2
          ∷ Traced (codes "hi")
          ∷ User (codes "click no")
          ∷ Missed (codes "no")
          ∷ []);
      outcome = Ended;
    }

-- two turns are enough for the building, and not for the handler
abbrev pub TwoTurnsMean : Type 0
TwoTurnsMean =
    source_trace greeter (click_on (codes "go") ∷ click_on (codes "no") ∷ []) 2
    ≡ record { records = greeter_is_built ++ (User (codes "click go") ∷ Sent (object 2) (codes "click") ∷ []); outcome = TurnsSpent }

-- a click on a Label is heard by nobody, and its event takes a number
abbrev pub LabelClickMeans : Type 0
LabelClickMeans =
    source_trace (with_label (codes "greeting") []) (click_on (codes "greeting") ∷ click_on (codes "greeting") ∷ []) 1000000
    ≡ record {
      records = Made (object 1) (codes "Main")
          ∷ Made (object 2) (codes "Label")
          ∷ Written (object 1) (codes "greeting") (value.Ref (object 2))
          ∷ Added (object 1) (object 2) 0
          ∷ User (codes "click greeting")
          ∷ Sent (object 2) (codes "click")
          ∷ User (codes "click greeting")
          ∷ Sent (object 2) (codes "click")
          ∷ [];
      outcome = Ended;
    }
