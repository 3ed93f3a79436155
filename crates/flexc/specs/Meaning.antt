-- What a source means: the trace of its play.
use Rattle.std.specs.Prelude.{ℕ, suc, List, [], ◌∷◌, length, map, Option, Some, None, ◌||◌, if◌then◌else◌, codes}
use Rattle.std.specs.List.{list_any}
use Rattle.flex_base.specs.declared.outcome.Outcome.TheVariants.{Ended, Stopped}
use Rattle.flex_base.specs.declared.outcome.Stop.TheVariants.{UnknownState}
use Rattle.flex_base.specs.declared.record.TraceItem.TheVariants.{Sent, Heard, Traced, User, Missed}
use Rattle.flex_base.specs.declared.value.ObjId.{ObjId}
use Rattle.flex_base.specs.declared.value.Value.TheVariants as value
use Rattle.avm2_machine.specs.declared.catalog.NativeClass.{NativeClass}
use Rattle.avm2_machine.specs.declared.catalog.NativeClass.TheVariants as native
use Rattle.flex_front.specs.declared.document.Element.{Element}
use Rattle.flex_front.specs.declared.document.Element.TheVariants as element
use Rattle.flex_front.specs.declared.document.Document.{Document}
use Rattle.flex_front.specs.Source.{id_of}
use Rattle.flex_base.specs.declared.event.Arrival.{Arrival}
use Rattle.flex_base.specs.declared.event.UserEvent.{UserEvent}
use Rattle.flex_base.specs.declared.event.UserEvent.TheVariants as event
use Rattle.flex_base.specs.Events.{arrivals, hearing, path_text, phase_number, click}
use Rattle.flex_base.specs.Value.{ref_of, is_object}
use Rattle.flex_base.specs.Story.{Story}
use Rattle.avm2_machine.specs.Names.{class_name}
use Rattle.flexc.specs.World.{Main, Native, MouseEvent, A_text, An_object, Property, Listener, World, Result, Goes, Halts, bind, note, empty_world, activity, take, make, component, property_in, write, add, listen, outer, listeners}

-- a property that holds a text, which is empty at first
abbrev pub text_property : List ℕ → Property
text_property name = record { name = name; content = A_text; value = value.Text [] }

-- the class of an element
abbrev pub element_class : Element → NativeClass
element_class (element.Label id text) = native.Label
element_class (element.Button id _) = native.Button

-- a new object's properties
abbrev pub properties_of : NativeClass → List Property
properties_of native.Application = []
properties_of native.Label = text_property (codes "text") ∷ []
properties_of native.Button = text_property (codes "label") ∷ []

-- an element's id is a property of its document
abbrev pub id_property : Element → Property
id_property e = record { name = id_of e; content = An_object (element_class e); value = value.Null }

-- the number of the next handler, behind an element
abbrev pub next_handler : Element → ℕ → ℕ
next_handler (element.Button id (Some text)) number = suc number
next_handler _ number = number

-- the handler of an element's clicks
abbrev pub handler : ObjId → ℕ → List ℕ → Listener
handler document number text = record { event = click; document = document; number = number; traces = text }

-- the attributes of an element are applied: a handler is registered
abbrev pub apply : ObjId → ℕ → ObjId → Element → World → Result (Unit {0})
apply document number o (element.Label id text) w = write o (codes "text") (value.Text text) w
apply document number o (element.Button id None) w = Goes tt w
apply document number o (element.Button id (Some text)) w = listen o (handler document number text) w

-- an element is made, its id is written, its attributes are applied, and then it is added to its document
abbrev pub build_element : ObjId → ℕ → Element → World → Result ObjId
build_element document number e w =
    bind (make (Native (element_class e)) (class_name (element_class e)) (properties_of (element_class e)) 0 w) (λ o w1.
    bind (write document (id_of e) (value.Ref o) w1) (λ _ w2.
    bind (apply document number o e w2) (λ _ w3.
    bind (add document o w3) (λ _ w4.
    Goes o w4))))

-- the elements in document order, where the next handler has this number
abbrev pub build_all : ObjId → ℕ → List Element → World → Result (Unit {0})
build_all document number [] w = Goes tt w
build_all document number (e ∷ es) w = bind (build_element document number e w) (λ _ w1. build_all document (next_handler e number) es w1)

-- the constructor of a document builds it; both are activities
abbrev pub construct : ObjId → List Element → World → Result (Unit {0})
construct document es w = activity (activity (build_all document 0 es)) w

-- a handler runs
abbrev pub handle : Listener → World → Result (Unit {0})
handle l w = Goes tt (note (Traced l.traces) w)

-- a listener's activity, which hears the event once it has started
abbrev pub hear : Arrival → Listener → World → Result (Unit {0})
hear a l w = activity (λ w1. handle l (note (Heard a.node click (phase_number a.phase)) w1)) w

abbrev pub hear_all : Arrival → List Listener → World → Result (Unit {0})
hear_all a [] w = Goes tt w
hear_all a (l ∷ ls) w = bind (hear a l w) (λ _ w1. hear_all a ls w1)

-- a click arrives at these nodes; the listeners of each are taken on arrival
abbrev pub visit : List Arrival → World → Result (Unit {0})
visit [] w = Goes tt w
visit (a ∷ nodes) w = bind (hear_all a (hearing (λ l. l.event) click a.phase (listeners w a.node)) w) (λ _ w1. visit nodes w1)

-- the event of a click is made, and dispatched along a path
abbrev pub send : ObjId → List Arrival → World → Result (Unit {0})
send target nodes w = bind (take MouseEvent [] 0 w) (λ _ w1. visit nodes (note (Sent target click) w1))

-- what a property holds, if it is an object
abbrev pub held : Option Property → Option ObjId
held None = None
held (Some p) = ref_of p.value

-- the object at the end of a path of names: each is of a property that holds an object
abbrev pub walked : World → Option ObjId → List (List ℕ) → Option ObjId
walked w o [] = o
walked w None (name ∷ path) = None
walked w (Some o) (name ∷ path) = walked w (held (property_in name (component w o))) path

-- the document, and an object that has it as an ancestor, is a component that is shown
abbrev pub shown : World → ObjId → Option ObjId → Option ObjId
shown w document None = None
shown w document (Some o) = if is_object document o || list_any (is_object document) (outer w o) then Some o else None

-- the component that a path of names reaches from the document
abbrev pub reached : World → ObjId → List (List ℕ) → Option ObjId
reached w document path = shown w document (walked w (Some document) path)

-- a click on what a path has reached
abbrev pub clicks : List (List ℕ) → Option ObjId → World → Result (Unit {0})
clicks path None w = Goes tt (note (Missed (path_text path)) w)
clicks path (Some o) w = send o (arrivals o (outer w o)) w

-- what a line of the script does: no element is a text input, and no document has states
abbrev pub does : ObjId → UserEvent → World → Result (Unit {0})
does document (event.Click path line) w = clicks path (reached w document path) (note (User line) w)
does document (event.Write path text line) w = Goes tt (note (Missed (path_text path)) (note (User line) w))
does document (event.State name line) w = Halts (Stopped UnknownState) (note (User line) w)

abbrev pub do_all : ObjId → List UserEvent → World → Result (Unit {0})
do_all document [] w = Goes tt w
do_all document (e ∷ events) w = bind (does document e w) (λ _ w1. do_all document events w1)

-- the main object is made and constructed, and then the script is played
abbrev pub play : Document → List UserEvent → World → Result (Unit {0})
play d events w =
    bind (make Main (codes "Main") (map id_property d.elements) (length d.elements) w) (λ document w1.
    bind (construct document d.elements w1) (λ _ w2.
    do_all document events w2))

abbrev pub told : Result (Unit {0}) → Story
told (Goes _ w) = record { records = w.records; outcome = Ended }
told (Halts o w) = record { records = w.records; outcome = o }

-- what is seen of a document under a script, with so many turns
abbrev pub source_trace : Document → List UserEvent → ℕ → Story
source_trace d events turns = told (play d events (empty_world turns))
