-- From the world of a source to the state of the machine, operation by operation.
use Rattle.std.proofs.Common.{◌≡◌, ℕ, zero, suc, ◌+◌, List, [], ◌∷◌, ◌++◌, length, Option, None, Some, Bool, true, false, refl, sym, ap, ◌∙◌}
use Rattle.std.specs.Prelude.{map, option_map, if◌then◌else◌, ◌||◌}
use Rattle.std.specs.List.{filter, list_any}
use Rattle.std.specs.Str.{bytes_eq}
use Rattle.std.proofs.lemmas.List.{map-append, length-map}
use Rattle.std.proofs.lemmas.Option.{slice_get-map}
use Rattle.flex_base.specs.declared.value.ObjId.{ObjId}
use Rattle.flex_base.specs.declared.value.Value.{Value}
use Rattle.flex_base.specs.declared.event.Phase.{Phase}
use Rattle.flex_base.specs.declared.event.Phase.TheVariants.{Capture, Target, Bubble}
use Rattle.avm2_machine.specs.declared.frame.Frame.{Frame}
use Rattle.avm2_machine.specs.declared.machine.Load.TheVariants as load
use Rattle.avm2_machine.specs.declared.machine.Machine.{Machine}
use Rattle.avm2_machine.specs.declared.stage.Class.{Class}
use Rattle.avm2_machine.specs.declared.stage.Class.TheVariants as class
use Rattle.avm2_machine.specs.declared.stage.PropertyType.{PropertyType}
use Rattle.avm2_machine.specs.declared.stage.PropertyType.TheVariants as type
use Rattle.avm2_machine.specs.declared.stage.Registration.{Registration}
use Rattle.avm2_machine.specs.declared.stage.Slot.{Slot}
use Rattle.avm2_machine.specs.declared.stage.Object.{Object}
use Rattle.avm2_machine.specs.declared.stage.Stage.{Stage}
use Rattle.flex_base.specs.Events.{outward, ancestors, hearing}
use Rattle.flex_base.specs.Value.{is_object}
use Rattle.avm2_machine.specs.Machine.{shown as stage_shown, reached as stage_reached}
use Rattle.avm2_machine.specs.Stage.{object_at, property, held as slot_held, walked as stage_walked, slot_of as stage_slot_of, slot_named, next_object, with_object, with_value as with_slot_value, with_property, with_last as with_stage_last, with_parent as with_stage_parent, with_child as with_stage_child, with_listener as with_stage_listener, parent as stage_parent, parent_of as stage_parent_of, outer as stage_outer, listeners as stage_listeners, listeners_of as stage_listeners_of}
use Rattle.script_player.specs.Playing.{Config}
use Rattle.flexc.specs.Emitted.{handler_number}
use Rattle.flexc.specs.Meaning.{held, walked, shown, reached}
use Rattle.flex_base.specs.Lists.{entry, changed_at}
use Rattle.flexc.specs.World.{Kind, Main, Native, MouseEvent, Content, A_text, An_object, Property, Listener, Component, World, new_component, next_number, with_component, component, property_named, property_in, with_value, stored, with_last, with_parent, with_child, with_listener, parent, parent_of, outer, listeners, listeners_of}

abbrev pub class_of : Kind → Class
class_of Main = class.File 0
class_of (Native c) = class.Native c
class_of MouseEvent = class.MouseEvent

-- the type of what a property holds
abbrev pub type_of : Content → PropertyType
type_of A_text = type.Text
type_of (An_object c) = type.Instance (class.Native c)

abbrev pub slot_of : Property → Slot
slot_of p = record { name = p.name; kind = type_of p.content; value = p.value }

-- a handler is a method of the document
abbrev pub registration_of : Listener → Registration
registration_of l = record { event = l.event; object = l.document; method = handler_number l.number }

abbrev pub object_of : Component → Object
object_of c =
    record { class = class_of c.kind; slots = map slot_of c.properties; children = c.children; parent = c.parent; listeners = map registration_of c.listeners }

abbrev pub stage_of : World → Stage
stage_of w = record { objects = map object_of w.objects; cells = w.cells }

-- the document's number
abbrev pub one : ObjId
one = record { 0 = 1 }

-- the machine with these frames in a world, in which the document was made
abbrev pub machine_of : List Frame → World → Machine
machine_of frames w =
    record {
      frames = frames;
      load = load.Done;
      made = true ∷ [];
      main = Some one;
      stage = stage_of w;
      level = w.level;
      turns = w.turns;
      outcome = None;
    }

abbrev pub at : List Frame → World → Config
at frames w = record { machine = machine_of frames w; records = w.records }

pub next_number_is : (w : World) → next_object (stage_of w) ≡ next_number w
next_number_is w = ap (λ n. record { 0 = suc n }) (length-map w.objects object_of)

pub object_is : (w : World) (o : ObjId) → object_at (stage_of w) o ≡ option_map object_of (component w o)
object_is w o = by o.0
  where
    by : (n : ℕ) → object_at (stage_of w) (record { 0 = n }) ≡ option_map object_of (entry w.objects n)
    by zero = refl
    by (suc n) = slice_get-map object_of w.objects n

pub with_object_is : (kind : Kind) (properties : List Property) (declared : ℕ) (w : World)
    → with_object (class_of kind) (map slot_of properties) declared (stage_of w) ≡ stage_of (with_component (new_component kind properties) (16 + declared) w)
with_object_is kind properties declared w =
    ap (λ os. record { objects = os; cells = w.cells + (16 + declared) }) (sym (map-append object_of w.objects (new_component kind properties ∷ [])))

pub slot_is : (name : List ℕ) (ps : List Property) → slot_named name (map slot_of ps) ≡ option_map slot_of (property_named name ps)
slot_is name [] = refl
slot_is name (p ∷ ps) = by (slot_is name ps) (bytes_eq p.name name)
  where
    by : slot_named name (map slot_of ps) ≡ option_map slot_of (property_named name ps) → (b : Bool) → (if b then Some (slot_of p) else slot_named name (map slot_of ps)) ≡ option_map slot_of (if b then Some p else property_named name ps)
    by others true = refl
    by others false = others

values_are : (name : List ℕ) (v : Value) (ps : List Property) → with_slot_value name v (map slot_of ps) ≡ map slot_of (with_value name v ps)
values_are name v [] = refl
values_are name v (p ∷ ps) = by (values_are name v ps) (bytes_eq p.name name)
  where
    by : with_slot_value name v (map slot_of ps) ≡ map slot_of (with_value name v ps) → (b : Bool) → (if b then record (slot_of p) { value = v } ∷ map slot_of ps else slot_of p ∷ with_slot_value name v (map slot_of ps)) ≡ map slot_of (if b then record p { value = v } ∷ ps else p ∷ with_value name v ps)
    by others true = refl
    by others false = ap (λ l. slot_of p ∷ l) others

changes_are : (f : Object → Object) (g : Component → Component) → ((c : Component) → f (object_of c) ≡ object_of (g c)) → (cs : List Component) (n : ℕ) → changed_at f (map object_of cs) n ≡ map object_of (changed_at g cs n)
changes_are f g e [] n = refl
changes_are f g e (c ∷ cs) zero = ap (λ o. o ∷ map object_of cs) (e c)
changes_are f g e (c ∷ cs) (suc n) = ap (λ l. object_of c ∷ l) (changes_are f g e cs n)

pub stored_is : (n : ℕ) (name : List ℕ) (v : Value) (w : World) → with_property (record { 0 = n }) name v (stage_of w) ≡ stage_of (stored (record { 0 = n }) name v w)
stored_is zero name v w = refl
stored_is (suc n) name v w =
    ap (λ os. record { objects = os; cells = w.cells })
    (changes_are (λ object. record object { slots = with_slot_value name v object.slots }) (λ c. record c { properties = with_value name v c.properties })
    (λ c. ap (λ l. record (object_of c) { slots = l }) (values_are name v c.properties)) w.objects n)

with_last_is : (n : ℕ) (child : ObjId) (w : World) → with_stage_last (record { 0 = n }) child (stage_of w) ≡ stage_of (with_last (record { 0 = n }) child w)
with_last_is zero child w = refl
with_last_is (suc n) child w =
    ap (λ os. record { objects = os; cells = w.cells })
    (changes_are (λ object. record object { children = object.children ++ child ∷ [] }) (λ c. record c { children = c.children ++ child ∷ [] }) (λ c. refl) w.objects n)

with_parent_is : (parent : ObjId) (n : ℕ) (w : World) → with_stage_parent parent (record { 0 = n }) (stage_of w) ≡ stage_of (with_parent parent (record { 0 = n }) w)
with_parent_is parent zero w = refl
with_parent_is parent (suc n) w =
    ap (λ os. record { objects = os; cells = w.cells })
    (changes_are (λ object. record object { parent = Some parent }) (λ c. record c { parent = Some parent }) (λ c. refl) w.objects n)

pub with_child_is : (n : ℕ) (child : ObjId) (w : World) → with_stage_child (record { 0 = n }) child (stage_of w) ≡ stage_of (with_child (record { 0 = n }) child w)
with_child_is n child w = ap (with_stage_parent (record { 0 = n }) child) (with_last_is n child w) ∙ with_parent_is (record { 0 = n }) child.0 (with_last (record { 0 = n }) child w)

pub with_listener_is : (n : ℕ) (l : Listener) (w : World) → with_stage_listener (record { 0 = n }) (registration_of l) (stage_of w) ≡ stage_of (with_listener (record { 0 = n }) l w)
with_listener_is zero l w = refl
with_listener_is (suc n) l w =
    ap (λ os. record { objects = os; cells = w.cells })
    (changes_are (λ object. record object { listeners = object.listeners ++ registration_of l ∷ [] }) (λ c. record c { listeners = c.listeners ++ l ∷ [] })
    (λ c. ap (λ ls. record (object_of c) { listeners = ls }) (sym (map-append registration_of c.listeners (l ∷ [])))) w.objects n)

-- the property of an object
pub property_is : (name : List ℕ) (w : World) (o : ObjId) → property (stage_of w) o name ≡ option_map slot_of (property_in name (component w o))
property_is name w o = ap (stage_slot_of name) (object_is w o) ∙ by (component w o)
  where
    by : (c : Option Component) → stage_slot_of name (option_map object_of c) ≡ option_map slot_of (property_in name c)
    by None = refl
    by (Some c) = slot_is name c.properties

-- parents, and so ancestors
parents_are : (w : World) (o : ObjId) → stage_parent (stage_of w) o ≡ parent w o
parents_are w o = ap stage_parent_of (object_is w o) ∙ by (component w o)
  where
    by : (c : Option Component) → stage_parent_of (option_map object_of c) ≡ parent_of c
    by None = refl
    by (Some c) = refl

outward_alike : (p q : ObjId → Option ObjId) → ((o : ObjId) → p o ≡ q o) → (n : ℕ) (o : Option ObjId) → outward p n o ≡ outward q n o
outward_alike p q e zero o = refl
outward_alike p q e (suc n) None = refl
outward_alike p q e (suc n) (Some o) = ap (λ l. o ∷ l) (ap (outward p n) (e o) ∙ outward_alike p q e n (q o))

pub outer_is : (w : World) (o : ObjId) → stage_outer (stage_of w) o ≡ outer w o
outer_is w o =
    ap (λ n. ancestors (stage_parent (stage_of w)) n o) (length-map w.objects object_of)
    ∙ ap (outward (stage_parent (stage_of w)) (length w.objects)) (parents_are w o)
    ∙ outward_alike (stage_parent (stage_of w)) (parent w) (parents_are w) (length w.objects) (parent w o)

-- the listeners that hear an event
filter_map_is : {A B : Type 0} (f : A → B) (p : B → Bool) (xs : List A) → filter p (map f xs) ≡ map f (filter (λ x. p (f x)) xs)
filter_map_is f p [] = refl
filter_map_is f p (x ∷ xs) = by (filter_map_is f p xs) (p (f x))
  where
    by : filter p (map f xs) ≡ map f (filter (λ y. p (f y)) xs) → (t : Bool)
        → (if t then f x ∷ filter p (map f xs) else filter p (map f xs)) ≡ map f (if t then x ∷ filter (λ y. p (f y)) xs else filter (λ y. p (f y)) xs)
    by others true = ap (λ l. f x ∷ l) others
    by others false = others

hearing_is : (kind : List ℕ) (phase : Phase) (ls : List Listener)
    → hearing (λ r. r.event) kind phase (map registration_of ls) ≡ map registration_of (hearing (λ l. l.event) kind phase ls)
hearing_is kind Capture ls = refl
hearing_is kind Target ls = filter_map_is registration_of (λ r. bytes_eq r.event kind) ls
hearing_is kind Bubble ls = filter_map_is registration_of (λ r. bytes_eq r.event kind) ls

pub heard_is : (kind : List ℕ) (phase : Phase) (w : World) (o : ObjId)
    → hearing (λ r. r.event) kind phase (stage_listeners (stage_of w) o) ≡ map registration_of (hearing (λ l. l.event) kind phase (listeners w o))
heard_is kind phase w o = ap (hearing (λ r. r.event) kind phase) (ap stage_listeners_of (object_is w o) ∙ by (component w o)) ∙ hearing_is kind phase (listeners w o)
  where
    by : (c : Option Component) → stage_listeners_of (option_map object_of c) ≡ map registration_of (listeners_of c)
    by None = refl
    by (Some c) = refl

-- what a path reaches
held_is : (p : Option Property) → slot_held (option_map slot_of p) ≡ held p
held_is None = refl
held_is (Some p) = refl

walked_is : (w : World) (o : Option ObjId) (path : List (List ℕ)) → stage_walked (stage_of w) o path ≡ walked w o path
walked_is w o [] = refl
walked_is w None (name ∷ path) = refl
walked_is w (Some o) (name ∷ path) =
    ap (λ p. stage_walked (stage_of w) (slot_held p) path) (property_is name w o)
    ∙ ap (λ h. stage_walked (stage_of w) h path) (held_is (property_in name (component w o)))
    ∙ walked_is w (held (property_in name (component w o))) path

pub reached_is : (w : World) (document : ObjId) (path : List (List ℕ)) → stage_reached (stage_of w) (Some document) path ≡ reached w document path
reached_is w document path = ap (stage_shown (stage_of w) document) (walked_is w (Some document) path) ∙ by (walked w (Some document) path)
  where
    by : (o : Option ObjId) → stage_shown (stage_of w) document o ≡ shown w document o
    by None = refl
    by (Some o) = ap (λ l. if is_object document o || list_any (is_object document) l then Some o else None) (outer_is w o)
