-- The stage, the heap and the machine that stand for a world of the source.
use Rattle.std.specs.List.{filter, find, flat_map}
use Rattle.std.specs.Prelude.{List, None, Option, Some, [], false, if◌then◌else◌, map, not, option_map, suc, true, ℕ, ◌++◌, ◌∷◌}
use Rattle.flex_base.specs.declared.event.UserEvent.{UserEvent}
use Rattle.flex_base.specs.declared.record.TraceItem.{TraceItem}
use Rattle.flex_base.specs.declared.value.ObjId.{ObjId}
use Rattle.flex_base.specs.declared.value.Value.TheVariants as value
use Rattle.flex_base.specs.declared.value.Value.{Value}
use Rattle.component_catalog.specs.declared.class.NativeClass.{NativeClass}
use Rattle.flex_world.specs.declared.kind.Class.TheVariants as Class
use Rattle.flex_world.specs.declared.kind.StaticType.TheVariants as StaticType
use Rattle.flex_world.specs.Objects.{An_array, Field, Instance_of, Kind, Object, is_number_among, is_object_among, object_at, ref_or_null}
use Rattle.flex_program.specs.Classes.{document_in, document_of}
use Rattle.flex_program.specs.Instances.{parts_of}
use Rattle.flex_program.specs.Program as source
use Rattle.flex_program.specs.Program.{Document, Override, Part, State, Text}
use Rattle.flex_meaning.specs.Expressions.{Env}
use Rattle.flex_meaning.specs.States.{saved_at}
use Rattle.flex_meaning.specs.World.{Built, Saved, World, is_of_instance}
use Rattle.program_code.specs.Names.{Labels, registered_chains}
use Rattle.avm2_program.specs.declared.file.Program as FileProgram
use Rattle.watch_table.specs.declared.watch.Watched.{Watched}
use Rattle.flex_objects.specs.Entities.{EnabledBinding, Entity, Inside, RegisteredState, listener}
use Rattle.ui_runtime.specs.Stage.{Stage}
use Rattle.avm2_meaning.specs.Classes.{native_of}
use Rattle.avm2_meaning.specs.declared.frame.Frame.{Frame}
use Rattle.avm2_meaning.specs.declared.heap.Heap.{Heap}
use Rattle.avm2_meaning.specs.declared.heap.MadeClass.{MadeClass}
use Rattle.avm2_meaning.specs.declared.heap.Statics.{Statics}
use Rattle.avm2_meaning.specs.declared.heap.ObjectPlace.{ObjectPlace}
use Rattle.avm2_meaning.specs.Machine.{Load, Machine}
use Rattle.avm2_meaning.specs.declared.operand.Operand.{Operand}
use Rattle.avm2_meaning.specs.declared.operand.Operand.TheVariants.{Plain}
use Rattle.avm2_meaning.specs.Trace.{Playing}

-- both programs, and what doesn't change once the classes of the file are made
pub record Image : Type 0 where
  pub source : source.Program
  pub program : FileProgram.Program
  -- the full dotted name of the main class
  pub name : Text
  pub labels : Labels
  pub written : List ObjectPlace
  pub classes : List (Option MadeClass)
  pub scripts : List Statics

-- a hidden slot, which may hold anything; no change of it starts a binding
abbrev pub hidden_field : Text → Value → Field
hidden_field key v = record {
  name = key;
  text = key;
  type = StaticType.Any;
  public = false;
  bindable = false;
  read_only = false;
  is_slot = true;
  value = v;
}

abbrev pub saved_object : Option Saved → Value
saved_object None = value.Null
saved_object (Some s) = value.Ref s.object

abbrev pub saved_value : Option Saved → Value
saved_value None = value.Null
saved_value (Some s) = s.value

-- the instances but for the root, whose object is the document itself
abbrev pub behind_root : List Part → List Part
behind_root [] = []
behind_root (root ∷ parts) = parts

-- what of the source stands beside its objects
pub record Beside : Type 0 where
  pub built : List Built
  pub saved : List Saved
  pub registered : List ObjId
  pub begun : List ObjId

abbrev pub beside : World → Beside
beside w = record { built = w.built; saved = w.saved; registered = w.registered; begun = w.begun }

abbrev pub nothing_beside : Beside
nothing_beside = record { built = []; saved = []; registered = []; begun = [] }

-- of a document
module _ (l : Labels) (b : Beside) (o : ObjId) where
  abbrev pub instance_slot : Part → Field
  instance_slot part = hidden_field (l.instance_key part.number) (ref_or_null (option_map (λ x. x.object) (find (is_of_instance o part.number) b.built)))

  -- two for each override of a state: the object that it was applied to, and the value that it found
  abbrev pub override_slots : Text → ℕ → ℕ → List Override → List Field
  override_slots name state place [] = []
  override_slots name state place (override ∷ overrides) =
      hidden_field (l.object_key state place) (saved_object (saved_at o name place b.saved))
      ∷ hidden_field (l.value_key state place) (saved_value (saved_at o name place b.saved))
      ∷ override_slots name state (suc place) overrides

  abbrev pub state_slots : ℕ → List State → List Field
  state_slots state [] = []
  state_slots state (s ∷ states) = override_slots s.name state 0 s.overrides ++ state_slots (suc state) states

  -- one for each instance in document order, and then those of the states
  abbrev pub hidden_slots : Document → List Field
  hidden_slots d = map instance_slot (behind_root (parts_of d.root)) ++ state_slots 0 d.states

-- class: of the document, by its number
module _ (l : Labels) (class : ℕ) (o : ObjId) where
  -- what is registered for its states, from a place on
  abbrev pub registered_from : ℕ → List State → List RegisteredState
  registered_from n [] = []
  registered_from n (s ∷ states) =
      record { name = s.name; leave = listener o (l.leave_of class n); enter = listener o (l.enter_of class n) } ∷ registered_from (suc n) states

  -- those of its bindings that are enabled, from a number on
  abbrev pub enabled_from : List ℕ → ℕ → List source.Binding → List EnabledBinding
  enabled_from enabled n [] = []
  enabled_from enabled n (b ∷ bindings) =
      (if is_number_among n enabled then record { number = n; pair = b.counterpart; method = listener o (l.binding_run_of class n) } ∷ [] else [])
      ++ enabled_from enabled (suc n) bindings

-- the chains that are watched for these
abbrev pub watched_from : Labels → ObjId → List ℕ → ℕ → List source.Binding → List Watched
watched_from l o enabled n [] = []
watched_from l o enabled n (b ∷ bindings) =
    (if is_number_among n enabled then map (λ chain. record { document = o; binding = n; chain = chain }) (registered_chains l b) else [])
    ++ watched_from l o enabled (suc n) bindings

abbrev pub no_document : Option NativeClass → Inside
no_document native = record { native = native; hidden = []; begun = false; states = []; bindings = [] }

-- what stands beside an object that has enabled these bindings, if it is a document
abbrev pub document_inside : Labels → Beside → ObjId → ℕ → List ℕ → Option NativeClass → Option Document → Inside
document_inside l b o class enabled native None = no_document native
document_inside l b o class enabled native (Some d) = record {
  native = native;
  hidden = hidden_slots l b o d;
  begun = is_object_among o b.begun;
  states = if is_object_among o b.registered then registered_from l class o 0 d.states else [];
  bindings = enabled_from l class o enabled 0 d.bindings;
}

module _ (q : Image) where
  abbrev pub inside_of : Beside → ObjId → Kind → List ℕ → Inside
  inside_of b o An_array enabled = no_document None
  inside_of b o (Instance_of (Class.Native class)) enabled = no_document (Some class)
  inside_of b o (Instance_of (Class.File k)) enabled =
      document_inside q.labels b o k enabled (native_of q.program (Class.File k)) (document_of q.source (Class.File k))

  abbrev pub entity_of : Beside → ObjId → Object → Entity
  entity_of b o c = record { object = c; inside = inside_of b o c.kind c.keeping.enabled }

  -- what stands for objects, the first of which has this number
  abbrev pub entities_of : Beside → ℕ → List Object → List Entity
  entities_of b n [] = []
  entities_of b n (c ∷ objects) = entity_of b (record { 0 = n }) c ∷ entities_of b (suc n) objects

  abbrev pub bindings_of : Option Document → List source.Binding
  bindings_of None = []
  bindings_of (Some d) = d.bindings

  -- the chains that an object watches, if it is a document that has enabled bindings
  abbrev pub watched_by : ObjId → Option Object → List Watched
  watched_by o None = []
  watched_by o (Some c) = watched_from q.labels o c.keeping.enabled 0 (bindings_of (document_in q.source c))

  abbrev pub numbers_from : ℕ → List Object → List ObjId
  numbers_from n [] = []
  numbers_from n (c ∷ objects) = record { 0 = n } ∷ numbers_from (suc n) objects

  -- all objects, those in an order first
  abbrev pub all_in : List ObjId → List Object → List ObjId
  all_in order objects = order ++ filter (λ o. not (is_object_among o order)) (numbers_from 1 objects)

  -- document by document, in the order in which they enabled their bindings
  abbrev pub watched_of : List ObjId → List Object → List Watched
  watched_of order objects = flat_map (λ o. watched_by o (object_at objects o)) (all_in order objects)

  -- the world doesn't tell the order in which documents enabled their bindings
  abbrev pub stage_of : List ObjId → World → Stage
  stage_of order w = record { entities = entities_of (beside w) 1 w.objects; watched = watched_of order w.objects; cells = w.cells }

  abbrev pub heap_of : List ObjId → World → Heap
  heap_of order w = record { stage = stage_of order w; written = q.written; classes = q.classes; scripts = q.scripts }

-- what of a play doesn't change while an activity runs
pub record Setting : Type 0 where
  pub image : Image
  -- the classes whose initialisers weren't run
  pub uninitialised : List ℕ
  pub load : Load
  pub main : Option ObjId
  pub events : List UserEvent

module _ (t : Setting) where
  -- the machine between two moves of an activity, with these frames
  abbrev pub machine_of : List Frame → List ObjId → World → Machine
  machine_of frames order w = record {
    frames = frames;
    heap = heap_of t.image order w;
    level = w.level;
    turns = w.turns;
    uninitialised = t.uninitialised;
    load = t.load;
    main = t.main;
    outcome = None;
  }

  abbrev pub playing : Machine → List TraceItem → Playing
  playing m records = record { machine = m; records = records; events = t.events }

  abbrev pub playing_of : List Frame → List ObjId → World → Playing
  playing_of frames order w = playing (machine_of frames order w) w.records

-- the locals of a body: its object, its variables, and these
abbrev pub locals_of : Env → List Operand → List Operand
locals_of env rest = Plain (value.Ref env.this) ∷ map Plain env.locals ++ rest
