-- What holds in the world of a play of a fine program: values of their types, and objects with the properties of their classes.
use Rattle.std.proofs.Common.{List, [], ℕ, ◌∷◌, ◌≡◌}
use Rattle.std.specs.Prelude.{Bool, None, Option, Some, is_some, option_and_then, option_map, slice_get, true, ℤ}
use Rattle.flex_base.specs.declared.value.ObjId.{ObjId}
use Rattle.flex_base.specs.declared.value.Value.{Value}
use Rattle.flex_base.specs.declared.value.Value.TheVariants as value
use Rattle.component_catalog.specs.declared.class.NativeClass.TheVariants as native
use Rattle.flex_world.specs.Classes.{descends}
use Rattle.flex_world.specs.declared.kind.Class.{Class}
use Rattle.flex_world.specs.declared.kind.StaticType.{StaticType}
use Rattle.flex_world.specs.Objects.{An_array, Field, Instance_of, Kind, Object, Registration, current_state, field_named, is_object_among, object_at}
use Rattle.flex_program.proofs.Facts.{CanRun}
use Rattle.flex_program.proofs.Inverted.{All}
use Rattle.flex_program.specs.Classes.{bases, document_in, document_of, fields_of}
use Rattle.flex_program.specs.Fine.{instance_class}
use Rattle.flex_program.specs.Program.{Document, Override, Program, State}
use Rattle.flex_meaning.specs.Changes.{state_asked, state_named}
use Rattle.flex_meaning.specs.World.{Built, Saved, World}

abbrev pub kind_at : List Object → ObjId → Option Kind
kind_at os o = option_map (λ c. c.kind) (object_at os o)

module _ (p : Program) where
  -- a method of an object that can run, and has one parameter
  pub record Hearer (os : List Object) (o : ObjId) (m : ℕ) : Type 0 where
    pub class : Class
    pub at : kind_at os o ≡ Some (Instance_of class)
    pub run : CanRun p class m
    pub type : StaticType
    pub one : run.method.parameters ≡ type ∷ []

  pub data Valid (os : List Object) : Value → Type 0 where
    An_undefined : Valid os value.Undefined
    A_null : Valid os value.Null
    A_bool : (b : Bool) → Valid os (value.Bool b)
    An_int : (n : ℤ) → Valid os (value.Int n)
    A_text : (t : List ℕ) → Valid os (value.Text t)
    A_ref : (o : ObjId) (k : Kind) → kind_at os o ≡ Some k → Valid os (value.Ref o)
    A_listener : (o : ObjId) (m : ℕ) → Hearer os o m → Valid os (value.Listener o m)

  -- values of a type
  pub data OfType (os : List Object) : Value → StaticType → Type 0 where
    T_int : (n : ℤ) → OfType os (value.Int n) StaticType.Int
    T_bool : (b : Bool) → OfType os (value.Bool b) StaticType.Boolean
    T_text : (t : List ℕ) → OfType os (value.Text t) StaticType.String
    T_no_text : OfType os value.Null StaticType.String
    T_array : (o : ObjId) → kind_at os o ≡ Some An_array → OfType os (value.Ref o) StaticType.Array
    T_no_array : OfType os value.Null StaticType.Array
    T_object : (o : ObjId) (k c : Class) → kind_at os o ≡ Some (Instance_of k) → descends (bases p) k c ≡ true → OfType os (value.Ref o) (StaticType.Object c)
    T_no_object : (c : Class) → OfType os value.Null (StaticType.Object c)
    T_any : (v : Value) → Valid os v → OfType os v StaticType.Any

  -- one value for each type
  abbrev pub AreOf : List Object → List Value → List StaticType → Type 0
  AreOf os [] [] = Unit {0}
  AreOf os (v ∷ vs) (t ∷ ts) = OfType os v t × AreOf os vs ts
  AreOf os [] (t ∷ ts) = ⊥
  AreOf os (v ∷ vs) [] = ⊥

  -- an object of a class, or of one that descends from it
  pub record IsA (os : List Object) (o : ObjId) (c : Class) : Type 0 where
    pub class : Class
    pub at : kind_at os o ≡ Some (Instance_of class)
    pub is : descends (bases p) class c ≡ true

  abbrev pub IsComponent : List Object → ObjId → Type 0
  IsComponent os o = IsA os o (Class.Native native.UIComponent)

  -- the object of a document
  pub record IsDocument (os : List Object) (o : ObjId) (class : Class) (d : Document) : Type 0 where
    pub at : kind_at os o ≡ Some (Instance_of class)
    pub is : document_of p class ≡ Some d

  -- an object is in one of the states of its document
  abbrev pub in_state : Object → Bool
  in_state c = is_some (option_and_then (λ f. state_asked (document_in p c) f.value) (field_named current_state c.fields))

  abbrev pub state_at : List Object → ObjId → Option Bool
  state_at os o = option_map in_state (object_at os o)

  -- the document of an object has a state of this name
  abbrev pub has_state : Object → List ℕ → Bool
  has_state c name = is_some (option_and_then (λ d. state_named name d.states) (document_in p c))

  abbrev pub AllFields : List Object → List Field → Type 0
  AllFields os = All (λ f. OfType os f.value f.type)

  -- what stays of a field when it is written
  abbrev pub shape : Field → StaticType × Bool × Bool
  shape f = (f.type, f.read_only, f.is_slot)

  abbrev pub shape_in : List Field → List ℕ → Option (StaticType × Bool × Bool)
  shape_in fields name = option_map shape (field_named name fields)

  abbrev pub kept_in : List Field → List ℕ → Option StaticType
  kept_in fields name = option_map (λ f. f.type) (field_named name fields)

  abbrev pub FitsKind : Kind → List Field → Type 0
  FitsKind (Instance_of class) fields = (name : List ℕ) → shape_in fields name ≡ shape_in (fields_of p class) name
  FitsKind An_array fields = Unit {0}

  abbrev pub ParentFine : List Object → Option ObjId → Type 0
  ParentFine os None = Unit {0}
  ParentFine os (Some o) = IsComponent os o

  abbrev pub Heard : List Object → Registration → Type 0
  Heard os r = Hearer os r.object r.method

  pub record TypedObject (os : List Object) (c : Object) : Type 0 where
    pub fields : AllFields os c.fields
    pub names : FitsKind c.kind c.fields
    pub elements : All (Valid os) c.elements
    pub parent : ParentFine os c.parent
    pub children : All (IsComponent os) c.children
    pub listeners : All (Heard os) c.listeners
    -- once it has entered its first state it is in one; a name that is kept is one of a state
    pub entered : c.keeping.entered ≡ true → in_state c ≡ true
    pub kept : (name : List ℕ) → c.keeping.kept ≡ Some name → has_state c name ≡ true

  -- an object that is built is of the class of its instance
  pub record BuiltFine (os : List Object) (b : Built) : Type 0 where
    pub class : Class
    pub document : Document
    pub is : IsDocument os b.document class document
    pub part : Class
    pub of : instance_class p class document.root b.instance ≡ Some part
    pub object : IsA os b.object part

  -- what is saved of an override is of the instance that it changes
  pub record SavedFine (os : List Object) (s : Saved) : Type 0 where
    pub class : Class
    pub document : Document
    pub is : IsDocument os s.document class document
    pub state : State
    pub named : state_named s.state document.states ≡ Some state
    pub override : Override
    pub at : slice_get state.overrides s.place ≡ Some override
    pub part : Class
    pub of : instance_class p class document.root override.instance ≡ Some part
    pub object : IsA os s.object part
    pub value : Valid os s.value

  -- there is an object of this number
  abbrev pub IsMade : List Object → ObjId → Type 0
  IsMade os o = is_some (object_at os o) ≡ true

  -- each document is among those whose constructor has begun
  abbrev pub AreRegistered : List Object → List ObjId → Type 0
  AreRegistered os registered = (o : ObjId) (class : Class) (d : Document) → kind_at os o ≡ Some (Instance_of class) → document_of p class ≡ Some d → is_object_among o registered ≡ true

  abbrev pub Typed : World → Type 0
  Typed w =
      All (TypedObject w.objects) w.objects
      × All (BuiltFine w.objects) w.built
      × All (SavedFine w.objects) w.saved
      × All (IsMade w.objects) w.registered
      × All (IsMade w.objects) w.begun
      × AreRegistered w.objects w.registered

  -- objects stay, with their kinds, and documents stay in states
  pub record Later (os os1 : List Object) : Type 0 where
    pub kinds : (o : ObjId) (k : Kind) → kind_at os o ≡ Some k → kind_at os1 o ≡ Some k
    pub states : (o : ObjId) → state_at os o ≡ Some true → state_at os1 o ≡ Some true
