-- What a play changes.
use Rattle.std.specs.List.{find, list_any}
use Rattle.std.specs.Prelude.{Bool, List, Option, Some, [], not, option_map, suc, zero, ℕ, ◌&&◌, ◌++◌, ◌==◌, ◌∷◌}
use Rattle.flex_base.specs.Value.{is_object}
use Rattle.flex_base.specs.declared.record.TraceItem.{TraceItem}
use Rattle.flex_base.specs.declared.value.ObjId.{ObjId}
use Rattle.flex_base.specs.declared.value.Value.{Value}
use Rattle.flex_world.specs.Events.{with_registration, without_registration}
use Rattle.flex_world.specs.Objects.{Delivery, Keeping, Object, Registration, changed_object, is_object_among, with_value}

-- an instance of a document that is built, by its number, and the object that it is
pub record Built : Type 0 where
  pub document : ObjId
  pub instance : ℕ
  pub object : ObjId

-- an override of a document that is applied, by its state and its place in the state's list: to which object, and the value that it found
pub record Saved : Type 0 where
  pub document : ObjId
  pub state : List ℕ
  pub place : ℕ
  pub object : ObjId
  pub value : Value

pub record World : Type 0 where
  -- the objects, events and arrays in the order in which they were made: the first has the number 1
  pub objects : List Object
  -- the instances that are built, of all documents
  pub built : List Built
  -- the values that overrides found, of all documents
  pub saved : List Saved
  -- the documents whose constructor has begun
  pub registered : List ObjId
  -- those of them whose building has come to its first state
  pub begun : List ObjId
  -- the cells that were made
  pub cells : ℕ
  -- how many activities are open
  pub level : ℕ
  -- how many turns are left
  pub turns : ℕ
  pub records : List TraceItem

-- the world before a play of so many turns
abbrev pub empty_world : ℕ → World
empty_world turns = record { objects = []; built = []; saved = []; registered = []; begun = []; cells = 0; level = 0; turns = turns; records = [] }

abbrev pub note : TraceItem → World → World
note item w = record w { records = w.records ++ item ∷ [] }

-- the world with one of its objects changed
abbrev pub change_object : ObjId → (Object → Object) → World → World
change_object o f w = record w { objects = changed_object f o w.objects }

abbrev pub change_keeping : ObjId → (Keeping → Keeping) → World → World
change_keeping o f w = change_object o (λ c. record c { keeping = f c.keeping }) w

abbrev pub change_delivery : ObjId → (Delivery → Delivery) → World → World
change_delivery o f w = change_object o (λ c. record c { delivery = f c.delivery }) w

abbrev pub set_field : ObjId → List ℕ → Value → World → World
set_field o name v w = change_object o (λ c. record c { fields = with_value name v c.fields }) w

abbrev pub listen : ObjId → Registration → World → World
listen node r w = change_object node (λ c. record c { listeners = with_registration r c.listeners }) w

abbrev pub unlisten : ObjId → List ℕ → ObjId → ℕ → Bool → World → World
unlisten node kind o m capture w = change_object node (λ c. record c { listeners = without_registration kind o m capture c.listeners }) w

abbrev pub is_of_instance : ObjId → ℕ → Built → Bool
is_of_instance document instance b = is_object b.document document && (b.instance == instance)

-- the object that an instance of a document is, where it is built; the document itself, the instance 0, always counts as built
abbrev pub built_object : List Built → ObjId → ℕ → Option ObjId
built_object built document zero = Some document
built_object built document (suc n) = option_map (λ b. b.object) (find (is_of_instance document (suc n)) built)

abbrev pub has_built : ObjId → ℕ → ObjId → World → World
has_built document instance o w = record w { built = record { document = document; instance = instance; object = o } ∷ w.built }

-- nothing is kept yet for an object of this number
abbrev pub is_fresh : ObjId → World → Bool
is_fresh o w =
    not (list_any (λ b. is_object b.document o) w.built)
    && not (list_any (λ s. is_object s.document o) w.saved)
    && not (is_object_among o w.registered)
    && not (is_object_among o w.begun)
