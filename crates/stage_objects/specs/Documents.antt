-- What documents keep of their bindings and states.
use Rattle.std.specs.List.{find}
use Rattle.std.specs.Prelude.{Bool, List, None, Option, Some, [], false, is_some, not, option_and_then, option_map, slice_get, true, ℕ, ◌++◌, ◌==◌, ◌||◌, ◌∷◌}
use Rattle.std.specs.Str.{bytes_eq}
use Rattle.flex_base.specs.Value.{same}
use Rattle.flex_base.specs.declared.value.ObjId.{ObjId}
use Rattle.flex_base.specs.declared.value.Value.{Value}
use Rattle.flex_base.specs.declared.value.Value.TheVariants as value
use Rattle.flex_world.specs.Making.{keeps_nothing}
use Rattle.flex_world.specs.Objects.{Keeping, Object, current_state, property}
use Rattle.flex_objects.specs.Entities.{EnabledBinding, Entity, Inside, RegisteredState, with_enabled}
use Rattle.stage_objects.specs.Entities.{change_in, entity_in, object_in, with_inside, with_object}

abbrev pub keeping_of : Option Entity → Keeping
keeping_of None = keeps_nothing
keeping_of (Some e) = e.object.keeping

abbrev pub keeping_in : ObjId → List Entity → Keeping
keeping_in d entities = keeping_of (entity_in d entities)

abbrev pub with_keeping : (Keeping → Keeping) → Object → Object
with_keeping f c = record c { keeping = f c.keeping }

-- the entities, of which a document keeps something else
abbrev pub keeps_in : (Keeping → Keeping) → ObjId → List Entity → List Entity
keeps_in f d entities = change_in d (with_keeping f) entities

abbrev pub with_binding : EnabledBinding → Inside → Inside
with_binding b i = record i { bindings = i.bindings ++ b ∷ [] }

-- a binding is enabled
abbrev pub enabling : EnabledBinding → Entity → Entity
enabling b e = with_inside (with_binding b) (with_object (with_keeping (with_enabled b.number)) e)

-- the binding of a number, among those that a document enabled
abbrev pub binding_numbered : ℕ → List EnabledBinding → Option EnabledBinding
binding_numbered n bindings = find (λ (b : EnabledBinding). b.number == n) bindings

abbrev pub bindings_of : Option Entity → List EnabledBinding
bindings_of None = []
bindings_of (Some e) = e.inside.bindings

abbrev pub binding_in : ObjId → ℕ → List Entity → Option EnabledBinding
binding_in d n entities = binding_numbered n (bindings_of (entity_in d entities))

abbrev pub with_state : RegisteredState → Inside → Inside
with_state state i = record i { states = i.states ++ state ∷ [] }

abbrev pub states_of : Option Entity → List RegisteredState
states_of None = []
states_of (Some e) = e.inside.states

abbrev pub states_in : ObjId → List Entity → List RegisteredState
states_in d entities = states_of (entity_in d entities)

-- the state of this name, among those that a document registered
abbrev pub state_named : List ℕ → List RegisteredState → Option RegisteredState
state_named name states = find (λ (state : RegisteredState). bytes_eq state.name name) states

abbrev pub state_in : ObjId → List ℕ → List Entity → Option RegisteredState
state_in d name entities = state_named name (states_in d entities)

abbrev pub has_state_in : ObjId → List ℕ → List Entity → Bool
has_state_in d name entities = is_some (state_in d name entities)

abbrev pub name_of : RegisteredState → List ℕ
name_of state = state.name

-- the first state, if there is one
abbrev pub first_state_in : ObjId → List Entity → Option (List ℕ)
first_state_in d entities = option_map name_of (slice_get (states_in d entities) 0)

abbrev pub is_text : List ℕ → Option Value → Bool
is_text text None = false
is_text text (Some v) = same v (value.Text text)

-- whether a document is in the state of this name
abbrev pub is_current_in : ObjId → List ℕ → List Entity → Bool
is_current_in d name entities = is_text name (option_and_then (λ c. property c current_state) (object_in d entities))

-- a name that is asked for is kept for later
abbrev pub waits : Keeping → Bool
waits k = k.running || not k.entered

-- a document has begun to enter its first state
abbrev pub starts : Inside → Inside
starts i = record i { begun = true }

abbrev pub kept_of : Option Entity → Option (List ℕ)
kept_of e = (keeping_of e).kept
