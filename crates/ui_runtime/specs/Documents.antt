-- What documents keep of their bindings and states.
use Rattle.std.specs.List.{fold}
use Rattle.std.specs.Prelude.{Bool, Err, List, None, Ok, Option, Result, Some, false, if◌then◌else◌, not, ℕ}
use Rattle.flex_base.specs.declared.outcome.Stop.{Stop}
use Rattle.flex_base.specs.declared.outcome.Stop.TheVariants as stop
use Rattle.flex_base.specs.declared.value.ObjId.{ObjId}
use Rattle.flex_world.specs.Objects.{Keeping, is_number_among}
use Rattle.flex_objects.specs.Entities.{EnabledBinding, Entity, RegisteredState, begun, ended, with_kept, with_open, without_open}
use Rattle.stage_objects.specs.Documents.{binding_in, enabling, first_state_in, has_state_in, is_current_in, keeping_in, kept_of, starts, state_in, states_in, waits, with_keeping, with_state}
use Rattle.watch_table.specs.Affected.{with_chain}
use Rattle.ui_runtime.specs.Stage.{Stage, change, change_entity, change_inside, entity_at}
use Rattle.ui_runtime.specs.declared.states.Change.{Change}
use Rattle.ui_runtime.specs.declared.states.Change.TheVariants.{Begin, Kept, Nothing}

abbrev pub keeping_at : ObjId → Stage → Keeping
keeping_at d s = keeping_in d s.entities

abbrev pub keeps : (Keeping → Keeping) → ObjId → Stage → Stage
keeps f d s = change d (with_keeping f) s

-- the chains of a binding are watched
abbrev pub watching : ObjId → ℕ → List (List (List ℕ)) → Stage → Stage
watching d n chains s = record s { watched = fold (λ ws chain. with_chain d n chain ws) s.watched chains }

-- a binding is enabled, and its chains are watched
abbrev pub binds : ObjId → EnabledBinding → List (List (List ℕ)) → Stage → Stage
binds d b chains s = change_entity d (enabling b) (watching d b.number chains s)

-- the binding of a number, as a document enabled it
abbrev pub binding_at : ObjId → ℕ → Stage → Option EnabledBinding
binding_at d n s = binding_in d n s.entities

abbrev pub is_enabled : ObjId → ℕ → Stage → Bool
is_enabled d n s = is_number_among n (keeping_at d s).enabled

-- a run of a binding is open
abbrev pub is_open : ObjId → ℕ → Stage → Bool
is_open d n s = is_number_among n (keeping_at d s).open_bindings

abbrev pub opens : ObjId → ℕ → Stage → Stage
opens d n s = keeps (with_open n) d s

abbrev pub closes : ObjId → ℕ → Stage → Stage
closes d n s = keeps (without_open n) d s

-- a document registers its next state
abbrev pub registers : ObjId → RegisteredState → Stage → Stage
registers d state s = change_inside d (with_state state) s

abbrev pub states_at : ObjId → Stage → List RegisteredState
states_at d s = states_in d s.entities

-- the state of a document with this name
abbrev pub state_at : ObjId → List ℕ → Stage → Option RegisteredState
state_at d name s = state_in d name s.entities

abbrev pub has_state : ObjId → List ℕ → Stage → Bool
has_state d name s = has_state_in d name s.entities

abbrev pub is_current : ObjId → List ℕ → Stage → Bool
is_current d name s = is_current_in d name s.entities

-- a state is asked for, by its name
abbrev pub requests : ObjId → List ℕ → Stage → Result (Change × Stage) Stop
requests d name s =
    if not (has_state d name s) then Err stop.UnknownState
    else if waits (keeping_at d s) then Ok (Kept, keeps (with_kept name) d s)
    else if is_current d name s then Ok (Nothing, s)
    else Ok (Begin, keeps begun d s)

-- the first state, if there is one
abbrev pub first_state : ObjId → Stage → Option (List ℕ)
first_state d s = first_state_in d s.entities

abbrev pub begins : Option (List ℕ) → ObjId → Stage → Stage
begins None d s = s
begins (Some name) d s = keeps begun d s

-- a document begins to enter its first state, if it has one
abbrev pub begins_first : ObjId → Stage → Stage
begins_first d s = begins (first_state d s) d (change_inside d starts s)

abbrev pub has_begun_of : Option Entity → Bool
has_begun_of None = false
has_begun_of (Some e) = e.inside.begun

abbrev pub has_begun : ObjId → Stage → Bool
has_begun d s = has_begun_of (entity_at d s)

-- a change is over: the name that was kept is given
abbrev pub kept_name : ObjId → Stage → Option (List ℕ)
kept_name d s = kept_of (entity_at d s)

abbrev pub over : ObjId → Stage → Stage
over d s = keeps ended d s
