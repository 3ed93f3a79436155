-- A document changes its state.
use Rattle.std.specs.Prelude.{Bool, List, None, Option, Some, [], false, if◌then◌else◌, not, suc, true, zero, ℕ, ◌||◌, ◌∷◌}
use Rattle.std.specs.Str.{bytes_eq}
use Rattle.flex_base.specs.declared.outcome.Outcome.TheVariants.{TurnsSpent}
use Rattle.flex_base.specs.declared.outcome.Stop.TheVariants as stop
use Rattle.flex_base.specs.declared.value.ObjId.{ObjId}
use Rattle.flex_base.specs.declared.value.Value.{Value}
use Rattle.flex_base.specs.declared.value.Value.TheVariants as value
use Rattle.component_catalog.specs.Events.{current_state_change}
use Rattle.flex_world.specs.Objects.{Object, current_state, field_named, is_object_among, property, text_in}
use Rattle.flex_program.specs.Classes.{document_in, has_name}
use Rattle.flex_program.specs.Program.{Document, State}
use Rattle.flex_meaning.specs.Activities.{Context, Enters, Leaves, carry_out}
use Rattle.flex_meaning.specs.Dispatch.{announce}
use Rattle.flex_meaning.specs.Results.{Halts, Result, bind, choose, done, guarded, need, on, stops}
use Rattle.flex_meaning.specs.Storing.{store}
use Rattle.flex_meaning.specs.World.{World, change_keeping}

-- the state of a name
abbrev pub state_named : List ℕ → List State → Option State
state_named name [] = None
state_named name (s ∷ states) = if bytes_eq s.name name then Some s else state_named name states

-- the state of a document that a value names
abbrev pub state_asked : Option Document → Value → Option State
state_asked (Some d) (value.Text name) = state_named name d.states
state_asked _ _ = None

abbrev pub is_current : List ℕ → Object → Bool
is_current name d = has_name name (text_in (property d current_state))

abbrev pub set_running : ObjId → World → World
set_running document w = change_keeping document (λ k. record k { running = true }) w

abbrev pub set_over : ObjId → World → World
set_over document w = change_keeping document (λ k. record k { running = false; entered = true; kept = None }) w

abbrev pub keep : ObjId → List ℕ → World → World
keep document name w = change_keeping document (λ k. record k { kept = Some name }) w

-- the constructor of a document has begun; what is no document has no states
abbrev pub is_known : List ObjId → ObjId → Option Document → Bool
is_known registered o None = true
is_known registered o (Some d) = is_object_among o registered

abbrev pub take_kept : (List ℕ → World → Result (Unit {0})) → Object → Option (List ℕ) → World → Result (Unit {0})
take_kept next d None w = done w
take_kept next d (Some name) w = choose (is_current name d) done (next name) w

-- a change has ended; the name that was kept is taken, and handled like a new write
abbrev pub end_change : (List ℕ → World → Result (Unit {0})) → ObjId → World → Result (Unit {0})
end_change next document w = on document w (λ d. take_kept next d d.keeping.kept (set_over document w))

module _ (c : Context) where
  abbrev pub store_state : ObjId → List ℕ → World → Result (Unit {0})
  store_state document name w = on document w (λ d. need (field_named current_state d.fields) w (λ f. store c document f (value.Text name) w))

  -- `currentState` is stored, and its bindings run; then the state is entered
  abbrev pub enter_state : ObjId → List ℕ → World → Result (Unit {0})
  enter_state document name w = bind (store_state document name w) (λ _ w1. carry_out c (Enters document name) w1)

  -- a document goes over to another state, and on to those that were asked for meanwhile; at most so many
  abbrev pub change_state : ℕ → ObjId → List ℕ → World → Result (Unit {0})
  change_state zero document name w = Halts TurnsSpent w
  change_state (suc n) document name w =
      bind (c.does (Leaves document name) (set_running document w)) (λ _ w1.
      bind (enter_state document name w1) (λ _ w2.
      bind (announce c current_state_change document w2) (λ _ w3.
      end_change (λ other w4. change_state n document other w4) document w3)))

  abbrev pub enter_first : ObjId → List ℕ → World → Result (Unit {0})
  enter_first document name w = bind (enter_state document name (set_running document w)) (λ _ w1. end_change (change_state c.fuel document) document w1)

  -- while a change runs, or the first state isn't entered, the name is kept
  abbrev pub change_or_keep : ObjId → Object → List ℕ → World → Result (Unit {0})
  change_or_keep document d name w =
      choose (d.keeping.running || not d.keeping.entered) (λ w1. done (keep document name w1)) (choose (is_current name d) done (change_state c.fuel document name)) w

  abbrev pub ask : ObjId → Object → Option State → World → Result (Unit {0})
  ask document d None w = stops stop.UnknownState w
  ask document d (Some s) w = change_or_keep document d s.name w

  -- a value is written to `currentState`
  abbrev pub request : ObjId → Value → World → Result (Unit {0})
  request document v w =
      on document w (λ d. guarded (is_known w.registered document (document_in c.program d)) (ask document d (state_asked (document_in c.program d) v)) w)
