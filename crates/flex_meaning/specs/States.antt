-- What a document does when it leaves a state and when it enters one.
use Rattle.std.specs.List.{filter, find, list_any}
use Rattle.std.specs.Prelude.{Bool, List, None, Option, Some, [], false, is_some, not, option_and_then, suc, ℕ, ◌&&◌, ◌==◌, ◌∷◌}
use Rattle.std.specs.Str.{bytes_eq}
use Rattle.flex_base.specs.Value.{is_object}
use Rattle.flex_base.specs.declared.value.ObjId.{ObjId}
use Rattle.flex_base.specs.declared.value.Value.{Value}
use Rattle.flex_base.specs.declared.value.Value.TheVariants as value
use Rattle.flex_world.specs.Objects.{Object, current_state, is_number_among, object_at, parent_of, property}
use Rattle.flex_program.specs.Classes.{document_in}
use Rattle.flex_program.specs.Instances.{instance_numbered, numbers_of, parts_of}
use Rattle.flex_program.specs.Program.{Change, Document, Instance, Override, Part, Presence, State}
use Rattle.flex_meaning.specs.Activities.{Context}
use Rattle.flex_meaning.specs.Building.{build_of_state, register, declared_spot}
use Rattle.flex_meaning.specs.Changes.{state_asked, state_named}
use Rattle.flex_meaning.specs.Elements.{add_child, take_out}
use Rattle.flex_meaning.specs.Expressions.{literal_value}
use Rattle.flex_meaning.specs.Objects.{read}
use Rattle.flex_meaning.specs.Results.{Goes, Result, bind, choose, done, each, need, on}
use Rattle.flex_meaning.specs.World.{Built, Saved, World, built_object, unlisten}
use Rattle.flex_meaning.specs.Writes.{assign}

abbrev pub includes : List ℕ → Presence → Bool
includes state p = list_any (λ name. bytes_eq name state) p.states

-- an instance is present where it is built and has a parent
abbrev pub is_present : List Object → List Built → ObjId → ℕ → Bool
is_present objects built document number = is_some (option_and_then (λ o. parent_of (object_at objects o)) (built_object built document number))

abbrev pub is_for : ObjId → List ℕ → ℕ → Saved → Bool
is_for document state place s = is_object s.document document && (s.place == place) && bytes_eq s.state state

abbrev pub saved_at : ObjId → List ℕ → ℕ → List Saved → Option Saved
saved_at document state place saved = find (is_for document state place) saved

abbrev pub save : Saved → World → World
save s w = record w { saved = s ∷ w.saved }

abbrev pub drop_saved : Saved → World → World
drop_saved s w = record w { saved = filter (λ other. not (is_for s.document s.state s.place other)) w.saved }

abbrev pub is_inside : ObjId → List ℕ → Built → Bool
is_inside document numbers b = is_object b.document document && is_number_among b.instance numbers

abbrev pub forget_built : ObjId → List ℕ → World → World
forget_built document numbers w = record w { built = filter (λ b. not (is_inside document numbers b)) w.built }

abbrev pub register_base : ObjId → List ℕ → Option ℕ → ObjId → World → World
register_base document event None o w = w
register_base document event (Some method) o w = register document event method o w

abbrev pub unregister_base : ObjId → List ℕ → Option ℕ → ObjId → World → World
unregister_base document event None o w = w
unregister_base document event (Some method) o w = unlisten o event document method false w

module _ (c : Context) (document : ObjId) where
  -- the value that was saved is written; a handler of the state goes, and that of the instance is registered anew
  abbrev pub undo_change : Change → ObjId → Value → World → Result (Unit {0})
  undo_change (Change.Changes_property name value) o found w = assign c o name found w
  undo_change (Change.Changes_handler event base method) o found w = done (register_base document event base o (unlisten o event document method false w))

  abbrev pub undo_saved : Change → Option Saved → World → Result (Unit {0})
  undo_saved change None w = done w
  undo_saved change (Some s) w = undo_change change s.object s.value (drop_saved s w)

  -- the overrides of a state from a place on, where they are applied: the last first
  abbrev pub undo_from : List ℕ → ℕ → List Override → World → Result (Unit {0})
  undo_from state place [] w = done w
  undo_from state place (override ∷ overrides) w =
      bind (undo_from state (suc place) overrides w) (λ _ w1. undo_saved override.change (saved_at document state place w1.saved) w1)

  abbrev pub write_null : Option (List ℕ) → World → Result (Unit {0})
  write_null None w = done w
  write_null (Some id) w = assign c document id value.Null w

  -- an instance is forgotten, with all that is declared inside it
  abbrev pub forget : Option Instance → World → Result (Unit {0})
  forget None w = done w
  forget (Some instance) w = each (λ part. write_null part.id) (parts_of instance) (forget_built document (numbers_of (parts_of instance)) w)

  abbrev pub remove_part : Instance → Part → Presence → World → Result (Unit {0})
  remove_part root part p w =
      need (built_object w.built document part.number) w (λ o.
      bind (take_out o w) (λ _ w1.
      choose p.auto (forget (instance_numbered root part.number)) done w1))

  abbrev pub leave_part : Instance → List ℕ → Part → Option Presence → World → Result (Unit {0})
  leave_part root next part None w = done w
  leave_part root next part (Some p) w = choose (not (includes next p) && is_present w.objects w.built document part.number) (remove_part root part p) done w

  -- the overrides of a state are undone, and present instances that the next one doesn't include are removed
  abbrev pub leave_for : List ℕ → State → Document → World → Result (Unit {0})
  leave_for next s d w = bind (undo_from s.name 0 s.overrides w) (λ _ w1. each (λ part. leave_part d.root next part part.presence) (parts_of d.root) w1)

  -- the document leaves the state that it is in
  abbrev pub leave_state : List ℕ → World → Result (Unit {0})
  leave_state next w =
      on document w (λ o.
      need (document_in c.program o) w (λ d.
      need (property o current_state) w (λ current.
      need (state_asked (Some d) current) w (λ s.
      leave_for next s d w))))

  -- the object of an instance, which is built where it isn't yet
  abbrev pub built_now : ℕ → Option ObjId → World → Result ObjId
  built_now number None w = build_of_state c document number w
  built_now number (Some o) w = Goes o w

  abbrev pub add_part : Part → Option ObjId → World → Result (Unit {0})
  add_part part None w = done w
  add_part part (Some container) w =
      bind (built_now part.number (built_object w.built document part.number) w) (λ child w1. add_child c container child (Some (declared_spot container document part.number)) w1)

  -- an instance that the state includes and that isn't present is added, unless its declared parent isn't built
  abbrev pub enter_part : List ℕ → Part → Option Presence → World → Result (Unit {0})
  enter_part state part None w = done w
  enter_part state part (Some p) w =
      choose (includes state p && not (is_present w.objects w.built document part.number)) (add_part part (built_object w.built document p.container)) done w

  abbrev pub saved : List ℕ → ℕ → ObjId → Value → Saved
  saved state place o v = record { document = document; state = state; place = place; object = o; value = v }

  -- the value that is found is saved, and the override's own is written
  abbrev pub apply_change : List ℕ → ℕ → Change → ObjId → World → Result (Unit {0})
  apply_change state place (Change.Changes_property name value) o w =
      bind (read c.program o name w) (λ found w1. assign c o name (literal_value value) (save (saved state place o found) w1))
  apply_change state place (Change.Changes_handler event base method) o w =
      done (register document event method o (unregister_base document event base o (save (saved state place o value.Null) w)))

  abbrev pub apply_to : List ℕ → ℕ → Change → Option ObjId → World → Result (Unit {0})
  apply_to state place change None w = done w
  apply_to state place change (Some o) w = apply_change state place change o w

  -- the overrides of a state from a place on, where their instances are built
  abbrev pub apply_from : List ℕ → ℕ → List Override → World → Result (Unit {0})
  apply_from state place [] w = done w
  apply_from state place (override ∷ overrides) w =
      bind (apply_to state place override.change (built_object w.built document override.instance) w) (λ _ w1. apply_from state (suc place) overrides w1)

  -- instances are added, and then the overrides apply
  abbrev pub enter_with : State → Document → World → Result (Unit {0})
  enter_with s d w = bind (each (λ part. enter_part s.name part part.presence) (parts_of d.root) w) (λ _ w1. apply_from s.name 0 s.overrides w1)

  abbrev pub enter_named : List ℕ → World → Result (Unit {0})
  enter_named state w = on document w (λ o. need (document_in c.program o) w (λ d. need (state_named state d.states) w (λ s. enter_with s d w)))
