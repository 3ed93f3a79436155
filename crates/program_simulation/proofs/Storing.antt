-- A property is written in both meanings.
use Rattle.std.proofs.Common.{◌≡◌, refl, sym, ap, ◌∙◌, subst}
use Rattle.std.specs.Option.{option_map_or}
use Rattle.std.specs.Prelude.{Bool, List, Option, Some, [], false, if◌then◌else◌, is_some, option_and_then, option_map, slice_get, suc, true, zero, ℕ, ◌∷◌}
use Rattle.std.specs.Str.{bytes_eq}
use Rattle.flex_base.specs.Lists.{changed_at, changed_entry, entry}
use Rattle.flex_base.specs.Value.{same}
use Rattle.flex_base.specs.declared.outcome.Outcome.{Outcome}
use Rattle.flex_base.specs.declared.record.TraceItem.{TraceItem}
use Rattle.flex_base.specs.declared.value.ObjId.{ObjId}
use Rattle.flex_base.specs.declared.value.Value.{Value}
use Rattle.component_catalog.specs.Classes.{or_else}
use Rattle.flex_world.specs.Objects.{Field, Object, field_named, object_at, with_value}
use Rattle.flex_world.specs.Objects.{Watcher}
use Rattle.flex_program.proofs.ClassLaws.{same_text}
use Rattle.flex_meaning.specs.World.{World, set_field}
use Rattle.program_simulation.proofs.Standing.{Keeps, entity_there, object_changed}
use Rattle.program_simulation.specs.Stands.{Image, beside, entity_of, stage_of}
use Rattle.avm2_program.specs.declared.operation.Operation.{Operation}
use Rattle.flex_objects.specs.Entities.{Entity, after_write_in, kept, stored_in, with_fields}
use Rattle.flex_objects.specs.Properties.{after_write}
use Rattle.flex_objects.specs.declared.properties.Stored.TheVariants as stored_as
use Rattle.ui_runtime.specs.Properties as stored
use Rattle.stage_objects.specs.Entities as table
use Rattle.ui_runtime.specs.Stage as stage
use Rattle.ui_runtime.specs.declared.writing.Written.TheVariants as written
use Rattle.avm2_meaning.specs.Apply.{apply, made_by, proceed}
use Rattle.avm2_meaning.specs.declared.frame.Frame.{Frame}
use Rattle.avm2_meaning.specs.Machine.{Machine, above}
use Rattle.avm2_meaning.specs.Moves.{place_after}
use Rattle.avm2_meaning.specs.Properties as properties

-- a field has the name by which it was found
pub found_named : (name : List ℕ) (fields : List Field) (f : Field) → field_named name fields ≡ Some f → field_named f.name fields ≡ Some f
found_named name fields f e = subst (λ x. field_named x fields ≡ Some f) (sym (its_name fields e)) e
  where
    some_same : (x y : Field) → Some x ≡ Some y → x ≡ y
    some_same x y is = cc

    its_name : (gs : List Field) → field_named name gs ≡ Some f → f.name ≡ name
    its_name [] g = absurd cc
    its_name (x ∷ gs) g = by (bytes_eq x.name name) refl g (its_name gs)
      where
        by : (b : Bool) → bytes_eq x.name name ≡ b → (if b then Some x else field_named name gs) ≡ Some f → (field_named name gs ≡ Some f → f.name ≡ name) → f.name ≡ name
        by true eq g1 rest = ap (λ (z : Field). z.name) (sym (some_same x f g1)) ∙ same_text x.name name eq
        by false other g1 rest = rest g1

-- the fields of an object have their names after a write
pub value_kept : (name : List ℕ) (v : Value) → Keeps (λ c. record c { fields = with_value name v c.fields })
value_kept name v = record { kind = λ c. refl; enabled = λ c. refl; names = λ c other. all_named c.fields other }
  where
    all_named : (fields : List Field) (other : List ℕ) → is_some (field_named other (with_value name v fields)) ≡ is_some (field_named other fields)
    all_named [] other = refl
    all_named (f ∷ fields) other = by (bytes_eq f.name name) (all_named fields other)
      where
        sides : (t : Bool) (g : Field) (x y : Option Field) → is_some x ≡ is_some y → is_some (if t then Some g else x) ≡ is_some (if t then Some f else y)
        sides true g x y rest = refl
        sides false g x y rest = rest

        by : (b : Bool) → is_some (field_named other (with_value name v fields)) ≡ is_some (field_named other fields)
            → is_some (field_named other (if b then record f { value = v } ∷ fields else f ∷ with_value name v fields)) ≡ is_some (if bytes_eq f.name other then Some f else field_named other fields)
        by true rest = sides (bytes_eq f.name other) (record f { value = v }) (field_named other fields) (field_named other fields) refl
        by false rest = sides (bytes_eq f.name other) f (field_named other (with_value name v fields)) (field_named other fields) rest

-- one item of a list changed in two ways that are one there
changed_alike : {A : Type 0} (f g : A → A) (items : List A) (n : ℕ) (x : A) → slice_get items n ≡ Some x → f x ≡ g x → changed_at f items n ≡ changed_at g items n
changed_alike f g [] n x e eq = refl
changed_alike f g (y ∷ items) zero x e eq = ap (λ z. z ∷ items) (subst (λ z. f z ≡ g z) (sym (its e)) eq)
  where
    its : Some y ≡ Some x → y ≡ x
    its is = cc
changed_alike f g (y ∷ items) (suc n) x e eq = ap (λ l. y ∷ l) (changed_alike f g items n x e eq)

entry_alike : {A : Type 0} (f g : A → A) (items : List A) (n : ℕ) (x : A) → entry items n ≡ Some x → f x ≡ g x → changed_entry f items n ≡ changed_entry g items n
entry_alike f g items zero x e eq = refl
entry_alike f g items (suc n) x e eq = changed_alike f g items n x e eq

unchanged : {A : Type 0} (items : List A) (n : ℕ) → changed_at (λ x. x) items n ≡ items
unchanged [] n = refl
unchanged (y ∷ items) zero = refl
unchanged (y ∷ items) (suc n) = ap (λ l. y ∷ l) (unchanged items n)

pub entry_unchanged : {A : Type 0} (items : List A) (n : ℕ) → changed_entry (λ x. x) items n ≡ items
entry_unchanged items zero = refl
entry_unchanged items (suc n) = unchanged items n

module _ (q : Image) (order : List ObjId) where
  -- what a write does to what stands for an object
  after_same : (name : List ℕ) (v : Value) (f : Field) (e : Entity) → field_named name e.object.fields ≡ Some f → same f.value v ≡ true → after_write_in name v e ≡ e
  after_same name v f e there eq =
      ap (λ x. if is_some x then with_fields (option_map_or (λ (g : Field). if same g.value v then e.object.fields else with_value name v e.object.fields) x e.object.fields) e
      else Rattle.flex_objects.specs.Entities.with_hidden (after_write name v e.inside.hidden) e) there
      ∙ ap (λ b. with_fields (if b then e.object.fields else with_value name v e.object.fields) e) eq

  after_new : (name : List ℕ) (v : Value) (f : Field) (e : Entity) → field_named name e.object.fields ≡ Some f → same f.value v ≡ false
      → after_write_in name v e ≡ table.with_object (λ c. record c { fields = with_value name v c.fields }) e
  after_new name v f e there eq =
      ap (λ x. if is_some x then with_fields (option_map_or (λ (g : Field). if same g.value v then e.object.fields else with_value name v e.object.fields) x e.object.fields) e
      else Rattle.flex_objects.specs.Entities.with_hidden (after_write name v e.inside.hidden) e) there
      ∙ ap (λ b. with_fields (if b then e.object.fields else with_value name v e.object.fields) e) eq

  module _ (w : World) (o : ObjId) (c : Object) (name : List ℕ) (f : Field) (v : Value) (there : object_at w.objects o ≡ Some c) (has : field_named name c.fields ≡ Some f) where
    entity_here : stage.entity_at o (stage_of q order w) ≡ Some (entity_of q (beside w) o c)
    entity_here = entity_there q order w o ∙ ap (option_map (λ d. entity_of q (beside w) o d)) there

    -- what it comes to
    comes_to : option_and_then (stored_in name v) (stage.entity_at o (stage_of q order w)) ≡ Some (Rattle.flex_objects.specs.Properties.stored v f)
    comes_to = ap (option_and_then (stored_in name v)) entity_here ∙ ap (λ x. option_map (Rattle.flex_objects.specs.Properties.stored v) (or_else x (field_named name (entity_of q (beside w) o c).inside.hidden))) has

    same_stage : same f.value v ≡ true → stored.with_written o name v (stage_of q order w) ≡ stage_of q order w
    same_stage eq =
        ap (λ l. record (stage_of q order w) { entities = l })
        (entry_alike (after_write_in name v) (λ e. e) (stage_of q order w).entities o.0 (entity_of q (beside w) o c) entity_here (after_same name v f (entity_of q (beside w) o c) has eq)
        ∙ entry_unchanged (stage_of q order w).entities o.0)

    new_stage : same f.value v ≡ false → stored.with_written o name v (stage_of q order w) ≡ stage_of q order (set_field o name v w)
    new_stage eq =
        ap (λ l. record (stage_of q order w) { entities = l })
        (entry_alike (after_write_in name v) (table.with_object (λ c. record c { fields = with_value name v c.fields })) (stage_of q order w).entities o.0 (entity_of q (beside w) o c) entity_here (after_new name v f (entity_of q (beside w) o c) has eq))
        ∙ sym (object_changed q order o (λ c. record c { fields = with_value name v c.fields }) w (value_kept name v))

    -- an equal value changes nothing
    pub written_same : same f.value v ≡ true → stored.writes o name v (stage_of q order w) ≡ (written.Equal, stage_of q order w)
    written_same eq =
        ap (λ x. (stored.written_as o name x (stored.with_written o name v (stage_of q order w)), stored.with_written o name v (stage_of q order w))) comes_to
        ∙ ap (λ b. (stored.written_as o name (Some (if b then stored_as.Equal else if f.bindable then stored_as.Watched else stored_as.Silent)) (stored.with_written o name v (stage_of q order w)), stored.with_written o name v (stage_of q order w))) eq
        ∙ ap (λ s. (written.Equal, s)) (same_stage eq)

    -- any other is stored, and the bindings that it affects are told
    pub written_new : same f.value v ≡ false
        → stored.writes o name v (stage_of q order w) ≡ (stored.written_as o name (Some (if f.bindable then stored_as.Watched else stored_as.Silent)) (stage_of q order (set_field o name v w)), stage_of q order (set_field o name v w))
    written_new eq =
        ap (λ x. (stored.written_as o name x (stored.with_written o name v (stage_of q order w)), stored.with_written o name v (stage_of q order w))) comes_to
        ∙ ap (λ b. (stored.written_as o name (Some (if b then stored_as.Equal else if f.bindable then stored_as.Watched else stored_as.Silent)) (stored.with_written o name v (stage_of q order w)), stored.with_written o name v (stage_of q order w))) eq
        ∙ ap (λ s. (stored.written_as o name (Some (if f.bindable then stored_as.Watched else stored_as.Silent)) s, s)) (new_stage eq)

-- frames that are covered by bindings that start, or by none
pub apply_starting : (p : Rattle.avm2_program.specs.declared.file.Program.Program) (f : Frame) (bs : List Watcher) (m : Machine) → apply p f (properties.starting_all bs) m ≡ proceed p (properties.starting_all bs) (above f m)
apply_starting p f [] m = refl
apply_starting p f (b ∷ bs) m = refl

pub made_starting : (bs : List Watcher) (item : Option TraceItem) (o : Option Outcome) → made_by (properties.starting_all bs) item o ≡ item
made_starting [] item o = refl
made_starting (b ∷ bs) item o = refl

pub place_starting : (op : Operation) (behind : ℕ) (bs : List Watcher) → place_after op behind (properties.starting_all bs) ≡ behind
place_starting op behind [] = refl
place_starting op behind (b ∷ bs) = refl
