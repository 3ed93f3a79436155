-- What each line of a script does.
use Rattle.std.specs.Prelude.{Bool, List, None, Option, Some, [], codes, if◌then◌else◌, not, option_and_then, ℕ, ◌&&◌, ◌||◌, ◌∷◌}
use Rattle.flex_base.specs.Events.{path_text}
use Rattle.flex_base.specs.Value.{ref_of}
use Rattle.flex_base.specs.declared.event.UserEvent.{UserEvent}
use Rattle.flex_base.specs.declared.event.UserEvent.TheVariants as user
use Rattle.flex_base.specs.declared.record.TraceItem.TheVariants.{Missed, User}
use Rattle.flex_base.specs.declared.value.ObjId.{ObjId}
use Rattle.flex_base.specs.declared.value.Value.{Value}
use Rattle.flex_base.specs.declared.value.Value.TheVariants as value
use Rattle.component_catalog.specs.Events.{change, click}
use Rattle.component_catalog.specs.declared.class.NativeClass.{NativeClass}
use Rattle.component_catalog.specs.declared.class.NativeClass.TheVariants as native
use Rattle.flex_world.specs.Classes.{is_instance_of}
use Rattle.flex_world.specs.Objects.{Field, Object, ancestors_of, computed_property, field_named, is_object_among, is_true, object_at, object_class, property}
use Rattle.flex_program.specs.Classes.{bases}
use Rattle.flex_program.specs.Program.{Program}
use Rattle.flex_meaning.specs.Activities.{Context}
use Rattle.flex_meaning.specs.Changes.{request}
use Rattle.flex_meaning.specs.Dispatch.{send}
use Rattle.flex_meaning.specs.Results.{Result, bind, choose, done, dropped, on}
use Rattle.flex_meaning.specs.World.{World, note}
use Rattle.flex_meaning.specs.Writes.{assign}

abbrev pub if_public : Option Field → Option Value → Option Value
if_public None other = other
if_public (Some f) other = if f.public then Some f.value else None

-- the value of a public property
abbrev pub public_property : List ℕ → Object → Option Value
public_property name c = if_public (field_named name c.fields) (computed_property c name)

-- the object that names reach from an object over public properties
abbrev pub follow : List Object → List (List ℕ) → Option ObjId → Option ObjId
follow objects [] at = at
follow objects (name ∷ names) at = follow objects names (option_and_then ref_of (option_and_then (public_property name) (option_and_then (object_at objects) at)))

abbrev pub is_of_native : Program → NativeClass → Object → Bool
is_of_native p ancestor c = is_instance_of (bases p) ancestor (object_class c)

abbrev pub has_flag : List ℕ → Object → Bool
has_flag name c = is_true (property c name)

-- a component that has the main document as itself or an ancestor, is visible and is enabled
abbrev pub is_usable : Program → List Object → ObjId → ObjId → Object → Bool
is_usable p objects main o c =
    is_of_native p native.UIComponent c
    && is_object_among main (o ∷ ancestors_of objects o)
    && has_flag (codes "visible") c
    && has_flag (codes "enabled") c

abbrev pub usable : Program → List Object → ObjId → ObjId → Option ObjId
usable p objects main o = option_and_then (λ c. if is_usable p objects main o c then Some o else None) (object_at objects o)

-- the component that a path reaches
abbrev pub reached : Program → List Object → ObjId → List (List ℕ) → Option ObjId
reached p objects main path = option_and_then (usable p objects main) (follow objects path (Some main))

abbrev pub miss : List (List ℕ) → World → Result (Unit {0})
miss path w = done (note (Missed (path_text path)) w)

module _ (c : Context) where
  abbrev pub send_change : ObjId → World → Result (Unit {0})
  send_change o w = dropped (send c change o w)

  abbrev pub toggles : Object → Bool
  toggles o = is_of_native c.program native.ToggleButton o || is_of_native c.program native.CheckBox o

  -- the default action of a click
  abbrev pub toggle : ObjId → World → Result (Unit {0})
  toggle o w =
      on o w (λ component.
      choose (toggles component) (λ w1. bind (assign c o (codes "selected") (value.Bool (not (has_flag (codes "selected") component))) w1) (λ _ w2. send_change o w2)) done w)

  abbrev pub click_on : List (List ℕ) → Option ObjId → World → Result (Unit {0})
  click_on path None w = miss path w
  click_on path (Some o) w = bind (send c click o w) (λ left w1. choose left (toggle o) done w1)

  abbrev pub takes_text : Object → Bool
  takes_text o = is_of_native c.program native.TextInput o && has_flag (codes "editable") o

  abbrev pub type_at : List (List ℕ) → List ℕ → Option ObjId → World → Result (Unit {0})
  type_at path text None w = miss path w
  type_at path text (Some o) w =
      on o w (λ component. choose (takes_text component) (λ w1. bind (assign c o (codes "text") (value.Text text) w1) (λ _ w2. send_change o w2)) (miss path) w)

  -- a line of the script, at the main document
  abbrev pub play_event : ObjId → UserEvent → World → Result (Unit {0})
  play_event main (user.Click path line) w = click_on path (reached c.program w.objects main path) (note (User line) w)
  play_event main (user.Write path text line) w = type_at path text (reached c.program w.objects main path) (note (User line) w)
  play_event main (user.State state line) w = request c main (value.Text state) (note (User line) w)
