-- What each line of a script does.
use Rattle.std.specs.Prelude.{Bool, List, None, Option, Some, [], codes, false, if◌then◌else◌, not, option_and_then, ℕ, ◌&&◌, ◌||◌, ◌∷◌}
use Rattle.avm2_program.specs.Names.{public_name}
use Rattle.avm2_program.specs.declared.member.Member.{Member}
use Rattle.avm2_program.specs.declared.file.Program.{Program}
use Rattle.component_catalog.specs.Events.{change, click}
use Rattle.component_catalog.specs.declared.class.NativeClass.TheVariants as native
use Rattle.flex_base.specs.Events.{path_text}
use Rattle.flex_base.specs.Value.{ref_of}
use Rattle.flex_base.specs.declared.event.UserEvent.{UserEvent}
use Rattle.flex_base.specs.declared.event.UserEvent.TheVariants as user
use Rattle.flex_base.specs.declared.outcome.MachineFault.TheVariants as fault
use Rattle.flex_base.specs.declared.record.TraceItem.TheVariants as trace
use Rattle.flex_base.specs.declared.value.ObjId.{ObjId}
use Rattle.flex_base.specs.declared.value.Value.{Value}
use Rattle.flex_base.specs.declared.value.Value.TheVariants as value
use Rattle.flex_world.specs.Objects.{Object, field_named, is_object_among, is_true, property}
use Rattle.ui_runtime.specs.Properties.{reads}
use Rattle.ui_runtime.specs.Stage.{object_at}
use Rattle.ui_runtime.specs.Tree.{path}
use Rattle.avm2_meaning.specs.Classes.{is_component_object, is_of}
use Rattle.avm2_meaning.specs.Dispatch.{begin_dispatch}
use Rattle.avm2_meaning.specs.Effects.{Acted, acted, closes, effect, in_place, recorded}
use Rattle.avm2_meaning.specs.declared.effect.Next.{Next}
use Rattle.avm2_meaning.specs.declared.effect.Next.TheVariants as Next
use Rattle.avm2_meaning.specs.declared.frame.Dispatch.{Dispatch}
use Rattle.avm2_meaning.specs.declared.frame.Native.{Native}
use Rattle.avm2_meaning.specs.declared.frame.Native.TheVariants as Native
use Rattle.avm2_meaning.specs.declared.heap.Heap.{Heap}
use Rattle.avm2_meaning.specs.Making.{make_event}
use Rattle.avm2_meaning.specs.Members.{kind_member}
use Rattle.avm2_meaning.specs.Properties.{store_field}
use Rattle.avm2_meaning.specs.Results.{Goes, Result, bind, choose, mapped, need, on, test}
use Rattle.avm2_meaning.specs.States.{request}

-- what a member is that a path may go through: a property of an object
abbrev pub value_of_member : ObjId → Heap → Member → Option Value
value_of_member o h (Member.Slot key) = reads o key h.stage
value_of_member o h _ = None

abbrev pub has_flag : List ℕ → Object → Bool
has_flag name c = is_true (property c name)

-- a line is recorded, and then it acts
abbrev pub line_of : UserEvent → List ℕ
line_of (user.Click path line) = line
line_of (user.Write path text line) = line
line_of (user.State state line) = line

abbrev pub begin_line : UserEvent → Heap → Result (Acted Native)
begin_line event h = Goes (acted (recorded (trace.User (line_of event))) (Native.Acts event)) h

-- the path reaches nothing that the line is for
abbrev pub miss : UserEvent → List (List ℕ) → Heap → Result (Acted Native)
miss event path h = Goes (acted (effect (Next.Close None) (Some (trace.Missed (path_text path)))) (Native.Acts event)) h

-- writes a property that a component keeps, and then this is to be done
abbrev pub write_and : ObjId → List ℕ → Value → Native → Heap → Result (Acted Native)
write_and o name v n h = on o h (λ c. need (field_named name c.fields) h (λ f. bind (store_field o f v h) (λ e h1. Goes (acted e n) h1)))

-- a dispatch above, whose default action is to be done after it
abbrev pub with_default : ObjId → Acted Dispatch → Acted Native
with_default o a = acted (record a.effect { next = Next.Opens (Native.Dispatches a.work) }) (Native.Defaults o a.work.event)

module _ (p : Program) where
  -- the value of a public property
  abbrev pub public_value : List ℕ → Heap → ObjId → Option Value
  public_value name h o =
      option_and_then (value_of_member o h) (option_and_then (λ (c : Object). kind_member p c.kind (public_name name)) (object_at o h.stage))

  -- the object that names reach from an object over public properties
  abbrev pub follow : Heap → List (List ℕ) → Option ObjId → Option ObjId
  follow h [] at = at
  follow h (name ∷ names) at = follow h names (option_and_then ref_of (option_and_then (public_value name h) at))

  -- a component that has the main object as itself or an ancestor, is visible and is enabled
  abbrev pub is_usable : Heap → ObjId → ObjId → Object → Bool
  is_usable h main o c =
      is_component_object p c && is_object_among main (path o h.stage) && has_flag (codes "visible") c && has_flag (codes "enabled") c

  abbrev pub usable : Heap → ObjId → ObjId → Option ObjId
  usable h main o = option_and_then (λ (c : Object). if is_usable h main o c then Some o else None) (object_at o h.stage)

  -- the component that a path reaches
  abbrev pub reached : Heap → ObjId → List (List ℕ) → Option ObjId
  reached h main names = option_and_then (usable h main) (follow h names (Some main))

  -- the component that was clicked hears it, and then the default action is done
  abbrev pub click_on : UserEvent → List (List ℕ) → Option ObjId → Heap → Result (Acted Native)
  click_on event path None h = miss event path h
  click_on event path (Some o) h = bind (make_event p click h) (λ e h1. mapped (with_default o) (begin_dispatch o e false h1))

  abbrev pub toggles : Object → Bool
  toggles c = is_of p native.ToggleButton c || is_of p native.CheckBox c

  abbrev pub toggle : ObjId → Object → Heap → Result (Acted Native)
  toggle o c h = write_and o (codes "selected") (value.Bool (not (has_flag (codes "selected") c))) (Native.Sends change o) h

  -- the default action of a click, unless it was prevented
  abbrev pub default_on : ObjId → ObjId → Heap → Result (Acted Native)
  default_on o e h =
      on o h (λ c. on e h (λ event. choose (not event.delivery.answer && toggles c) (toggle o c) (closes (Native.Defaults o e)) h))

  abbrev pub takes_text : Object → Bool
  takes_text c = is_of p native.TextInput c && has_flag (codes "editable") c

  abbrev pub type_at_path : UserEvent → List (List ℕ) → List ℕ → Option ObjId → Heap → Result (Acted Native)
  type_at_path event path text None h = miss event path h
  type_at_path event path text (Some o) h =
      on o h (λ c. choose (takes_text c) (write_and o (codes "text") (value.Text text) (Native.Sends change o)) (miss event path) h)

  -- only a component has states
  abbrev pub request_of : UserEvent → ObjId → List ℕ → Heap → Result (Acted Native)
  request_of event main state h =
      on main h (λ c.
      bind (test fault.NoName (is_component_object p c) h) (λ _ h1.
      mapped (in_place (Native.Acts event)) (request main (value.Text state) h1)))

  -- a line of the script, at the main object
  abbrev pub act_event : ObjId → UserEvent → Heap → Result (Acted Native)
  act_event main (user.Click path line) h = click_on (user.Click path line) path (reached h main path) h
  act_event main (user.Write path text line) h = type_at_path (user.Write path text line) path text (reached h main path) h
  act_event main (user.State state line) h = request_of (user.State state line) main state h
