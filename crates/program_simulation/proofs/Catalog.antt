-- The methods of the catalog that give their values at once.
use Rattle.std.proofs.Common.{◌≡◌, refl, sym, ap, ◌∙◌, subst}
use Rattle.std.specs.Prelude.{Bool, Err, List, None, Ok, Option, Some, [], false, length, map, option_map, true, ℕ, ℤ, ◌++◌, ◌∷◌}
use Rattle.std.specs.Prelude.{Result as Computed}
use Rattle.flex_base.specs.Value.{is_object}
use Rattle.flex_base.specs.declared.outcome.MachineFault.TheVariants as fault
use Rattle.flex_base.specs.declared.outcome.Outcome.TheVariants.{Stopped}
use Rattle.flex_base.specs.declared.outcome.Stop.TheVariants as stop
use Rattle.flex_base.specs.declared.outcome.Stop.{Stop}
use Rattle.flex_base.specs.declared.record.TraceItem.TheVariants as trace
use Rattle.flex_base.specs.declared.record.TraceItem.{TraceItem}
use Rattle.flex_base.specs.declared.value.ObjId.{ObjId}
use Rattle.flex_base.specs.declared.value.Value.TheVariants as value
use Rattle.flex_base.specs.declared.value.Value.{Value}
use Rattle.component_catalog.specs.declared.method.NativeMethod.TheVariants as catalog
use Rattle.component_catalog.specs.declared.method.NativeMethod.{NativeMethod}
use Rattle.component_catalog.specs.declared.method.Parameter.TheVariants as parameter
use Rattle.component_catalog.specs.declared.method.Parameter.{Parameter}
use Rattle.flex_world.specs.Children.{child_at, without_child}
use Rattle.flex_world.specs.Classes.{static_type}
use Rattle.flex_world.specs.declared.kind.StaticType.{StaticType}
use Rattle.flex_world.specs.Conversions.{accepts, into_type, left_out}
use Rattle.flex_world.specs.Events.{delivery_stopped_at_once, is_registered, prevented_delivery, prevented_now, registration, stopped_delivery, while_open, with_registration, without_registration}
use Rattle.flex_world.specs.Objects.{Delivery, Object, Registration, object_at}
use Rattle.flex_world.specs.Objects.{parent_of}
use Rattle.flex_program.specs.Classes.{bases}
use Rattle.flex_meaning.specs.Activities.{Context}
use Rattle.flex_meaning.specs.Conversions as meaning
use Rattle.flex_meaning.specs.Elements.{leave_parent, take_out}
use Rattle.flex_meaning.specs.Natives as source
use Rattle.flex_meaning.specs.Results.{Ends, Goes, Halts, Result, Stuck, bind, choose, done, given, guarded, need, on, stops}
use Rattle.flex_meaning.specs.World.{World, change_object, note}
use Rattle.program_simulation.proofs.Equations.{alike_on}
use Rattle.program_simulation.proofs.Follows.{Alike, alike_bind, alike_from, alike_goes, alike_guarded, alike_halts, alike_step, alike_stuck, unrecorded}
use Rattle.program_simulation.proofs.Follows.{length_mapped}
use Rattle.program_simulation.proofs.Moving.{Stays}
use Rattle.program_simulation.proofs.Moving.{convert_stays}
use Rattle.program_simulation.proofs.Ordered.{same_number}
use Rattle.program_simulation.proofs.Standing.{Keeps, entity_there, heap_changed, holds_changed, object_changed, object_there, objects_are, objid}
use Rattle.program_simulation.specs.Image.{IsImage}
use Rattle.program_simulation.specs.Laws.{gives_at_once}
use Rattle.program_simulation.specs.Stands.{Image, beside, entity_of, heap_of, stage_of}
use Rattle.avm2_program.specs.Naming.{Naming}
use Rattle.stage_objects.specs.Entities as table
use Rattle.ui_runtime.specs.Stage as stage
use Rattle.avm2_meaning.specs.Conversions as conversions
use Rattle.avm2_meaning.specs.Effects.{effect, recorded, silent}
use Rattle.avm2_meaning.specs.declared.effect.Next.{Next}
use Rattle.avm2_meaning.specs.declared.heap.Heap.{Heap}
use Rattle.avm2_meaning.specs.Natives as natives
use Rattle.avm2_meaning.specs.declared.operand.Operand.TheVariants.{Plain}
use Rattle.avm2_meaning.specs.Replies.{gives_nothing}
use Rattle.avm2_meaning.specs.declared.reply.Reply.{Reply}
use Rattle.avm2_meaning.specs.Results as machine

pub stays_bind : {A B : Type 0} (w : World) (r : Result A) (f : A → World → Result B) → Stays w r → ((v : A) → Stays w (f v w)) → Stays w (bind r f)
stays_bind w (Goes v w1) f e t = subst (λ z. Stays w (f v z)) (sym e) (t v)
stays_bind w (Halts o w1) f e t = tt
stays_bind w (Ends w1) f e t = tt
stays_bind w (Stuck w1) f e t = tt

module _ {q : Image} {g : Naming} (is : IsImage g q) {order : List ObjId} where
  -- the arguments of native calls
  plain_alike : (t : StaticType) (o : Option (Computed Value Stop)) (w : World) → Alike q order w unrecorded (λ (v : Value). v) (need o w (λ r. given r w)) (machine.need o (heap_of q order w) (λ r. machine.given r (heap_of q order w)))
  plain_alike t None w = alike_stuck
  plain_alike t (Some (Ok v)) w = alike_goes (λ x. x) v w
  plain_alike t (Some (Err c)) w = alike_halts (Stopped c) w

  typed : (t : StaticType) (v : Value) (w : World) → Alike q order w unrecorded (λ (x : Value). x) (meaning.convert q.source t v w)
      (machine.need (into_type q.program.bases (stage.objects (stage_of q order w)) t v) (heap_of q order w) (λ r. machine.given r (heap_of q order w)))
  typed t v w =
      alike_from
      (ap (λ l. machine.need (into_type l (stage.objects (stage_of q order w)) t v) (heap_of q order w) (λ r. machine.given r (heap_of q order w))) is.bases_are
      ∙ ap (λ l. machine.need (into_type (bases q.source) l t v) (heap_of q order w) (λ r. machine.given r (heap_of q order w))) (objects_are q (beside w) 1 w.objects))
      (plain_alike t (into_type (bases q.source) w.objects t v) w)

  value_alike : (t : StaticType) (v : Value) (w : World) → Alike q order w unrecorded (λ (x : Value). x) (meaning.convert q.source t v w) (conversions.convert_value q.program t v (heap_of q order w))
  value_alike StaticType.Int v w = typed StaticType.Int v w
  value_alike StaticType.Boolean v w = typed StaticType.Boolean v w
  value_alike StaticType.String v w = typed StaticType.String v w
  value_alike StaticType.Array v w = typed StaticType.Array v w
  value_alike (StaticType.Object class) v w = typed (StaticType.Object class) v w
  value_alike StaticType.Any v w = typed StaticType.Any v w
  value_alike StaticType.Unnamed v w = alike_stuck

  parameter_alike : (p : Parameter) (v : Value) (w : World) → Alike q order w unrecorded (λ (x : Value). x) (meaning.into_parameter q.source p v w) (conversions.into_parameter q.program p (Plain v) (heap_of q order w))
  parameter_alike (parameter.Required kind) v w = value_alike (static_type kind) v w
  parameter_alike (parameter.Optional kind start) v w = value_alike (static_type kind) v w
  parameter_alike parameter.Listener (value.Listener o m) w = alike_goes (λ x. x) (value.Listener o m) w
  parameter_alike parameter.Listener value.Undefined w = alike_stuck
  parameter_alike parameter.Listener value.Null w = alike_stuck
  parameter_alike parameter.Listener (value.Bool b) w = alike_stuck
  parameter_alike parameter.Listener (value.Int n) w = alike_stuck
  parameter_alike parameter.Listener (value.Text x) w = alike_stuck
  parameter_alike parameter.Listener (value.Ref o) w = alike_stuck

  parameters_alike : (ps : List Parameter) (vs : List Value) (w : World)
      → Alike q order w unrecorded (λ (x : List Value). x) (meaning.into_parameters q.source ps vs w) (conversions.into_parameters q.program ps (map Plain vs) (heap_of q order w))
  parameters_alike [] [] w = alike_goes (λ x. x) [] w
  parameters_alike (p ∷ ps) [] w = alike_goes (λ x. x) (left_out (p ∷ ps)) w
  parameters_alike [] (v ∷ vs) w = alike_stuck
  parameters_alike (p ∷ ps) (v ∷ vs) w = alike_bind _ (parameter_alike p v w) (λ v1 w1 r. alike_bind _ (parameters_alike ps vs w1) (λ vs1 w2 r2. alike_goes (λ x. x) (v1 ∷ vs1) w2))

  pub arguments_alike : (ps : List Parameter) (vs : List Value) (w : World)
      → Alike q order w unrecorded (λ (x : List Value). x) (meaning.native_arguments q.source ps vs w) (conversions.native_arguments q.program ps (map Plain vs) (heap_of q order w))
  arguments_alike ps vs w =
      alike_guarded (accepts ps (length vs)) _
      (λ e. alike_from (ap (λ b. machine.bind (machine.test fault.WrongCount b (heap_of q order w)) (λ _ h1. conversions.into_parameters q.program ps (map Plain vs) h1)) (ap (accepts ps) (length_mapped Plain vs) ∙ e))
      (parameters_alike ps vs w))

parameter_stays : (p : Rattle.flex_program.specs.Program.Program) (x : Parameter) (v : Value) (w : World) → Stays w (meaning.into_parameter p x v w)
parameter_stays p (parameter.Required kind) v w = convert_stays p (static_type kind) v w
parameter_stays p (parameter.Optional kind start) v w = convert_stays p (static_type kind) v w
parameter_stays p parameter.Listener (value.Listener o m) w = refl
parameter_stays p parameter.Listener value.Undefined w = tt
parameter_stays p parameter.Listener value.Null w = tt
parameter_stays p parameter.Listener (value.Bool b) w = tt
parameter_stays p parameter.Listener (value.Int n) w = tt
parameter_stays p parameter.Listener (value.Text x) w = tt
parameter_stays p parameter.Listener (value.Ref o) w = tt

parameters_stay : (p : Rattle.flex_program.specs.Program.Program) (ps : List Parameter) (vs : List Value) (w : World) → Stays w (meaning.into_parameters p ps vs w)
parameters_stay p [] [] w = refl
parameters_stay p (x ∷ ps) [] w = refl
parameters_stay p [] (v ∷ vs) w = tt
parameters_stay p (x ∷ ps) (v ∷ vs) w =
    stays_bind w (meaning.into_parameter p x v w) _ (parameter_stays p x v w) (λ v1. stays_bind w (meaning.into_parameters p ps vs w) _ (parameters_stay p ps vs w) (λ vs1. refl))

-- the arguments of a native call leave the world alone
pub arguments_stay : (p : Rattle.flex_program.specs.Program.Program) (ps : List Parameter) (vs : List Value) (w : World) → Stays w (meaning.native_arguments p ps vs w)
arguments_stay p ps vs w = by (accepts ps (length vs))
  where
    by : (b : Bool) → Stays w (guarded b (meaning.into_parameters p ps vs) w)
    by true = parameters_stay p ps vs w
    by false = tt

-- a native call gives a value at once, and may record one item
pub record Answers (q : Image) (order : List ObjId) (w : World) (r : Result Value) (x : machine.Result Reply) : Type 0 where
  pub item : Option TraceItem
  pub alike : Alike q order w (λ _. item) (λ v. record { value = Some v; effect = effect Next.On item }) r x

listeners_kept : (f : List Registration → List Registration) → Keeps (λ c. record c { listeners = f c.listeners })
listeners_kept f = record { kind = λ c. refl; enabled = λ c. refl; names = λ c name. refl }

module _ {q : Image} {order : List ObjId} where
  silent_answer : {w : World} {r : Result Value} {x : machine.Result Reply} → Alike q order w unrecorded (λ v. record { value = Some v; effect = silent Next.On }) r x → Answers q order w r x
  silent_answer a = record { item = None; alike = a }

  -- the change of an object, which gives nothing
  changed_answer : (o : ObjId) (f : Object → Object) (w : World) → Keeps f
      → Alike q order w unrecorded (λ (v : Value). record { value = Some v; effect = silent Next.On }) (source.nothing (change_object o f w)) (gives_nothing (record (heap_of q order w) { stage = stage.change o f (stage_of q order w) }))
  changed_answer o f w keeps =
      alike_step (λ v. record { value = Some v; effect = silent Next.On }) value.Undefined w (change_object o f w) _
      (ap (machine.Goes (record { value = Some value.Undefined; effect = silent Next.On })) (sym (heap_changed q order o f w keeps)))
      (record { level = refl; turns = refl; records = refl; holds = holds_changed q o f w keeps })

  type_alike : (kind : Value) (w : World) → Alike q order w unrecorded (λ (x : List ℕ). x) (source.type_given kind w) (natives.type_given kind (heap_of q order w))
  type_alike (value.Text x) w = alike_goes (λ y. y) x w
  type_alike value.Null w = alike_halts (Stopped stop.NullReference) w
  type_alike value.Undefined w = alike_stuck
  type_alike (value.Bool b) w = alike_stuck
  type_alike (value.Int n) w = alike_stuck
  type_alike (value.Ref o) w = alike_stuck
  type_alike (value.Listener o m) w = alike_stuck

  add_answers : (node : ObjId) (vs : List Value) (w : World) → Answers q order w (source.add_listener node vs w) (natives.add_listener node vs (heap_of q order w))
  add_answers node (kind ∷ value.Listener o m ∷ value.Bool capture ∷ value.Int priority ∷ []) w =
      silent_answer (alike_bind _ (type_alike kind w)
      (λ event w1 r. changed_answer node (λ c. record c { listeners = with_registration (registration event o m capture priority) c.listeners }) w1 (listeners_kept (with_registration (registration event o m capture priority)))))
  add_answers node [] w = silent_answer alike_stuck
  add_answers node (kind ∷ []) w = silent_answer alike_stuck
  add_answers node (kind ∷ value.Undefined ∷ rest) w = silent_answer alike_stuck
  add_answers node (kind ∷ value.Null ∷ rest) w = silent_answer alike_stuck
  add_answers node (kind ∷ (value.Bool x1) ∷ rest) w = silent_answer alike_stuck
  add_answers node (kind ∷ (value.Int x1) ∷ rest) w = silent_answer alike_stuck
  add_answers node (kind ∷ (value.Text x1) ∷ rest) w = silent_answer alike_stuck
  add_answers node (kind ∷ (value.Ref x1) ∷ rest) w = silent_answer alike_stuck
  add_answers node (kind ∷ (value.Listener o m) ∷ []) w = silent_answer alike_stuck
  add_answers node (kind ∷ (value.Listener o m) ∷ value.Undefined ∷ rest) w = silent_answer alike_stuck
  add_answers node (kind ∷ (value.Listener o m) ∷ value.Null ∷ rest) w = silent_answer alike_stuck
  add_answers node (kind ∷ (value.Listener o m) ∷ (value.Int x1) ∷ rest) w = silent_answer alike_stuck
  add_answers node (kind ∷ (value.Listener o m) ∷ (value.Text x1) ∷ rest) w = silent_answer alike_stuck
  add_answers node (kind ∷ (value.Listener o m) ∷ (value.Ref x1) ∷ rest) w = silent_answer alike_stuck
  add_answers node (kind ∷ (value.Listener o m) ∷ (value.Listener x1 x2) ∷ rest) w = silent_answer alike_stuck
  add_answers node (kind ∷ (value.Listener o m) ∷ (value.Bool capture) ∷ []) w = silent_answer alike_stuck
  add_answers node (kind ∷ (value.Listener o m) ∷ (value.Bool capture) ∷ value.Undefined ∷ rest) w = silent_answer alike_stuck
  add_answers node (kind ∷ (value.Listener o m) ∷ (value.Bool capture) ∷ value.Null ∷ rest) w = silent_answer alike_stuck
  add_answers node (kind ∷ (value.Listener o m) ∷ (value.Bool capture) ∷ (value.Bool x1) ∷ rest) w = silent_answer alike_stuck
  add_answers node (kind ∷ (value.Listener o m) ∷ (value.Bool capture) ∷ (value.Text x1) ∷ rest) w = silent_answer alike_stuck
  add_answers node (kind ∷ (value.Listener o m) ∷ (value.Bool capture) ∷ (value.Ref x1) ∷ rest) w = silent_answer alike_stuck
  add_answers node (kind ∷ (value.Listener o m) ∷ (value.Bool capture) ∷ (value.Listener x1 x2) ∷ rest) w = silent_answer alike_stuck
  add_answers node (kind ∷ (value.Listener o m) ∷ (value.Bool capture) ∷ (value.Int priority) ∷ other ∷ rest) w = silent_answer alike_stuck

  remove_answers : (node : ObjId) (vs : List Value) (w : World) → Answers q order w (source.remove_listener node vs w) (natives.remove_listener node vs (heap_of q order w))
  remove_answers node (kind ∷ value.Listener o m ∷ value.Bool capture ∷ []) w =
      silent_answer (alike_bind _ (type_alike kind w)
      (λ event w1 r. changed_answer node (λ c. record c { listeners = without_registration event o m capture c.listeners }) w1 (listeners_kept (without_registration event o m capture))))
  remove_answers node [] w = silent_answer alike_stuck
  remove_answers node (kind ∷ []) w = silent_answer alike_stuck
  remove_answers node (kind ∷ value.Undefined ∷ rest) w = silent_answer alike_stuck
  remove_answers node (kind ∷ value.Null ∷ rest) w = silent_answer alike_stuck
  remove_answers node (kind ∷ (value.Bool x1) ∷ rest) w = silent_answer alike_stuck
  remove_answers node (kind ∷ (value.Int x1) ∷ rest) w = silent_answer alike_stuck
  remove_answers node (kind ∷ (value.Text x1) ∷ rest) w = silent_answer alike_stuck
  remove_answers node (kind ∷ (value.Ref x1) ∷ rest) w = silent_answer alike_stuck
  remove_answers node (kind ∷ (value.Listener o m) ∷ []) w = silent_answer alike_stuck
  remove_answers node (kind ∷ (value.Listener o m) ∷ value.Undefined ∷ rest) w = silent_answer alike_stuck
  remove_answers node (kind ∷ (value.Listener o m) ∷ value.Null ∷ rest) w = silent_answer alike_stuck
  remove_answers node (kind ∷ (value.Listener o m) ∷ (value.Int x1) ∷ rest) w = silent_answer alike_stuck
  remove_answers node (kind ∷ (value.Listener o m) ∷ (value.Text x1) ∷ rest) w = silent_answer alike_stuck
  remove_answers node (kind ∷ (value.Listener o m) ∷ (value.Ref x1) ∷ rest) w = silent_answer alike_stuck
  remove_answers node (kind ∷ (value.Listener o m) ∷ (value.Listener x1 x2) ∷ rest) w = silent_answer alike_stuck
  remove_answers node (kind ∷ (value.Listener o m) ∷ (value.Bool capture) ∷ other ∷ rest) w = silent_answer alike_stuck

  has_answers : (node : ObjId) (vs : List Value) (w : World) → Answers q order w (source.has_listener node vs w) (natives.has_listener node vs (heap_of q order w))
  has_answers node (kind ∷ []) w =
      silent_answer (alike_bind _ (type_alike kind w) (λ event w1 r. alike_on node (λ c e. alike_goes (λ v. record { value = Some v; effect = silent Next.On }) (value.Bool (is_registered event c)) w1)))
  has_answers node [] w = silent_answer alike_stuck
  has_answers node (kind ∷ other ∷ rest) w = silent_answer alike_stuck

  -- a dispatch is marked
  mark_answers : (e : ObjId) (f : Delivery → Delivery) (w : World) → Answers q order w (source.mark e f w) (natives.mark e f (heap_of q order w))
  mark_answers e f w =
      silent_answer (changed_answer e (λ c. record c { delivery = while_open f c.delivery }) w (record { kind = λ c. refl; enabled = λ c. refl; names = λ c name. refl }))

  -- a child of a container
  child_answers : (o : ObjId) (n : ℤ) (w : World)
      → Answers q order w (on o w (λ container. source.get_element (child_at container.children n) w)) (machine.on o (heap_of q order w) (λ _. natives.give_child (Rattle.ui_runtime.specs.Tree.child o n (stage_of q order w)) (heap_of q order w)))
  child_answers o n w =
      silent_answer (alike_on o (λ c e. alike_from
      (ap (λ l. natives.give_child (child_at l n) (heap_of q order w)) (ap table.children_of (entity_there q order w o ∙ ap (option_map (λ d. entity_of q (beside w) o d)) e)))
      (at (child_at c.children n))))
    where
      at : (x : Option ObjId) → Alike q order w unrecorded (λ (v : Value). record { value = Some v; effect = silent Next.On }) (source.get_element x w) (natives.give_child x (heap_of q order w))
      at None = alike_halts (Stopped stop.ArrayIndex) w
      at (Some child) = alike_goes (λ v. record { value = Some v; effect = silent Next.On }) (value.Ref child) w

  -- a child is taken from its parent
  taken_there : (container child : ObjId) (w : World) (c : Object) (parent : ObjId) → object_at w.objects child ≡ Some c → c.parent ≡ Some parent → is_object container parent ≡ true
      → Answers q order w (bind (take_out child w) (λ _ w1. Goes (value.Ref child) w1)) (natives.remove_child container child (heap_of q order w))
  taken_there container child w c parent there from same =
      record {
        item = Some (trace.Removed container child);
        alike =
            subst (λ x. Alike q order w (λ _. Some (trace.Removed container child)) (λ v. record { value = Some v; effect = recorded (trace.Removed container child) })
            (bind (need x w (λ d. done (leave_parent child d.parent w))) (λ _ w1. Goes (value.Ref child) w1)) (natives.remove_child container child (heap_of q order w)))
            (sym there)
            (subst (λ x. Alike q order w (λ _. Some (trace.Removed container child)) (λ v. record { value = Some v; effect = recorded (trace.Removed container child) })
            (Goes (value.Ref child) (leave_parent child x w)) (natives.remove_child container child (heap_of q order w)))
            (sym from) left);
      }
    where
      held : Object → Object
      held d = record d { children = without_child child d.children }

      free : Object → Object
      free d = record d { parent = None }

      w1 : World
      w1 = change_object parent held w

      held_kept : Keeps held
      held_kept = record { kind = λ d. refl; enabled = λ d. refl; names = λ d name. refl }

      free_kept : Keeps free
      free_kept = record { kind = λ d. refl; enabled = λ d. refl; names = λ d name. refl }

      stages : Rattle.ui_runtime.specs.Tree.taken_out child (stage_of q order w) ≡ stage_of q order (change_object child free w1)
      stages =
          ap (λ x. Rattle.ui_runtime.specs.Tree.left child (parent_of x) (stage_of q order w)) (object_there q order w child ∙ there)
          ∙ ap (λ x. Rattle.ui_runtime.specs.Tree.left child x (stage_of q order w)) from
          ∙ ap (λ s. stage.change child free s) (sym (object_changed q order parent held w held_kept))
          ∙ sym (object_changed q order child free w1 free_kept)

      same_id : container ≡ parent
      same_id = ap objid (same_number container.0 parent.0 same)

      left : Alike q order w (λ _. Some (trace.Removed container child)) (λ v. record { value = Some v; effect = recorded (trace.Removed container child) })
          (Goes (value.Ref child) (note (trace.Removed parent child) (change_object child free w1))) (natives.remove_child container child (heap_of q order w))
      left =
          alike_step (λ v. record { value = Some v; effect = recorded (trace.Removed container child) }) (value.Ref child) w (note (trace.Removed parent child) (change_object child free w1)) _
          (ap (λ s. machine.Goes (record { value = Some (value.Ref child); effect = recorded (trace.Removed container child) }) (record (heap_of q order w) { stage = s })) stages)
          (record {
            level = refl;
            turns = refl;
            records = ap (λ o. w.records ++ trace.Removed o child ∷ []) (sym same_id);
            holds = λ h. record { fields = (holds_changed q child free w1 free_kept (holds_changed q parent held w held_kept h)).fields };
          })

  removed_answers : (container child : ObjId) (w : World) → Answers q order w (source.remove_element container child w) (natives.remove_element container child (heap_of q order w))
  removed_answers container child w = at (object_at w.objects child) refl
    where
      from_machine : (c : Object) → object_at w.objects child ≡ Some c → natives.remove_element container child (heap_of q order w) ≡ machine.choose (natives.is_it container c.parent) (natives.remove_child container child) (machine.stops stop.NotAChild) (heap_of q order w)
      from_machine c e = ap (λ x. machine.need x (heap_of q order w) (λ d. machine.choose (natives.is_it container d.parent) (natives.remove_child container child) (machine.stops stop.NotAChild) (heap_of q order w))) (object_there q order w child ∙ e)

      by_parent : (c : Object) → object_at w.objects child ≡ Some c → (x : Option ObjId) → c.parent ≡ x
          → Answers q order w (choose (source.is_it container x) (λ w1. bind (take_out child w1) (λ _ w2. Goes (value.Ref child) w2)) (stops stop.NotAChild) w)
          (machine.choose (natives.is_it container x) (natives.remove_child container child) (machine.stops stop.NotAChild) (heap_of q order w))
      by_parent c e None from = silent_answer (alike_halts (Stopped stop.NotAChild) w)
      by_parent c e (Some parent) from = by (is_object container parent) refl
        where
          by : (b : Bool) → is_object container parent ≡ b
              → Answers q order w (choose b (λ w1. bind (take_out child w1) (λ _ w2. Goes (value.Ref child) w2)) (stops stop.NotAChild) w)
              (machine.choose b (natives.remove_child container child) (machine.stops stop.NotAChild) (heap_of q order w))
          by true same = taken_there container child w c parent e from same
          by false other = silent_answer (alike_halts (Stopped stop.NotAChild) w)

      at : (x : Option Object) → object_at w.objects child ≡ x
          → Answers q order w (need x w (λ c. choose (source.is_it container c.parent) (λ w1. bind (take_out child w1) (λ _ w2. Goes (value.Ref child) w2)) (stops stop.NotAChild) w)) (natives.remove_element container child (heap_of q order w))
      at None e = silent_answer alike_stuck
      at (Some c) e = subst (λ y. Answers q order w (choose (source.is_it container c.parent) (λ w1. bind (take_out child w1) (λ _ w2. Goes (value.Ref child) w2)) (stops stop.NotAChild) w) y) (sym (from_machine c e)) (by_parent c e c.parent refl)

  -- an object that is given
  given_answers : (v : Value) (w : World) (f : ObjId → World → Result Value) (k : ObjId → Heap → machine.Result Reply) → ((o : ObjId) → Answers q order w (f o w) (k o (heap_of q order w)))
      → Answers q order w (bind (source.object_given v w) f) (machine.bind (natives.object_given v (heap_of q order w)) k)
  given_answers (value.Ref o) w f k t = t o
  given_answers value.Null w f k t = silent_answer (alike_halts (Stopped stop.NullReference) w)
  given_answers value.Undefined w f k t = silent_answer alike_stuck
  given_answers (value.Bool b) w f k t = silent_answer alike_stuck
  given_answers (value.Int n) w f k t = silent_answer alike_stuck
  given_answers (value.Text x) w f k t = silent_answer alike_stuck
  given_answers (value.Listener o m) w f k t = silent_answer alike_stuck

  -- the methods of the catalog that give their values at once
  pub native_answers : (c : Context) (keeps : Bool) (m : NativeMethod) → gives_at_once m ≡ true → (o : ObjId) (vs : List Value) (w : World)
      → Answers q order w (source.call_native c m o vs w) (natives.call_native keeps m o vs (heap_of q order w))
  native_answers c keeps catalog.AddEventListener at_once o vs w = add_answers o vs w
  native_answers c keeps catalog.RemoveEventListener at_once o vs w = remove_answers o vs w
  native_answers c keeps catalog.HasEventListener at_once o vs w = has_answers o vs w
  native_answers c keeps catalog.DispatchEvent at_once o vs w = absurd cc
  native_answers c keeps catalog.AddElement at_once o vs w = absurd cc
  native_answers c keeps catalog.RemoveAllElements at_once o vs w = absurd cc
  native_answers c keeps catalog.RemoveElement at_once o [] w = silent_answer alike_stuck
  native_answers c keeps catalog.RemoveElement at_once o (v ∷ []) w = given_answers v w _ _ (λ child. removed_answers o child w)
  native_answers c keeps catalog.RemoveElement at_once o (v ∷ u ∷ rest) w = silent_answer alike_stuck
  native_answers c keeps catalog.GetElementAt at_once o [] w = silent_answer alike_stuck
  native_answers c keeps catalog.GetElementAt at_once o (value.Int n ∷ []) w = child_answers o n w
  native_answers c keeps catalog.GetElementAt at_once o (value.Null ∷ []) w = silent_answer (alike_halts (Stopped stop.NullReference) w)
  native_answers c keeps catalog.GetElementAt at_once o (value.Undefined ∷ []) w = silent_answer alike_stuck
  native_answers c keeps catalog.GetElementAt at_once o (value.Bool x1 ∷ []) w = silent_answer alike_stuck
  native_answers c keeps catalog.GetElementAt at_once o (value.Text x1 ∷ []) w = silent_answer alike_stuck
  native_answers c keeps catalog.GetElementAt at_once o (value.Ref x1 ∷ []) w = silent_answer alike_stuck
  native_answers c keeps catalog.GetElementAt at_once o (value.Listener x1 x2 ∷ []) w = silent_answer alike_stuck
  native_answers c keeps catalog.GetElementAt at_once o (v ∷ u ∷ rest) w = silent_answer alike_stuck
  native_answers c keeps catalog.StopPropagation at_once o [] w = mark_answers o stopped_delivery w
  native_answers c keeps catalog.StopPropagation at_once o (v ∷ []) w = given_answers v w _ _ (λ other. silent_answer alike_stuck)
  native_answers c keeps catalog.StopPropagation at_once o (v ∷ u ∷ rest) w = silent_answer alike_stuck
  native_answers c keeps catalog.StopImmediatePropagation at_once o [] w = mark_answers o delivery_stopped_at_once w
  native_answers c keeps catalog.StopImmediatePropagation at_once o (v ∷ []) w = given_answers v w _ _ (λ other. silent_answer alike_stuck)
  native_answers c keeps catalog.StopImmediatePropagation at_once o (v ∷ u ∷ rest) w = silent_answer alike_stuck
  native_answers c keeps catalog.PreventDefault at_once o [] w = mark_answers o prevented_delivery w
  native_answers c keeps catalog.PreventDefault at_once o (v ∷ []) w = given_answers v w _ _ (λ other. silent_answer alike_stuck)
  native_answers c keeps catalog.PreventDefault at_once o (v ∷ u ∷ rest) w = silent_answer alike_stuck
  native_answers c keeps catalog.IsDefaultPrevented at_once o [] w = silent_answer (alike_on o (λ event e. alike_goes (λ v. record { value = Some v; effect = silent Next.On }) (value.Bool (prevented_now event.delivery)) w))
  native_answers c keeps catalog.IsDefaultPrevented at_once o (v ∷ []) w = given_answers v w _ _ (λ other. silent_answer alike_stuck)
  native_answers c keeps catalog.IsDefaultPrevented at_once o (v ∷ u ∷ rest) w = silent_answer alike_stuck
