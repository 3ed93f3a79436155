-- The machine does what assignments to properties mean.
use Rattle.std.proofs.Common.{◌≡◌, refl, sym, ap, ◌∙◌, subst}
use Rattle.std.specs.Prelude.{Bool, List, None, Option, Some, false, if◌then◌else◌, is_some, map, suc, true, ℕ, ◌||◌, ◌∷◌, ◌≤◌}
use Rattle.flex_base.specs.Value.{same}
use Rattle.flex_base.specs.declared.outcome.MachineFault.TheVariants as fault
use Rattle.flex_base.specs.declared.record.TraceItem.TheVariants as trace
use Rattle.flex_base.specs.declared.record.TraceItem.{TraceItem}
use Rattle.flex_base.specs.declared.value.ObjId.{ObjId}
use Rattle.flex_base.specs.declared.value.Value.TheVariants as value
use Rattle.flex_base.specs.declared.value.Value.{Value}
use Rattle.flex_world.specs.Objects.{Field, Object, can_be_written, field_named, is_state_field, object_at, with_value}
use Rattle.flex_world.specs.Objects.{Watcher}
use Rattle.flex_program.specs.Classes.{has_property}
use Rattle.flex_meaning.specs.Changes as changes
use Rattle.flex_meaning.specs.Expressions.{Env, receiver}
use Rattle.flex_meaning.specs.Results.{bind, choose, guarded, need}
use Rattle.flex_meaning.specs.Results.{done}
use Rattle.flex_meaning.specs.Storing as source
use Rattle.flex_meaning.specs.World.{World, note, set_field}
use Rattle.flex_meaning.specs.Writes.{assign, write, write_converted}
use Rattle.program_code.specs.Names.{member_name}
use Rattle.program_simulation.proofs.Bodies.{Here, acted_at, at, code_frame, ctx, heap, image, unseen_of, work}
use Rattle.program_simulation.proofs.Equations.{convert_alike, found_there}
use Rattle.program_simulation.proofs.Follows.{Onward, sim_done, sim_guarded, sim_halts, sim_need, sim_stuck}
use Rattle.program_simulation.proofs.Moving.{convert_stays, part_landed}
use Rattle.program_simulation.proofs.Standing.{changed_there, holds_changed, object_there}
use Rattle.program_simulation.proofs.Storing.{apply_starting, found_named, made_starting, place_starting, value_kept, written_new, written_same}
use Rattle.program_simulation.specs.Following.{Holds, Meets, Sim, seen}
use Rattle.program_simulation.specs.Laws.{bindings_to_start}
use Rattle.program_simulation.specs.Stands.{machine_of, playing, stage_of, watched_of}
use Rattle.avm2_program.specs.declared.member.Member.TheVariants as Member
use Rattle.avm2_program.specs.declared.operation.Operation.{Operation}
use Rattle.avm2_program.specs.declared.names.Name.{Name}
use Rattle.watch_table.specs.Affected as watch
use Rattle.flex_objects.specs.declared.properties.Stored.TheVariants as stored_as
use Rattle.ui_runtime.specs.Properties as stored
use Rattle.ui_runtime.specs.Stage as stage
use Rattle.ui_runtime.specs.declared.writing.Written.TheVariants as written
use Rattle.avm2_meaning.specs.Apply.{apply, made_by, proceed, settled}
use Rattle.avm2_meaning.specs.Conversions as conversions
use Rattle.avm2_meaning.specs.Effects.{acted, effect}
use Rattle.avm2_meaning.specs.declared.effect.Effect.{Effect}
use Rattle.avm2_meaning.specs.declared.frame.Frame.{Frame}
use Rattle.avm2_meaning.specs.Machine.{Machine, above, moved}
use Rattle.avm2_meaning.specs.Members.{found}
use Rattle.avm2_meaning.specs.declared.operand.Operand.{Operand}
use Rattle.avm2_meaning.specs.declared.operand.Operand.TheVariants.{Plain}
use Rattle.avm2_meaning.specs.Properties as properties
use Rattle.avm2_meaning.specs.Results as machine
use Rattle.avm2_meaning.specs.States as states
use Rattle.avm2_meaning.specs.Trace.{Playing}

module _ (h : Here) where
  abbrev written_by : (a : ℕ) (top st : List Operand) (env : Env) (op : Operation) → machine.Result Effect → List ObjId → World → Playing
  written_by a top st env op x order w = acted_at h a top env op (machine.bind x (λ e h2. machine.Goes (acted e (work h st env)) h2)) order w

  abbrev behind : ℕ → List Operand → Env → Onward (Unit {0})
  behind a st env u w x = at h (suc a) st env x.order w

  -- a value is stored
  store_sim : (n : ℕ) → n ≤ h.n → (a : ℕ) (top st : List Operand) (env : Env) (name : Name) (o : ObjId) (c : Object) (f : Field) (v : Value) (order : List ObjId) (w : World)
      → object_at w.objects o ≡ Some c → field_named f.name c.fields ≡ Some f → Meets (image h) n w
      → Sim (image h) n (written_by a top st env (Operation.SetProperty name) (properties.store_field o f v (heap h order w)) order w)
      (choose (same f.value v) done (source.store (ctx h) o f v) w) (behind a st env)
  store_sim n le a top st env name o c f v order w there has ok = at_same (same f.value v) refl
    where
      w1 : World
      w1 = set_field o f.name v w

      s1 : Rattle.ui_runtime.specs.Stage.Stage
      s1 = stage_of (image h) order w1

      came : Rattle.ui_runtime.specs.declared.writing.Written.Written → Rattle.ui_runtime.specs.Stage.Stage → Option TraceItem → Playing
      came x s item = acted_at h a top env (Operation.SetProperty name) (machine.Goes (acted (properties.stored_as x item) (work h st env)) (record (heap h order w) { stage = s })) order w

      held1 : Holds (image h).source w1
      held1 = holds_changed (image h) o (λ d. record d { fields = with_value f.name v d.fields }) w (value_kept f.name v) ok.holds

      noted_if : Bool → World
      noted_if b = if b then note (trace.Written o f.text v) w1 else w1

      meets : (b : Bool) → Meets (image h) n (noted_if b)
      meets true = record { turns = ok.turns; holds = record { fields = held1.fields } }
      meets false = record { turns = ok.turns; holds = held1 }

      kept : Object
      kept = record c { fields = with_value f.name v c.fields }

      kept_there : (b : Bool) → object_at (noted_if b).objects o ≡ Some kept
      kept_there true = changed_there o (λ d. record d { fields = with_value f.name v d.fields }) w.objects c there
      kept_there false = changed_there o (λ d. record d { fields = with_value f.name v d.fields }) w.objects c there

      watchers : List Watcher
      watchers = map properties.watcher_of (watch.affected (stage.held s1) o f.name (watched_of (image h) order w1.objects))

      frame : Frame
      frame = Frame.Code (code_frame h (suc a) st env)

      item_if : Bool → Option TraceItem
      item_if b = if b then Some (trace.Written o f.text v) else None

      machine_then : Machine
      machine_then = machine_of h.setting h.frames order w1

      started : (b : Bool) → came (written.Changed (watch.affected (stage.held s1) o f.name (watched_of (image h) order w1.objects))) s1 (item_if b)
          ≡ playing h.setting (proceed (image h).program (bindings_to_start (image h) order o f.name (noted_if b)) (machine_of h.setting (frame ∷ h.frames) order (noted_if b))) (noted_if b).records
      started b =
          ap (λ p. seen h.setting w.records (settled (effect (properties.starting_all watchers) (item_if b)) (apply (image h).program (Frame.Code (record (code_frame h a top env) { place = p; work = work h st env })) (properties.starting_all watchers) machine_then)))
          (place_starting (Operation.SetProperty name) (suc a) watchers)
          ∙ ap (λ m. seen h.setting w.records (moved (made_by (properties.starting_all watchers) (item_if b) m.outcome) m)) (apply_starting (image h).program frame watchers machine_then)
          ∙ ap (λ i. seen h.setting w.records (moved i (proceed (image h).program (properties.starting_all watchers) (above frame machine_then))))
          (made_starting watchers (item_if b) (proceed (image h).program (properties.starting_all watchers) (above frame machine_then)).outcome)
          ∙ sides b
        where
          sides : (b1 : Bool) → seen h.setting w.records (moved (item_if b1) (proceed (image h).program (properties.starting_all watchers) (above frame machine_then)))
              ≡ playing h.setting (proceed (image h).program (bindings_to_start (image h) order o f.name (noted_if b1)) (machine_of h.setting (frame ∷ h.frames) order (noted_if b1))) (noted_if b1).records
          sides true = refl
          sides false = refl

      stored_sim : (b bindable : Bool) → Sim (image h) n (came (stored.written_as o f.name (Some (if bindable then stored_as.Watched else stored_as.Silent)) s1) s1 (item_if b))
          (choose bindable (source.start_affected (ctx h) o f.name) done (noted_if b)) (behind a st env)
      stored_sim true false = sim_done {v = tt} {k = behind a st env} (unseen_of h order) (meets true)
      stored_sim false false = sim_done {v = tt} {k = behind a st env} (unseen_of h order) (meets false)
      stored_sim b true =
          subst (λ p. Sim (image h) n p (source.start_affected (ctx h) o f.name (noted_if b)) (behind a st env)) (sym (started b))
          (h.law.starts n le o kept f.name (frame ∷ h.frames) order (noted_if b) (kept_there b) ((value_kept f.name v).names c f.name ∙ ap is_some has) (meets b))

      at_same : (b : Bool) → same f.value v ≡ b → Sim (image h) n (written_by a top st env (Operation.SetProperty name) (properties.store_field o f v (heap h order w)) order w)
          (choose b done (source.store (ctx h) o f v) w) (behind a st env)
      at_same true eq =
          subst (λ x. Sim (image h) n (came x.0 x.1 (properties.written_item o f v)) (done w) (behind a st env)) (sym (written_same (image h) order w o c f.name f v there has eq))
          (sim_done {v = tt} {k = behind a st env} (unseen_of h order) ok)
      at_same false eq =
          subst (λ x. Sim (image h) n (came x.0 x.1 (properties.written_item o f v)) (source.store (ctx h) o f v w) (behind a st env)) (sym (written_new (image h) order w o c f.name f v there has eq))
          (stored_sim (f.public || f.bindable) f.bindable)

  -- or a state is asked for
  write_sim : (n : ℕ) → n ≤ h.n → (a : ℕ) (top st : List Operand) (env : Env) (name : Name) (o : ObjId) (c : Object) (f : Field) (v : Value) (order : List ObjId) (w : World)
      → object_at w.objects o ≡ Some c → field_named f.name c.fields ≡ Some f → Meets (image h) n w
      → Sim (image h) n (written_by a top st env (Operation.SetProperty name) (properties.write_field (image h).program o f v (heap h order w)) order w) (write (ctx h) o f v w) (behind a st env)
  write_sim n le a top st env name o c f v order w there has ok = by (is_state_field f)
    where
      by : (b : Bool) → Sim (image h) n (written_by a top st env (Operation.SetProperty name) (machine.choose b (states.request o v) (properties.store_field o f v) (heap h order w)) order w)
          (choose b (changes.request (ctx h) o v) (choose (same f.value v) done (source.store (ctx h) o f v)) w) (behind a st env)
      by true = h.law.asks n le o v h.frames (code_frame h a top env) (Operation.SetProperty name) (work h st env) order w ok
      by false = store_sim n le a top st env name o c f v order w there has ok

  -- a property of an object is assigned
  pub assign_sim : (n : ℕ) → n ≤ h.n → (a : ℕ) (name : List ℕ) (top st : List Operand) (u v : Value) (env : Env) (order : List ObjId) (w : World) → Meets (image h) n w
      → Sim (image h) n (acted_at h a top env (Operation.SetProperty (member_name name)) (machine.bind (found (image h).program (Plain u) (member_name name) (heap h order w)) (λ m h1. machine.bind (properties.write (image h).program (Plain u) m (Plain v) h1) (λ e h2. machine.Goes (acted e (work h st env)) h2))) order w)
      (bind (receiver false u w) (λ o w1. assign (ctx h) o name v w1)) (behind a st env)
  assign_sim n le a name top st (value.Ref o) v env order w ok = seen_at (object_at w.objects o) refl
    where
      start : Playing
      start = acted_at h a top env (Operation.SetProperty (member_name name)) (machine.bind (found (image h).program (Plain (value.Ref o)) (member_name name) (heap h order w)) (λ m h1. machine.bind (properties.write (image h).program (Plain (value.Ref o)) m (Plain v) h1) (λ e h2. machine.Goes (acted e (work h st env)) h2))) order w

      convert_then : Field → machine.Result Operand → machine.Result Effect
      convert_then f y = machine.bind (machine.bind y (λ v1 h1. machine.plain v1 h1)) (λ v1 h2. properties.write_field (image h).program o f v1 h2)

      seen_as : (c : Object) (f : Field) → object_at w.objects o ≡ Some c → has_property (image h).source c.kind name ≡ true → field_named name c.fields ≡ Some f → can_be_written f ≡ true
          → start ≡ written_by a top st env (Operation.SetProperty (member_name name)) (convert_then f (conversions.convert (image h).program f.type (Plain v) (heap h order w))) order w
      seen_as c f e has is can =
          ap (λ y. acted_at h a top env (Operation.SetProperty (member_name name)) (machine.bind y (λ m h1. machine.bind (properties.write (image h).program (Plain (value.Ref o)) m (Plain v) h1) (λ e1 h2. machine.Goes (acted e1 (work h st env)) h2))) order w)
          (found_there (image h) order w o c (member_name name) (Member.Slot name) e (h.is.property c.kind name has))
          ∙ ap (λ y. written_by a top st env (Operation.SetProperty (member_name name)) (machine.need y (heap h order w) (λ d. properties.write_kept (image h).program o (field_named name d.fields) (Plain v) (heap h order w))) order w) (object_there (image h) order w o ∙ e)
          ∙ ap (λ y. written_by a top st env (Operation.SetProperty (member_name name)) (properties.write_kept (image h).program o y (Plain v) (heap h order w)) order w) is
          ∙ ap (λ b. written_by a top st env (Operation.SetProperty (member_name name)) (machine.bind (machine.test fault.WrongKind b (heap h order w)) (λ _ h1. machine.bind (properties.into_slot (image h).program f.type (Plain v) h1) (λ v1 h2. properties.write_field (image h).program o f v1 h2))) order w) can

      seen_at : (x : Option Object) → object_at w.objects o ≡ x
          → Sim (image h) n start (need x w (λ d. guarded (has_property (image h).source d.kind name) (λ w1. need (field_named name d.fields) w1 (λ f. guarded (can_be_written f) (write_converted (ctx h) o f v) w1)) w)) (behind a st env)
      seen_at None e = sim_stuck
      seen_at (Some c) e =
          sim_guarded (has_property (image h).source c.kind name) w _ (λ has.
          sim_need (field_named name c.fields) w (λ f is.
          sim_guarded (can_be_written f) w _ (λ can.
          subst (λ p. Sim (image h) n p (write_converted (ctx h) o f v w) (behind a st env)) (sym (seen_as c f e has is can))
          (part_landed h.setting n h.frames (code_frame h a top env) (Operation.SetProperty (member_name name)) order w
          (λ y. machine.bind (convert_then f y) (λ e1 h2. machine.Goes (acted e1 (work h st env)) h2)) _
          (convert_alike h.is f.type v w) (convert_stays (image h).source f.type v w) (λ o1. refl)
          (λ v1. write_sim n le a top st env (member_name name) o c f v1 order w e (found_named name c.fields f is) ok)))))
  assign_sim n le a name top st value.Null v env order w ok = sim_halts refl refl
  assign_sim n le a name top st value.Undefined v env order w ok = sim_halts refl refl
  assign_sim n le a name top st (value.Bool x) v env order w ok = sim_stuck
  assign_sim n le a name top st (value.Int x) v env order w ok = sim_stuck
  assign_sim n le a name top st (value.Text x) v env order w ok = sim_stuck
  assign_sim n le a name top st (value.Listener x y) v env order w ok = sim_stuck
