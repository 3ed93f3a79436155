-- Objects are made in both meanings.
use Rattle.std.proofs.Common.{◌≡◌, refl, sym, ap, ◌∙◌, subst}
use Rattle.std.specs.List.{find, list_any}
use Rattle.std.specs.Prelude.{Bool, List, None, Option, Some, [], false, if◌then◌else◌, is_some, map, nat_lt, not, option_map, suc, true, ℕ, ◌&&◌, ◌++◌, ◌+◌, ◌==◌, ◌||◌, ◌∷◌}
use Rattle.std.specs.Str.{bytes_eq}
use Rattle.flex_base.specs.Value.{and_then, is_object}
use Rattle.flex_base.specs.declared.outcome.Stop.TheVariants as stop
use Rattle.flex_base.specs.declared.record.TraceItem.TheVariants as trace
use Rattle.flex_base.specs.declared.value.ObjId.{ObjId}
use Rattle.flex_base.specs.declared.value.Value.TheVariants as value
use Rattle.component_catalog.specs.declared.class.NativeClass.{NativeClass}
use Rattle.flex_world.specs.Classes.{is_event}
use Rattle.flex_world.specs.declared.kind.Class.{Class}
use Rattle.flex_world.specs.Making.{new_object, object_cost}
use Rattle.flex_world.specs.Objects.{Instance_of, Object, is_object_among, next_object, ref_or_null}
use Rattle.flex_program.specs.Classes.{bases, class_name, document_of, fields_of}
use Rattle.flex_program.specs.Instances.{parts_of}
use Rattle.flex_program.specs.Program as program
use Rattle.flex_program.specs.Program.{Document, Override, Part, State}
use Rattle.flex_meaning.specs.Objects as source
use Rattle.flex_meaning.specs.Results.{Goes, bind, done, guarded, need, stops}
use Rattle.flex_meaning.specs.States.{saved_at}
use Rattle.flex_meaning.specs.World.{Built, Saved, World, is_fresh, is_of_instance, note}
use Rattle.program_simulation.proofs.Equations.{number_alike, paid_alike}
use Rattle.program_simulation.proofs.Follows.{Alike, EveryEnd, Rest, alike_from, alike_guarded_later, alike_step, alike_stuck}
use Rattle.program_simulation.proofs.Standing.{last_there}
use Rattle.program_simulation.specs.Image.{IsImage, IsShape, first_slots}
use Rattle.program_simulation.specs.Laws.{IsNew, IsNewDocument}
use Rattle.program_simulation.specs.Stands.{Beside, Image, behind_root, beside, document_inside, enabled_from, heap_of, hidden_field, hidden_slots, inside_of, instance_slot, no_document, nothing_beside, override_slots, registered_from, saved_object, saved_value, stage_of, state_slots}
use Rattle.avm2_program.specs.Naming.{Naming}
use Rattle.flex_objects.specs.Entities.{Entity, Shape}
use Rattle.ui_runtime.specs.Making.{pays, takes_number, with_entity}
use Rattle.ui_runtime.specs.Stage as stage
use Rattle.ui_runtime.specs.Stage.{objects}
use Rattle.avm2_meaning.specs.Classes as classes
use Rattle.avm2_meaning.specs.Classes.{native_of}
use Rattle.avm2_meaning.specs.Making as making
use Rattle.avm2_meaning.specs.Results as machine
use Rattle.avm2_meaning.specs.Results.{inside}

both : (a b : Bool) → (a && b) ≡ true → (a ≡ true) × (b ≡ true)
both true b e = (refl, e)
both false b e = absurd cc

isnt : (b : Bool) → not b ≡ true → b ≡ false
isnt false e = refl
isnt true e = absurd cc

or_none : (a b : Bool) → (a || b) ≡ false → (a ≡ false) × (b ≡ false)
or_none false b e = (refl, e)
or_none true b e = absurd cc

none_built : (built : List Built) (o : ObjId) (number : ℕ) → list_any (λ b. is_object b.document o) built ≡ false → find (is_of_instance o number) built ≡ None
none_built [] o number e = refl
none_built (b ∷ built) o number e =
    let h = or_none (is_object b.document o) (list_any (λ c. is_object c.document o) built) e in
    ap (λ t. if t && (b.instance == number) then Some b else find (is_of_instance o number) built) h.0 ∙ none_built built o number h.1

none_saved : (saved : List Saved) (o : ObjId) (state : List ℕ) (place : ℕ) → list_any (λ s. is_object s.document o) saved ≡ false → saved_at o state place saved ≡ None
none_saved [] o state place e = refl
none_saved (s ∷ saved) o state place e =
    let h = or_none (is_object s.document o) (list_any (λ c. is_object c.document o) saved) e in
    ap (λ t. if t && (s.place == place) && bytes_eq s.state state then Some s else saved_at o state place saved) h.0 ∙ none_saved saved o state place h.1

module _ (q : Image) where
  zero_id : ObjId
  zero_id = record { 0 = 0 }

  fresh_instances : (b : Beside) (o : ObjId) → list_any (λ x. is_object x.document o) b.built ≡ false → (ps : List Part) → map (instance_slot q.labels b o) ps ≡ map (instance_slot q.labels nothing_beside zero_id) ps
  fresh_instances b o e [] = refl
  fresh_instances b o e (p ∷ ps) =
      ap (λ x. hidden_field (q.labels.instance_key p.number) (ref_or_null (option_map (λ y. y.object) x)) ∷ map (instance_slot q.labels b o) ps) (none_built b.built o p.number e)
      ∙ ap (λ l. hidden_field (q.labels.instance_key p.number) value.Null ∷ l) (fresh_instances b o e ps)

  fresh_overrides : (b : Beside) (o : ObjId) → list_any (λ s. is_object s.document o) b.saved ≡ false → (name : List ℕ) (state place : ℕ) (os : List Override)
      → override_slots q.labels b o name state place os ≡ override_slots q.labels nothing_beside zero_id name state place os
  fresh_overrides b o e name state place [] = refl
  fresh_overrides b o e name state place (x ∷ os) =
      ap (λ y. hidden_field (q.labels.object_key state place) (saved_object y) ∷ hidden_field (q.labels.value_key state place) (saved_value y) ∷ override_slots q.labels b o name state (suc place) os) (none_saved b.saved o name place e)
      ∙ ap (λ l. hidden_field (q.labels.object_key state place) value.Null ∷ hidden_field (q.labels.value_key state place) value.Null ∷ l) (fresh_overrides b o e name state (suc place) os)

  fresh_states : (b : Beside) (o : ObjId) → list_any (λ s. is_object s.document o) b.saved ≡ false → (k : ℕ) (ss : List State) → state_slots q.labels b o k ss ≡ state_slots q.labels nothing_beside zero_id k ss
  fresh_states b o e k [] = refl
  fresh_states b o e k (s ∷ ss) =
      ap (λ l. l ++ state_slots q.labels b o (suc k) ss) (fresh_overrides b o e s.name k 0 s.overrides)
      ∙ ap (λ l. override_slots q.labels nothing_beside zero_id s.name k 0 s.overrides ++ l) (fresh_states b o e (suc k) ss)

  none_enabled : (class : ℕ) (o : ObjId) (n : ℕ) (bs : List program.Binding) → enabled_from q.labels class o [] n bs ≡ []
  none_enabled class o n [] = refl
  none_enabled class o n (b ∷ bs) = none_enabled class o (suc n) bs

  -- nothing stands beside a new object but the slots of its document
  fresh_document : (w : World) (o : ObjId) (class : ℕ) (native : Option NativeClass) → is_fresh o w ≡ true → (x : Option Document)
      → document_inside q.labels (beside w) o class [] native x ≡ record (no_document native) { hidden = first_slots q x }
  fresh_document w o class native e None = refl
  fresh_document w o class native e (Some d) =
      let h1 = both (not (list_any (λ b. is_object b.document o) w.built) && not (list_any (λ s. is_object s.document o) w.saved) && not (is_object_among o w.registered)) (not (is_object_among o w.begun)) e in
      let h2 = both (not (list_any (λ b. is_object b.document o) w.built) && not (list_any (λ s. is_object s.document o) w.saved)) (not (is_object_among o w.registered)) h1.0 in
      let h3 = both (not (list_any (λ b. is_object b.document o) w.built)) (not (list_any (λ s. is_object s.document o) w.saved)) h2.0 in
      let b1 = isnt (list_any (λ b. is_object b.document o) w.built) h3.0 in
      let b2 = isnt (list_any (λ s. is_object s.document o) w.saved) h3.1 in
      ap (λ l. record { native = native; hidden = l; begun = is_object_among o w.begun; states = if is_object_among o w.registered then registered_from q.labels class o 0 d.states else []; bindings = enabled_from q.labels class o [] 0 d.bindings })
      (ap (λ l. l ++ state_slots q.labels (beside w) o 0 d.states) (fresh_instances (beside w) o b1 (behind_root (parts_of d.root))) ∙ ap (λ l. map (instance_slot q.labels nothing_beside zero_id) (behind_root (parts_of d.root)) ++ l) (fresh_states (beside w) o b2 0 d.states))
      ∙ ap (λ t. record { native = native; hidden = hidden_slots q.labels nothing_beside zero_id d; begun = is_object_among o w.begun; states = if t then registered_from q.labels class o 0 d.states else []; bindings = enabled_from q.labels class o [] 0 d.bindings }) (isnt (is_object_among o w.registered) h2.1)
      ∙ ap (λ t. record { native = native; hidden = hidden_slots q.labels nothing_beside zero_id d; begun = t; states = []; bindings = enabled_from q.labels class o [] 0 d.bindings }) (isnt (is_object_among o w.begun) h1.1)
      ∙ ap (λ l. record { native = native; hidden = hidden_slots q.labels nothing_beside zero_id d; begun = false; states = []; bindings = l }) (none_enabled class o 0 d.bindings)

  fresh_inside : (w : World) (o : ObjId) (class : Class) → is_fresh o w ≡ true
      → inside_of q (beside w) o (Instance_of class) [] ≡ record (no_document (native_of q.program class)) { hidden = first_slots q (document_of q.source class) }
  fresh_inside w o (Class.Native class) e = refl
  fresh_inside w o (Class.File k) e = fresh_document w o k (native_of q.program (Class.File k)) e (document_of q.source (Class.File k))

module _ {q : Image} {g : Naming} (is : IsImage g q) {order : List ObjId} where
  -- the record of a new object
  noted_alike : (class : Class) (w0 w : World) (o : ObjId) (x : machine.Result ObjId) → x ≡ machine.Goes o (heap_of q order w) → Rest q None w0 w
      → Alike q order w0 (making.made_item q.program class) (λ n. n) (source.note_made q.source class o w) x
  noted_alike class w0 w o x e r =
      subst (λ l. Alike q order w0 (λ n. if is_event l class then None else Some (trace.Made n (classes.class_name q.program class))) (λ n. n) (source.note_made q.source class o w) x) (sym is.bases_are)
      (by (is_event (bases q.source) class))
    where
      named : (name : Option (List ℕ)) → class_name q.source class ≡ name
          → Alike q order w0 (λ n. Some (trace.Made n (classes.class_name q.program class))) (λ n. n) (need name w (λ z. Goes o (note (trace.Made o z) w))) x
      named None f = alike_stuck
      named (Some name) f =
          alike_step (λ n. n) o w0 (note (trace.Made o name) w) x e
          (record {
            level = r.level;
            turns = r.turns;
            records = ap (λ rs. rs ++ trace.Made o name ∷ []) r.records ∙ ap (λ y. w0.records ++ trace.Made o y ∷ []) (sym (is.names class name f));
            holds = λ h. record { fields = (r.holds h).fields };
          })

      by : (b : Bool) → Alike q order w0 (λ n. if b then None else Some (trace.Made n (classes.class_name q.program class))) (λ n. n)
          (if b then Goes o w else need (class_name q.source class) w (λ name. Goes o (note (trace.Made o name) w))) x
      by true = alike_step (λ n. n) o w0 w x e r
      by false = named (class_name q.source class) refl

  -- an object is made as the shape of its class says
  pub allocate_alike : (class : Class) (shape : Shape) (w : World) → IsShape q class shape
      → Alike q order w (making.made_item q.program class) (λ o. o) (source.allocate q.source class w) (making.allocate_as shape (heap_of q order w))
  allocate_alike class shape w has =
      alike_from
      (ap (λ z. machine.staged (heap_of q order w) (and_then (pays (object_cost z) (stage_of q order w)) (takes_number (record { object = new_object (Instance_of shape.class) z []; inside = record (no_document shape.native) { hidden = shape.hidden } })))) has.fields
      ∙ ap (λ z. machine.staged (heap_of q order w) (and_then (pays (object_cost (fields_of q.source class)) (stage_of q order w)) (takes_number (record { object = new_object (Instance_of z) (fields_of q.source class) []; inside = record (no_document shape.native) { hidden = shape.hidden } })))) has.class_is
      ∙ ap (λ z. machine.staged (heap_of q order w) (and_then (pays (object_cost (fields_of q.source class)) (stage_of q order w)) (takes_number (record { object = new_object (Instance_of class) (fields_of q.source class) []; inside = record (no_document z) { hidden = shape.hidden } })))) has.native_is
      ∙ ap (λ z. machine.staged (heap_of q order w) (and_then (pays (object_cost (fields_of q.source class)) (stage_of q order w)) (takes_number (record { object = new_object (Instance_of class) (fields_of q.source class) []; inside = record (no_document (native_of q.program class)) { hidden = z } })))) has.hidden)
      (paid_alike (object_cost (fields_of q.source class)) entity w _ (alike_guarded_later (is_fresh (next_object w.objects) paid) w paid (source.make_bare q.source class) (λ e. made e)))
    where
      object : Object
      object = new_object (Instance_of class) (fields_of q.source class) []

      entity : Entity
      entity = record { object = object; inside = record (no_document (native_of q.program class)) { hidden = first_slots q (document_of q.source class) } }

      paid : World
      paid = record w { cells = w.cells + object_cost (fields_of q.source class) }

      made : is_fresh (next_object w.objects) paid ≡ true
          → Alike q order w (making.made_item q.program class) (λ o. o) (source.make_bare q.source class paid)
          (machine.Goes (stage.next_number (stage_of q order w)) (record (heap_of q order w) { stage = with_entity entity (record (stage_of q order w) { cells = w.cells + object_cost (fields_of q.source class) }) }))
      made e =
          let a = number_alike {q = q} {order = order} w paid object entity.inside (fresh_inside q paid (next_object w.objects) class e) refl (λ name. refl) (record { level = refl; turns = refl; records = refl; holds = λ h. record { fields = h.fields } }) in
          noted_alike class w (record paid { objects = paid.objects ++ object ∷ [] }) (next_object w.objects) _ a.holds.0 a.holds.1

-- what is no document needs no new object
pub no_document_there : (p : program.Program) (k : ℕ) (o : ObjId) (w : World) → document_of p (Class.File k) ≡ None → IsNewDocument p k o w
no_document_there p k o w e some = absurd (let contrary = sym some ∙ ap is_some e in cc)

-- what is made is new
pub allocated_new : (p : program.Program) (k : ℕ) (w : World) → EveryEnd (λ o w1. IsNew k o w1) (source.allocate p (Class.File k) w)
allocated_new p k w = paid (nat_lt 1000000 (w.cells + object_cost (fields_of p (Class.File k))))
  where
    object : Object
    object = new_object (Instance_of (Class.File k)) (fields_of p (Class.File k)) []

    before : World
    before = record w { cells = w.cells + object_cost (fields_of p (Class.File k)) }

    after : World
    after = record before { objects = w.objects ++ object ∷ [] }

    o : ObjId
    o = next_object w.objects

    named : is_fresh o before ≡ true → (name : Option (List ℕ)) → EveryEnd (λ o1 w1. IsNew k o1 w1) (need name after (λ z. Goes o (note (trace.Made o z) after)))
    named e None = tt
    named e (Some name) = record { object = object; there = last_there w.objects object; kind_is = refl; fresh = e }

    noted : is_fresh o before ≡ true → (b : Bool) → EveryEnd (λ o1 w1. IsNew k o1 w1) (if b then Goes o after else need (class_name p (Class.File k)) after (λ z. Goes o (note (trace.Made o z) after)))
    noted e true = record { object = object; there = last_there w.objects object; kind_is = refl; fresh = e }
    noted e false = named e (class_name p (Class.File k))

    fresh : (b : Bool) → is_fresh o before ≡ b → EveryEnd (λ o1 w1. IsNew k o1 w1) (guarded b (source.make_bare p (Class.File k)) before)
    fresh true e = noted e (is_event (bases p) (Class.File k))
    fresh false e = tt

    paid : (b : Bool) → EveryEnd (λ o1 w1. IsNew k o1 w1)
        (bind (if b then stops stop.Cells w else done before) (λ _ w1. guarded (is_fresh (next_object w1.objects) w1) (source.make_bare p (Class.File k)) w1))
    paid true = tt
    paid false = fresh (is_fresh o before) refl
