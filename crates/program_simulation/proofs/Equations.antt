-- The operations of both meanings are alike.
use Rattle.std.proofs.Common.{◌≡◌, refl, sym, ap, ◌∙◌}
use Rattle.std.specs.List.{list_any}
use Rattle.std.specs.Prelude.{Bool, Err, List, None, Ok, Option, Some, [], false, if◌then◌else◌, is_some, length, map, nat_lt, option_and_then, option_map, suc, true, ℕ, ◌++◌, ◌+◌, ◌||◌, ◌∷◌}
use Rattle.std.specs.Prelude.{Result as Computed}
use Rattle.flex_base.specs.Value.{and_then}
use Rattle.flex_base.specs.declared.outcome.MachineFault.TheVariants as fault
use Rattle.flex_base.specs.declared.outcome.Outcome.TheVariants.{Stopped}
use Rattle.flex_base.specs.declared.outcome.Stop.TheVariants as stop
use Rattle.flex_base.specs.declared.outcome.Stop.{Stop}
use Rattle.flex_base.specs.declared.record.TraceItem.{TraceItem}
use Rattle.flex_base.specs.declared.value.ObjId.{ObjId}
use Rattle.flex_base.specs.declared.value.Value.TheVariants as value
use Rattle.flex_base.specs.declared.value.Value.{Value}
use Rattle.component_catalog.specs.Classes.{or_else}
use Rattle.flex_world.specs.Classes.{lineage_in}
use Rattle.flex_world.specs.declared.kind.Class.{Class}
use Rattle.flex_world.specs.declared.kind.StaticType.{StaticType}
use Rattle.flex_world.specs.Conversions.{into_type}
use Rattle.flex_world.specs.Making.{computes, new_object}
use Rattle.flex_world.specs.Objects.{An_array, Field, Instance_of, Kind, Object, computed_property, field_named, next_object, object_at, property, property_or}
use Rattle.flex_program.specs.Classes.{bases, document_of, fields_of, has_property}
use Rattle.flex_program.specs.Program.{Document, Part}
use Rattle.flex_meaning.specs.Conversions as meaning
use Rattle.flex_meaning.specs.Expressions.{receiver}
use Rattle.flex_meaning.specs.Objects as objects
use Rattle.flex_meaning.specs.Results.{Goes, Result, bind, given, guarded, need, on, stops}
use Rattle.flex_meaning.specs.Results.{done}
use Rattle.flex_meaning.specs.Turns.{pay, take_number}
use Rattle.flex_meaning.specs.World.{World, change_object}
use Rattle.program_code.specs.Code.{result_type}
use Rattle.program_code.specs.Names.{member_name}
use Rattle.program_simulation.proofs.Follows.{Alike, Rest, alike_bind, alike_from, alike_given, alike_goes, alike_guarded, alike_halts, alike_need, alike_step, alike_stuck, unrecorded}
use Rattle.program_simulation.proofs.Standing.{Keeps, as_many, entity_there, heap_changed, holds_changed, holds_more, object_there, objects_are, objid, stage_more}
use Rattle.program_simulation.specs.Following.{HasFields, Holds, kind_fields}
use Rattle.program_simulation.specs.Image.{IsImage, IsKept}
use Rattle.program_simulation.specs.Stands.{Beside, Image, beside, entities_of, entity_of, heap_of, inside_of, instance_slot, stage_of}
use Rattle.avm2_program.specs.Naming.{Naming}
use Rattle.avm2_program.specs.declared.member.Member.{Member}
use Rattle.avm2_program.specs.declared.names.Name.{Name}
use Rattle.flex_objects.specs.Entities as entities
use Rattle.flex_objects.specs.Entities.{Entity, Inside, value_of}
use Rattle.ui_runtime.specs.Making.{pays, takes_number, with_entity}
use Rattle.ui_runtime.specs.Stage as stage
use Rattle.avm2_meaning.specs.Act.{property_at}
use Rattle.avm2_meaning.specs.Classes.{native_of}
use Rattle.avm2_meaning.specs.Conversions as conversions
use Rattle.avm2_meaning.specs.Making as making
use Rattle.avm2_meaning.specs.Members.{found, kind_member}
use Rattle.avm2_meaning.specs.declared.operand.Operand.TheVariants.{Plain}
use Rattle.avm2_meaning.specs.Properties as properties
use Rattle.avm2_meaning.specs.Results as machine
use Rattle.avm2_meaning.specs.Results.{inside}

-- with the object of a number
pub alike_on : {q : Image} {order : List ObjId} {A B : Type 0} {i : A → Option TraceItem} {h : A → B} (o : ObjId) {w : World} {f : Object → Result A} {k : Object → machine.Result B}
    → ((c : Object) → object_at w.objects o ≡ Some c → Alike q order w i h (f c) (k c)) → Alike q order w i h (on o w f) (machine.on o (heap_of q order w) k)
alike_on {q} {order} o {w} {f} {k} t =
    alike_from (ap (λ x. machine.need x (heap_of q order w) k) (object_there q order w o)) (alike_need (object_at w.objects o) (heap_of q order w) t)

-- a change of an object that keeps its kind, its enabled bindings and the names of its fields
pub alike_change : {q : Image} {order : List ObjId} (o : ObjId) (f : Object → Object) (w : World) → Keeps f
    → Alike q order w unrecorded (λ (u : Unit {0}). u) (Goes tt (change_object o f w)) (machine.Goes tt (record (heap_of q order w) { stage = stage.change o f (stage_of q order w) }))
alike_change {q} {order} o f w keeps =
    alike_step (λ u. u) tt w (change_object o f w) _ (ap (machine.Goes tt) (sym (heap_changed q order o f w keeps)))
    (record { level = refl; turns = refl; records = refl; holds = holds_changed q o f w keeps })

module _ {q : Image} {order : List ObjId} where
  -- cells are taken, and then a number: k is what the source does when they are
  pub paid_alike : {i : ObjId → Option TraceItem} (cost : ℕ) (e : Entity) (w : World) (k : Unit {0} → World → Result ObjId)
      → Alike q order w i (λ o. o) (k tt (record w { cells = w.cells + cost }))
      (machine.Goes (stage.next_number (stage_of q order w)) (record (heap_of q order w) { stage = with_entity e (record (stage_of q order w) { cells = w.cells + cost }) }))
      → Alike q order w i (λ o. o) (bind (pay cost w) k) (machine.staged (heap_of q order w) (and_then (pays cost (stage_of q order w)) (takes_number e)))
  paid_alike {i} cost e w k t = by (nat_lt 1000000 (w.cells + cost))
    where
      by : (b : Bool) → Alike q order w i (λ (o : ObjId). o) (bind (if b then stops stop.Cells w else done (record w { cells = w.cells + cost })) k)
          (machine.staged (heap_of q order w) (and_then (if b then Err stop.Cells else Ok (record (stage_of q order w) { cells = w.cells + cost })) (takes_number e)))
      by true = alike_halts (Stopped stop.Cells) w
      by false = t

  -- an object that is made, where this stands beside it
  pub number_alike : (w0 w : World) (y : Object) (i : Inside) → inside_of q (beside w) (next_object w.objects) y.kind y.keeping.enabled ≡ i → y.keeping.enabled ≡ [] → HasFields q.source y
      → Rest q None w0 w
      → Alike q order w0 unrecorded (λ o. o) (take_number y w)
      (machine.Goes (stage.next_number (stage_of q order w)) (record (heap_of q order w) { stage = with_entity (record { object = y; inside = i }) (stage_of q order w) }))
  number_alike w0 w y i e none new r =
      alike_step (λ o. o) (next_object w.objects) w0 (record w { objects = w.objects ++ y ∷ [] }) _
      (ap (λ n. machine.Goes (objid (suc n)) (record (heap_of q order w) { stage = with_entity (record { object = y; inside = i }) (stage_of q order w) })) (as_many q (beside w) 1 w.objects)
      ∙ ap (λ s. machine.Goes (next_object w.objects) (record { stage = s; written = q.written; classes = q.classes; scripts = q.scripts })) (stage_more q order w y i e none))
      (record { level = r.level; turns = r.turns; records = r.records; holds = λ h. holds_more q w y new (r.holds h) })

  pub new_array_alike : (vs : List Value) (w : World) → Alike q order w unrecorded (λ o. o) (objects.new_array vs w) (making.new_array vs (heap_of q order w))
  new_array_alike vs w =
      paid_alike (1 + length vs) (making.array_of vs) w _
      (number_alike w (record w { cells = w.cells + (1 + length vs) }) (new_object An_array [] vs) (Rattle.program_simulation.specs.Stands.no_document None) refl refl (λ name. refl)
      (record { level = refl; turns = refl; records = refl; holds = λ h. record { fields = h.fields } }))

-- what a name is at an object that there is
pub found_there : (q : Image) (order : List ObjId) (w : World) (o : ObjId) (c : Object) (n : Name) (x : Member) → object_at w.objects o ≡ Some c → kind_member q.program c.kind n ≡ Some x
    → found q.program (Plain (value.Ref o)) n (heap_of q order w) ≡ machine.Goes x (heap_of q order w)
found_there q order w o c n x there e =
    ap (λ y. machine.or_fault fault.NoName (option_and_then (λ (z : Object). kind_member q.program z.kind n) y) (heap_of q order w) (λ z. machine.Goes z (heap_of q order w)))
    (object_there q order w o ∙ there)
    ∙ ap (λ y. machine.or_fault fault.NoName y (heap_of q order w) (λ z. machine.Goes z (heap_of q order w))) e

module _ {q : Image} {g : Naming} (is : IsImage g q) where
  -- the value of a property
  no_hidden : (b : Beside) (o : ObjId) (k : Kind) (l : List ℕ) (name : List ℕ) → has_property q.source k name ≡ true → field_named name (inside_of q b o k l).hidden ≡ None
  no_hidden b o An_array l name has = refl
  no_hidden b o (Instance_of (Class.Native class)) l name has = refl
  no_hidden b o (Instance_of (Class.File k)) l name has = at (document_of q.source (Class.File k)) refl
    where
      at : (d : Option Document) → document_of q.source (Class.File k) ≡ d
          → field_named name (Rattle.program_simulation.specs.Stands.document_inside q.labels b o k l (native_of q.program (Class.File k)) d).hidden ≡ None
      at None e = refl
      at (Some d) e = is.unhidden k name d has e b o

  native_is : (b : Beside) (o : ObjId) (class : Class) (l : List ℕ) → (inside_of q b o (Instance_of class) l).native ≡ native_of q.program class
  native_is b o (Class.Native class) l = refl
  native_is b o (Class.File k) l = at (document_of q.source (Class.File k))
    where
      at : (d : Option Document) → (Rattle.program_simulation.specs.Stands.document_inside q.labels b o k l (native_of q.program (Class.File k)) d).native ≡ native_of q.program (Class.File k)
      at None = refl
      at (Some d) = refl

  or_second : (a b : Bool) → a ≡ false → (a || b) ≡ true → b ≡ true
  or_second false b e t = t
  or_second true b e t = absurd cc

  computed_too : (b : Beside) (o : ObjId) (k : Kind) (l : List ℕ) (name : List ℕ) → has_property q.source k name ≡ true → is_some (field_named name (kind_fields q.source k)) ≡ false
      → entities.computes (inside_of q b o k l).native name ≡ true
  computed_too b o An_array l name has none = absurd cc
  computed_too b o (Instance_of class) l name has none =
      ap (λ n. entities.computes n name) (native_is b o class l)
      ∙ is.computed class name (or_second (is_some (field_named name (fields_of q.source class))) (list_any (computes name) (lineage_in (bases q.source) class)) none has)

  pub value_is : (b : Beside) (o : ObjId) (c : Object) (name : List ℕ) → HasFields q.source c → has_property q.source c.kind name ≡ true → value_of name (entity_of q b o c) ≡ property c name
  value_is b o c name fields has = by (field_named name c.fields) refl
    where
      hidden : List Field
      hidden = (inside_of q b o c.kind c.keeping.enabled).hidden

      other : Option Value
      other = if entities.computes (inside_of q b o c.kind c.keeping.enabled).native name then computed_property c name else None

      by : (x : Option Field) → field_named name c.fields ≡ x → value_of name (entity_of q b o c) ≡ property c name
      by (Some f) e =
          ap (λ y. or_else (option_map (λ (z : Field). z.value) (or_else y (field_named name hidden))) other) e
          ∙ sym (ap (λ y. property_or y (computed_property c name)) e)
      by None e =
          ap (λ y. or_else (option_map (λ (z : Field). z.value) (or_else y (field_named name hidden))) other) e
          ∙ ap (λ y. or_else (option_map (λ (z : Field). z.value) y) other) (no_hidden b o c.kind c.keeping.enabled name has)
          ∙ ap (λ t. if t then computed_property c name else None) (computed_too b o c.kind c.keeping.enabled name has (sym (fields name) ∙ ap is_some e))
          ∙ sym (ap (λ y. property_or y (computed_property c name)) e)

module _ {q : Image} {g : Naming} (is : IsImage g q) {order : List ObjId} where
  -- conversions
  into_alike : {X : Type 0} (h : Value → X) (o : Option (Computed Value Stop)) (w : World)
      → Alike q order w unrecorded h (need o w (λ r. given r w)) (machine.bind (machine.need o (heap_of q order w) (λ r. machine.given r (heap_of q order w))) (λ v s. machine.Goes (h v) s))
  into_alike h None w = alike_stuck
  into_alike h (Some r) w = alike_given h r w

  typed_alike : (t : StaticType) (v : Value) (w : World)
      → Alike q order w unrecorded Plain (meaning.convert q.source t v w)
      (machine.bind (machine.need (into_type q.program.bases (stage.objects (stage_of q order w)) t v) (heap_of q order w) (λ r. machine.given r (heap_of q order w))) (λ x s. machine.Goes (Plain x) s))
  typed_alike t v w =
      alike_from
      (ap (λ l. machine.bind (machine.need (into_type l (stage.objects (stage_of q order w)) t v) (heap_of q order w) (λ r. machine.given r (heap_of q order w))) (λ x s. machine.Goes (Plain x) s)) is.bases_are
      ∙ ap (λ l. machine.bind (machine.need (into_type (bases q.source) l t v) (heap_of q order w) (λ r. machine.given r (heap_of q order w))) (λ x s. machine.Goes (Plain x) s)) (objects_are q (beside w) 1 w.objects))
      (into_alike Plain (into_type (bases q.source) w.objects t v) w)

  pub convert_alike : (t : StaticType) (v : Value) (w : World) → Alike q order w unrecorded Plain (meaning.convert q.source t v w) (conversions.convert q.program t (Plain v) (heap_of q order w))
  convert_alike StaticType.Int v w = typed_alike StaticType.Int v w
  convert_alike StaticType.Boolean v w = typed_alike StaticType.Boolean v w
  convert_alike StaticType.String v w = typed_alike StaticType.String v w
  convert_alike StaticType.Array v w = typed_alike StaticType.Array v w
  convert_alike (StaticType.Object class) v w = typed_alike (StaticType.Object class) v w
  convert_alike StaticType.Any v w = alike_goes Plain v w
  convert_alike StaticType.Unnamed v w = alike_stuck

  -- of a result: none is kept as it is
  pub result_alike : (t : Option StaticType) (v : Value) (w : World)
      → Alike q order w unrecorded Plain (meaning.convert_result q.source t v w) (conversions.convert q.program (result_type t) (Plain v) (heap_of q order w))
  result_alike None v w = alike_goes Plain v w
  result_alike (Some t) v w = convert_alike t v w

  pub convert_all_alike : (ts : List StaticType) (vs : List Value) (w : World)
      → Alike q order w unrecorded (map Plain) (meaning.convert_all q.source ts vs w) (conversions.convert_all q.program ts (map Plain vs) (heap_of q order w))
  convert_all_alike [] [] w = alike_goes (map Plain) [] w
  convert_all_alike [] (v ∷ vs) w = alike_stuck
  convert_all_alike (t ∷ ts) [] w = alike_stuck
  convert_all_alike (t ∷ ts) (v ∷ vs) w =
      alike_bind _ (convert_alike t v w) (λ v1 w1 r. alike_bind _ (convert_all_alike ts vs w1) (λ vs1 w2 r2. alike_goes (map Plain) (v1 ∷ vs1) w2))

  -- properties
  read_at : (o : ObjId) (name : List ℕ) (w : World) → Holds q.source w
      → Alike q order w unrecorded Plain (objects.read q.source o name w) (property_at q.program (member_name name) (Plain (value.Ref o)) (heap_of q order w))
  read_at o name w holds = at (object_at w.objects o) refl
    where
      at : (x : Option Object) → object_at w.objects o ≡ x
          → Alike q order w unrecorded Plain (need x w (λ c. guarded (has_property q.source c.kind name) (λ w1. need (property c name) w1 (λ v. Goes v w1)) w))
          (property_at q.program (member_name name) (Plain (value.Ref o)) (heap_of q order w))
      at None e = alike_stuck
      at (Some c) e =
          alike_guarded (has_property q.source c.kind name) _
          (λ has. alike_from
          (ap (λ y. machine.bind y (λ x h1. properties.read (Plain (value.Ref o)) x h1)) (found_there q order w o c (member_name name) (Member.Slot name) e (is.property c.kind name has))
          ∙ ap (λ y. machine.need (option_and_then (value_of name) y) (heap_of q order w) (λ v. machine.Goes (Plain v) (heap_of q order w))) (entity_there q order w o ∙ ap (option_map (λ d. entity_of q (beside w) o d)) e)
          ∙ ap (λ y. machine.need y (heap_of q order w) (λ v. machine.Goes (Plain v) (heap_of q order w))) (value_is is (beside w) o c name (holds.fields o c e) has))
          (alike_need (property c name) (heap_of q order w) (λ v e1. alike_goes Plain v w)))

  pub read_alike : (v : Value) (name : List ℕ) (w : World) → Holds q.source w
      → Alike q order w unrecorded Plain (bind (receiver false v w) (λ o w1. objects.read q.source o name w1)) (property_at q.program (member_name name) (Plain v) (heap_of q order w))
  read_alike (value.Ref o) name w holds = read_at o name w holds
  read_alike value.Null name w holds = alike_halts (Stopped stop.NullReference) w
  read_alike value.Undefined name w holds = alike_halts (Stopped stop.NullReference) w
  read_alike (value.Bool b) name w holds = alike_stuck
  read_alike (value.Int n) name w holds = alike_stuck
  read_alike (value.Text x) name w holds = alike_stuck
  read_alike (value.Listener o k) name w holds = alike_stuck

-- no field of a document hides the slot of an instance
pub no_kept_field : (q : Image) (w : World) (o : ObjId) (c : Object) (k : ℕ) (d : Document) (part : Part) → Holds q.source w → object_at w.objects o ≡ Some c → c.kind ≡ Instance_of (Class.File k) → IsKept q k d part
    → field_named (q.labels.instance_key part.number) c.fields ≡ None
no_kept_field q w o c k d part holds there kind keeps =
    none_of (field_named (q.labels.instance_key part.number) c.fields)
    (holds.fields o c there (q.labels.instance_key part.number) ∙ ap (λ z. is_some (field_named (q.labels.instance_key part.number) (kind_fields q.source z))) kind ∙ ap is_some keeps.no_field)
  where
    none_of : (x : Option Field) → is_some x ≡ false → x ≡ None
    none_of None e = refl
    none_of (Some f) e = absurd cc

-- so what is kept under its key is that slot
pub kept_slot : (q : Image) (w : World) (o : ObjId) (c : Object) (k : ℕ) (d : Document) (part : Part) → Holds q.source w → object_at w.objects o ≡ Some c → c.kind ≡ Instance_of (Class.File k) → document_of q.source (Class.File k) ≡ Some d → IsKept q k d part
    → entities.kept (q.labels.instance_key part.number) (entity_of q (beside w) o c) ≡ Some (instance_slot q.labels (beside w) o part)
kept_slot q w o c k d part holds there kind is_d keeps =
    ap (λ y. or_else y (field_named key (inside_of q (beside w) o c.kind c.keeping.enabled).hidden)) (no_kept_field q w o c k d part holds there kind keeps)
    ∙ ap (λ z. field_named key (inside_of q (beside w) o z c.keeping.enabled).hidden) kind
    ∙ ap (λ z. field_named key (Rattle.program_simulation.specs.Stands.document_inside q.labels (beside w) o k c.keeping.enabled (native_of q.program (Class.File k)) z).hidden) is_d
    ∙ keeps.slot (beside w) o
  where
    key : List ℕ
    key = q.labels.instance_key part.number
