-- The leaving and the entering of a state keep what holds.
use Rattle.std.proofs.Common.{List, [], ap, append_assoc, arith, not, refl, subst, suc, sym, true≢false, zero, ℕ, ◌&&◌, ◌++◌, ◌∙◌, ◌∷◌, ◌≡◌}
use Rattle.std.specs.List.{list_all}
use Rattle.std.specs.Prelude.{Bool, None, Option, Some, false, if◌then◌else◌, is_some, length, map, option_and_then, option_map, slice_get, true, unwrap_or, ◌==◌}
use Rattle.std.specs.Str.{bytes_eq}
use Rattle.flex_base.specs.Value.{is_object}
use Rattle.flex_base.specs.declared.value.ObjId.{ObjId}
use Rattle.flex_base.specs.declared.value.Value.{Value}
use Rattle.flex_base.specs.declared.value.Value.TheVariants as value
use Rattle.component_catalog.specs.declared.class.NativeClass.TheVariants as native
use Rattle.flex_world.specs.Classes.{is_component, is_container, same_class}
use Rattle.flex_world.specs.declared.kind.Class.{Class}
use Rattle.flex_world.specs.Objects.{Field, Instance_of, Object, computed_property, current_state, field_named, object_at, parent_of, property, property_or}
use Rattle.flex_program.proofs.ClassLaws.{both_true, held, same_number, same_text}
use Rattle.flex_program.proofs.Facts.{above, container_component, property_of_kept}
use Rattle.flex_program.proofs.Inverted.{All, all_filtered, all_found, all_map, all_passing, same_some, some_is}
use Rattle.flex_program.specs.Classes.{bases, document_in, document_of}
use Rattle.flex_program.specs.Fine.{holds, instance_class, is_fine, is_fine_attribute, is_fine_change, is_fine_contents, is_fine_handler, is_fine_id, is_fine_instance, is_fine_override, is_fine_part, is_fine_presence, is_fine_state, written_type}
use Rattle.flex_program.specs.Instances.{instance_numbered, instances_in, instances_of, numbers_of, part_of, parts_of}
use Rattle.flex_program.specs.Program.{Change, Document, Instance, Override, Part, Presence, Program, State}
use Rattle.flex_meaning.proofs.Acting.{unlisten_from}
use Rattle.flex_meaning.proofs.Built.{assigned_safe, doc_isa, of_state_safe, own_number, part_of_fine, registered_from}
use Rattle.flex_meaning.proofs.Changing.{read_safe}
use Rattle.flex_meaning.proofs.Executing.{kept_of_written}
use Rattle.flex_meaning.proofs.Holding.{A_null, IsA, IsComponent, IsDocument, SavedFine, Typed, Valid, kind_at, state_at}
use Rattle.flex_meaning.proofs.Inside.{DocumentFine, IsInner, built_class, inner_numbered, inside_contents, instance_class_of, kinds_agree, same_object}
use Rattle.flex_meaning.proofs.Keeping.{From, Safe, document_later, from_then, isa_later, later_same, safe_bind, safe_choose, safe_done, safe_each, safe_found, safe_from, safe_map, safe_need, safe_on, valid_of}
use Rattle.flex_meaning.proofs.Kept.{Kept}
use Rattle.flex_meaning.proofs.Operations.{literal_typed}
use Rattle.flex_meaning.proofs.Writing.{add_child_safe, document_in_is, seam, state_itself, state_true, step, take_out_safe}
use Rattle.flex_meaning.specs.Activities.{Context, Does}
use Rattle.flex_meaning.specs.Building.{declared_spot, register}
use Rattle.flex_meaning.specs.Changes.{state_asked, state_named}
use Rattle.flex_meaning.specs.Expressions.{literal_value}
use Rattle.flex_meaning.specs.Results.{done}
use Rattle.flex_meaning.specs.States.{add_part, apply_change, apply_from, apply_to, built_now, drop_saved, enter_named, enter_part, forget, forget_built, includes, is_for, is_inside, is_present, leave_for, leave_part, leave_state, register_base, remove_part, save, saved, saved_at, undo_change, undo_from, undo_saved, unregister_base, write_null}
use Rattle.flex_meaning.specs.Tasks.{context}
use Rattle.flex_meaning.specs.World.{Saved, World, built_object, unlisten}

module _ (p : Program) (fine : is_fine p ≡ true) (n : ℕ) (does : Does) (law : Kept p does) where
  abbrev c : Context
  c = context p n does

  module _ (this : Class) (d : Document) (h : DocumentFine p this d) (o : ObjId) where
    abbrev Doc : List Object → Type 0
    Doc os = IsDocument p os o this d

    -- all parts are fine
    abbrev PartFine : Part → Type 0
    PartFine part = is_fine_part p this d.root part ≡ true

    inner_parts : (xs : List Instance) → All (IsInner p this d.root) xs → All PartFine (map part_of xs)
    inner_parts [] k = tt
    inner_parts (i ∷ xs) k = (part_of_fine p fine n does law this d h o i k.0.0, inner_parts xs k.1)

    instance_parts : (i : Instance) → is_fine_instance p this d.root i ≡ true → All PartFine (parts_of i)
    instance_parts (Instance.Holding part contents) e =
        let a = both_true p (is_fine_part p this d.root part) (is_fine_contents p this d.root part.class contents) e in
        (a.0, inner_parts (instances_in contents) (inside_contents p this d.root part.class contents a.1))

    all_parts : All PartFine (parts_of d.root)
    all_parts = instance_parts d.root h.root

    all_instances : (i : Instance) → is_fine_instance p this d.root i ≡ true → All (λ j. is_fine_instance p this d.root j ≡ true) (instances_of i)
    all_instances (Instance.Holding part contents) e =
        (e, all_map _ _ (instances_in contents) (λ j k. k.0) (inside_contents p this d.root part.class contents (both_true p (is_fine_part p this d.root part) (is_fine_contents p this d.root part.class contents) e).1))

    -- an instance of a number is fine
    pub numbered_fine : (number : ℕ) (i : Instance) → instance_numbered d.root number ≡ Some i → is_fine_instance p this d.root i ≡ true
    numbered_fine number i e = (all_found _ (λ j. (part_of j).number == number) (instances_of d.root) i e (all_instances d.root h.root)).0

    -- what an override changes
    record Changes (state : State) (place : ℕ) (override : Override) : Type 0 where
      named : state_named state.name d.states ≡ Some state
      at : slice_get state.overrides place ≡ Some override
      part : Class
      of : instance_class p this d.root override.instance ≡ Some part
      sound : is_fine_change p this d.root override.change part ≡ true

    unlisten_base : (event : List ℕ) (base : Option ℕ) (x : ObjId) (w : World) → Typed p w → From p w.objects (unregister_base o event base x w)
    unlisten_base event None x w ty = record { later = later_same p w.objects; typed = ty }
    unlisten_base event (Some m) x w ty = unlisten_from p x event o m false w ty

    listen_base : (event : List ℕ) (base : Option ℕ) (x : ObjId) (w : World) → unwrap_or (option_map (is_fine_handler p this) base) true ≡ true → Doc w.objects → Typed p w → From p w.objects (register_base o event base x w)
    listen_base event None x w e is ty = record { later = later_same p w.objects; typed = ty }
    listen_base event (Some m) x w e is ty = registered_from p fine n does law this d h o event m x w e is ty

    undo_change_safe : (change : Change) (a : Class) (x : ObjId) (v : Value) (w : World) → is_fine_change p this d.root change a ≡ true → IsA p w.objects x a → Valid p w.objects v → Doc w.objects → Typed p w → Safe p false w.objects (undo_change c o change x v w) (λ _ _. Unit {0})
    undo_change_safe (Change.Changes_property name value) a x v w e i k is ty = assigned_safe p fine n does law this d h o x a name v w e i k ty
    undo_change_safe (Change.Changes_handler event base m) a x v w e i k is ty =
        let b = both_true p (is_fine_handler p this m) (unwrap_or (option_map (is_fine_handler p this) base) true) e in
        let f = unlisten_from p x event o m false w ty in
        safe_from p {w = register_base o event base x (unlisten x event o m false w)} (from_then p f (listen_base event base x (unlisten x event o m false w) b.1 (document_later p f.later is) f.typed)) tt

    undo_saved_safe : (state : State) (place : ℕ) (override : Override) (w : World) → Changes state place override → Doc w.objects → Typed p w → Safe p false w.objects (undo_saved c o override.change (saved_at o state.name place w.saved) w) (λ _ _. Unit {0})
    undo_saved_safe state place override w k is ty = by (saved_at o state.name place w.saved) refl
      where
        by : (x : Option Saved) → saved_at o state.name place w.saved ≡ x → Safe p false w.objects (undo_saved c o override.change x w) (λ _ _. Unit {0})
        by None e = safe_done p {w = w} ty tt
        by (Some s) e =
            let f = all_found (SavedFine p w.objects) (is_for o state.name place) w.saved s e ty.2 in
            let g = both_true p ((is_object s.document o) && (s.place == place)) (bytes_eq s.state state.name) f.1 in
            let g1 = both_true p (is_object s.document o) (s.place == place) g.0 in
            let at : kind_at w.objects o ≡ Some (Instance_of f.0.class) = ap (kind_at w.objects) (sym (same_object p _ _ g1.0)) ∙ f.0.is.at in
            let class : f.0.class ≡ this = kinds_agree p w.objects o f.0.class this at is.at in
            let document : f.0.document ≡ d = same_some _ _ (sym f.0.is.is ∙ ap (document_of p) class ∙ is.is) in
            let stated : f.0.state ≡ state = same_some _ _ (sym f.0.named ∙ ap (λ y. state_named s.state y.states) document ∙ ap (λ y. state_named y d.states) (same_text _ _ g.1) ∙ k.named) in
            let over : f.0.override ≡ override = same_some _ _ (sym f.0.at ∙ ap (λ (y : State). slice_get y.overrides s.place) stated ∙ ap (slice_get state.overrides) (same_number _ _ g1.1) ∙ k.at) in
            let part : f.0.part ≡ k.part = same_some _ _ (sym f.0.of ∙ ap (λ y. instance_class p f.0.class y.root f.0.override.instance) document ∙ ap (λ (y : Override). instance_class p f.0.class d.root y.instance) over ∙ k.of) in
            let ty1 : Typed p (drop_saved s w) = (ty.0, ty.1, all_filtered _ (λ other. not (is_for s.document s.state s.place other)) w.saved ty.2, ty.3, ty.4, ty.5) in
            undo_change_safe override.change k.part s.object s.value (drop_saved s w) k.sound (subst (λ y. IsA p w.objects s.object y) part f.0.object) f.0.value is ty1

    changes_of : (state : State) → state_named state.name d.states ≡ Some state → is_fine_state p this d.root state ≡ true → (pre rest : List Override) (override : Override) (place : ℕ) → length pre ≡ place → pre ++ override ∷ rest ≡ state.overrides → is_fine_override p this d.root override ≡ true → Changes state place override
    changes_of state named e pre rest override place len all g =
        let k = held p (is_fine_change p this d.root override.change) (instance_class p this d.root override.instance) g in
        record { named = named; at = ap (λ l. slice_get l place) (sym all) ∙ ap (λ j. slice_get (pre ++ override ∷ rest) j) (sym len) ∙ seam pre override rest; part = k.0; of = k.1; sound = k.2 }

    undo_from_safe : (state : State) → state_named state.name d.states ≡ Some state → is_fine_state p this d.root state ≡ true → (pre xs : List Override) (place : ℕ) → length pre ≡ place → pre ++ xs ≡ state.overrides → All (λ x. is_fine_override p this d.root x ≡ true) xs
        → (w : World) → Doc w.objects → Typed p w → Safe p false w.objects (undo_from c o state.name place xs w) (λ _ _. Unit {0})
    undo_from_safe state named e pre [] place len all k w is ty = safe_done p {w = w} ty tt
    undo_from_safe state named e pre (x ∷ xs) place len all k w is ty =
        safe_bind p (undo_from_safe state named e (pre ++ x ∷ []) xs (suc place) (step p pre x place len) (append_assoc pre (x ∷ []) xs ∙ all) k.1 w is ty)
        (λ _ w1 l _. undo_saved_safe state place x w1 (changes_of state named e pre xs x place len all k.0) (document_later p l.later is) l.typed)

    id_of : (part : Part) → PartFine part → is_fine_id p this d.root part.id ≡ true
    id_of part e =
        let a1 = both_true p _ (holds (same_class part.class) (instance_class p this d.root part.number)) e in
        let a2 = both_true p _ (is_fine_presence p this d.root part.class part.presence) a1.0 in
        (both_true p (list_all (is_fine_attribute p this d.root part.class) part.attributes) (is_fine_id p this d.root part.id) a2.0).1

    null_safe : (id : Option (List ℕ)) (w : World) → is_fine_id p this d.root id ≡ true → Doc w.objects → Typed p w → Safe p false w.objects (write_null c o id w) (λ _ _. Unit {0})
    null_safe None w e is ty = safe_done p {w = w} ty tt
    null_safe (Some id) w e is ty = assigned_safe p fine n does law this d h o o this id value.Null w e (doc_isa p fine n does law this d h o w.objects is) A_null ty

    forget_safe : (number : ℕ) (x : Option Instance) (w : World) → instance_numbered d.root number ≡ x → Doc w.objects → Typed p w → Safe p false w.objects (forget c o x w) (λ _ _. Unit {0})
    forget_safe number None w e is ty = safe_done p {w = w} ty tt
    forget_safe number (Some i) w e is ty =
        let ty1 : Typed p (forget_built o (numbers_of (parts_of i)) w) = (ty.0, all_filtered _ (λ b. not (is_inside o (numbers_of (parts_of i)) b)) w.built ty.1, ty.2, ty.3, ty.4, ty.5) in
        safe_each p (λ part os. PartFine part × Doc os) (λ part os os1 l k. (k.0, document_later p l k.1)) (λ part. write_null c o part.id) (λ part w1 k ty2. null_safe part.id w1 (id_of part k.0) k.1 ty2)
        (parts_of i) (forget_built o (numbers_of (parts_of i)) w) (all_map _ _ (parts_of i) (λ part k. (k, is)) (instance_parts i (numbered_fine number i e))) ty1

    -- the class of a part is that of its number
    part_class : (part : Part) → PartFine part → instance_class p this d.root part.number ≡ Some part.class
    part_class part e = let j = own_number p fine n does law this d h o part e in instance_class_of p this d.root part.number j.0 j.1 ∙ ap Some j.2

    present_built : (w : World) (number : ℕ) → is_present w.objects w.built o number ≡ true → is_some (built_object w.built o number) ≡ true
    present_built w number e = by (built_object w.built o number) e
      where
        by : (x : Option ObjId) → is_some (option_and_then (λ y. parent_of (object_at w.objects y)) x) ≡ true → is_some x ≡ true
        by None g = g
        by (Some y) g = refl

    leave_part_safe : (next : List ℕ) (part : Part) (x : Option Presence) (w : World) → PartFine part → Doc w.objects → Typed p w → Safe p false w.objects (leave_part c o d.root next part x w) (λ _ _. Unit {0})
    leave_part_safe next part None w e is ty = safe_done p {w = w} ty tt
    leave_part_safe next part (Some x) w e is ty =
        safe_choose p (not (includes next x) && is_present w.objects w.built o part.number) (remove_part c o d.root part x) done w
        (λ g. safe_need p (built_object w.built o part.number) w _ (present_built w part.number (both_true p (not (includes next x)) (is_present w.objects w.built o part.number) g).1)
        (λ y found. let i = built_class p this d h o w is ty part.number y part.class found (part_class part e) in
        safe_bind p (take_out_safe p y w (record { kind = Instance_of i.class; at = i.at }) ty)
        (λ _ w1 l _. safe_choose p x.auto _ done w1 (λ _. forget_safe part.number (instance_numbered d.root part.number) w1 refl (document_later p l.later is) l.typed) (λ _. safe_done p {w = w1} l.typed tt))))
        (λ _. safe_done p {w = w} ty tt)

    state_fine : (name : List ℕ) (xs : List State) (s : State) → state_named name xs ≡ Some s → All (λ y. is_fine_state p this d.root y ≡ true) xs → is_fine_state p this d.root s ≡ true
    state_fine name [] s e k = absurd (cc)
    state_fine name (x ∷ xs) s e k = by (bytes_eq x.name name) e (λ f. state_fine name xs s f k.1)
      where
        by : (b : Bool) → (if b then Some x else state_named name xs) ≡ Some s → (state_named name xs ≡ Some s → is_fine_state p this d.root s ≡ true) → is_fine_state p this d.root s ≡ true
        by true f rest = subst (λ z. is_fine_state p this d.root z ≡ true) (same_some x s f) k.0
        by false f rest = rest f

    leave_for_safe : (next : List ℕ) (s : State) (w : World) → state_named s.name d.states ≡ Some s → is_fine_state p this d.root s ≡ true → Doc w.objects → Typed p w → Safe p false w.objects (leave_for c o next s d w) (λ _ _. Unit {0})
    leave_for_safe next s w named e is ty =
        safe_bind p (undo_from_safe s named e [] s.overrides 0 refl refl (all_passing _ s.overrides e) w is ty)
        (λ _ w1 l _. safe_each p (λ part os. PartFine part × Doc os) (λ part os os1 l1 k. (k.0, document_later p l1 k.1)) (λ part. leave_part c o d.root next part part.presence) (λ part w2 k ty2. leave_part_safe next part part.presence w2 k.0 k.1 ty2)
        (parts_of d.root) w1 (all_map _ _ (parts_of d.root) (λ part k. (k, document_later p l.later is)) all_parts) l.typed)

    field_in : (y : Option Field) → is_some (option_and_then (λ f. state_asked (Some d) f.value) y) ≡ true → (f : Field) × (y ≡ Some f) × (s : State) × (state_asked (Some d) f.value ≡ Some s)
    field_in None e = absurd (true≢false (sym e))
    field_in (Some f) e = let s = some_is (state_asked (Some d) f.value) e in (f, refl, s.0, s.1)

    asked : (v : Value) (s : State) → state_asked (Some d) v ≡ Some s → (name : List ℕ) × (state_named name d.states ≡ Some s)
    asked (value.Text name) s e = (name, e)
    asked _ s e = absurd (cc)

    pub leave_state_safe : (next : List ℕ) (w : World) → Doc w.objects → state_at p w.objects o ≡ Some true → Typed p w → Safe p false w.objects (leave_state c o next w) (λ _ _. Unit {0})
    leave_state_safe next w is st ty =
        safe_on p o w (Instance_of this) _ is.at ty
        (λ x here same th.
        let docs = document_in_is p x this d same is.is in
        let f = field_in (field_named current_state x.fields) (subst (λ y. is_some (option_and_then (λ f. state_asked y f.value) (field_named current_state x.fields)) ≡ true) docs (state_true p w.objects o x here st)) in
        let g = asked f.0.value f.2 f.3 in
        safe_found p (document_in p x) w _ d docs
        (safe_found p (property x current_state) w _ f.0.value (ap (λ y. property_or y (computed_property x current_state)) f.1)
        (safe_found p (state_asked (Some d) f.0.value) w _ f.2 f.3
        (leave_for_safe next f.2 w (state_itself p g.0 d.states f.2 g.1) (state_fine g.0 d.states f.2 g.1 h.states) is ty))))

    -- Entering

    component_of : (os : List Object) (x : ObjId) (a : Class) → IsA p os x a → is_component (bases p) a ≡ true → IsComponent p os x
    component_of os x a k g = record { class = k.class; at = k.at; is = above p fine k.class a (Class.Native native.UIComponent) k.is g }

    not_zero : (w : World) (number : ℕ) → built_object w.built o number ≡ None → (number == 0) ≡ false
    not_zero w zero e = absurd (cc)
    not_zero w (suc m) e = grind arith

    built_now_safe : (part : Part) (w : World) → PartFine part → Doc w.objects → Typed p w → Safe p false w.objects (built_now c o part.number (built_object w.built o part.number) w) (λ x os. IsA p os x part.class)
    built_now_safe part w e is ty = by (built_object w.built o part.number) refl
      where
        by : (x : Option ObjId) → built_object w.built o part.number ≡ x → Safe p false w.objects (built_now c o part.number x w) (λ x1 os. IsA p os x1 part.class)
        by (Some x) g = safe_done p ty (built_class p this d h o w is ty part.number x part.class g (part_class part e))
        by None g =
            let j = own_number p fine n does law this d h o part e in
            let inner = inner_numbered p this d h part.number j.0 (not_zero w part.number g) j.1 in
            safe_map p (of_state_safe p fine n does law this d h o part.number j.0 w j.1 inner.1 is ty) (λ x w1 l k. subst (λ a. IsA p w1.objects x a) j.2 k)

    add_part_safe : (part : Part) (x : Option ObjId) (w : World) → PartFine part → is_component (bases p) part.class ≡ true → ((y : ObjId) → x ≡ Some y → IsComponent p w.objects y) → Doc w.objects → Typed p w → Safe p false w.objects (add_part c o part x w) (λ _ _. Unit {0})
    add_part_safe part None w e comp k is ty = safe_done p {w = w} ty tt
    add_part_safe part (Some y) w e comp k is ty =
        safe_bind p (built_now_safe part w e is ty)
        (λ child w1 l i. add_child_safe p fine n does law y child (Some (declared_spot y o part.number)) w1 (isa_later p l.later (k y refl)) (component_of w1.objects child part.class i comp) l.typed)

    presence_of : (part : Part) → PartFine part → is_fine_presence p this d.root part.class part.presence ≡ true
    presence_of part e =
        let a1 = both_true p _ (holds (same_class part.class) (instance_class p this d.root part.number)) e in
        (both_true p _ (is_fine_presence p this d.root part.class part.presence) a1.0).1

    enter_part_safe : (state : List ℕ) (part : Part) (x : Option Presence) (w : World) → PartFine part → is_fine_presence p this d.root part.class x ≡ true → Doc w.objects → Typed p w → Safe p false w.objects (enter_part c o state part x w) (λ _ _. Unit {0})
    enter_part_safe state part None w e g is ty = safe_done p {w = w} ty tt
    enter_part_safe state part (Some x) w e g is ty =
        let b = both_true p (is_component (bases p) part.class) (holds (is_container (bases p)) (instance_class p this d.root x.container)) g in
        let k = held p (is_container (bases p)) (instance_class p this d.root x.container) b.1 in
        safe_choose p (includes state x && not (is_present w.objects w.built o part.number)) _ done w
        (λ _. add_part_safe part (built_object w.built o x.container) w e b.0 (λ y f. component_of w.objects y k.0 (built_class p this d h o w is ty x.container y k.0 f k.1) (container_component p fine k.0 k.2)) is ty)
        (λ _. safe_done p {w = w} ty tt)

    saved_typed : (state : State) (place : ℕ) (override : Override) (x : ObjId) (v : Value) (w : World) → (k : Changes state place override) → IsA p w.objects x k.part → Valid p w.objects v → Doc w.objects → Typed p w → Typed p (save (saved c o state.name place x v) w)
    saved_typed state place override x v w k i g is ty =
        (ty.0, ty.1, (record { class = this; document = d; is = is; state = state; named = k.named; override = override; at = k.at; part = k.part; of = k.of; object = i; value = g }, ty.2), ty.3, ty.4, ty.5)

    apply_change_safe : (state : State) (place : ℕ) (override : Override) (x : ObjId) (w : World) (k : Changes state place override) → (change : Change) → is_fine_change p this d.root change k.part ≡ true → IsA p w.objects x k.part → Doc w.objects → Typed p w → Safe p false w.objects (apply_change c o state.name place change x w) (λ _ _. Unit {0})
    apply_change_safe state place override x w k (Change.Changes_property name value) e i is ty =
        let u = some_is (written_type p k.part name) e in
        safe_bind p (read_safe p fine x k.part name u.0 w i (property_of_kept p name k.part u.0 (kept_of_written p k.part name u.0 u.1)) ty)
        (λ v w1 l g. assigned_safe p fine n does law this d h o x k.part name (literal_value value) (save (saved c o state.name place x v) w1) e (isa_later p l.later i) (valid_of p (literal_typed p w1.objects value))
        (saved_typed state place override x v w1 k (isa_later p l.later i) (valid_of p g) (document_later p l.later is) l.typed))
    apply_change_safe state place override x w k (Change.Changes_handler event base m) e i is ty =
        let b = both_true p (is_fine_handler p this m) (unwrap_or (option_map (is_fine_handler p this) base) true) e in
        let w1 = save (saved c o state.name place x value.Null) w in
        let f = unlisten_base event base x w1 (saved_typed state place override x value.Null w k i A_null is ty) in
        safe_from p {w = register o event m x (unregister_base o event base x w1)} (from_then p f (registered_from p fine n does law this d h o event m x (unregister_base o event base x w1) b.0 (document_later p f.later is) f.typed)) tt

    apply_to_safe : (state : State) (place : ℕ) (override : Override) (w : World) → Changes state place override → Doc w.objects → Typed p w → Safe p false w.objects (apply_to c o state.name place override.change (built_object w.built o override.instance) w) (λ _ _. Unit {0})
    apply_to_safe state place override w k is ty = by (built_object w.built o override.instance) refl
      where
        by : (x : Option ObjId) → built_object w.built o override.instance ≡ x → Safe p false w.objects (apply_to c o state.name place override.change x w) (λ _ _. Unit {0})
        by None g = safe_done p {w = w} ty tt
        by (Some x) g = apply_change_safe state place override x w k override.change k.sound (built_class p this d h o w is ty override.instance x k.part g k.of) is ty

    apply_from_safe : (state : State) → state_named state.name d.states ≡ Some state → is_fine_state p this d.root state ≡ true → (pre xs : List Override) (place : ℕ) → length pre ≡ place → pre ++ xs ≡ state.overrides → All (λ x. is_fine_override p this d.root x ≡ true) xs
        → (w : World) → Doc w.objects → Typed p w → Safe p false w.objects (apply_from c o state.name place xs w) (λ _ _. Unit {0})
    apply_from_safe state named e pre [] place len all k w is ty = safe_done p {w = w} ty tt
    apply_from_safe state named e pre (x ∷ xs) place len all k w is ty =
        safe_bind p (apply_to_safe state place x w (changes_of state named e pre xs x place len all k.0) is ty)
        (λ _ w1 l _. apply_from_safe state named e (pre ++ x ∷ []) xs (suc place) (step p pre x place len) (append_assoc pre (x ∷ []) xs ∙ all) k.1 w1 (document_later p l.later is) l.typed)

    pub enter_named_safe : (name : List ℕ) (s : State) (w : World) → state_named name d.states ≡ Some s → Doc w.objects → Typed p w → Safe p false w.objects (enter_named c o name w) (λ _ _. Unit {0})
    enter_named_safe name s w e is ty =
        let f = state_fine name d.states s e h.states in
        safe_on p o w (Instance_of this) _ is.at ty
        (λ x here same th. safe_found p (document_in p x) w _ d (document_in_is p x this d same is.is)
        (safe_found p (state_named name d.states) w _ s e
        (safe_bind p (safe_each p (λ part os. PartFine part × Doc os) (λ part os os1 l k. (k.0, document_later p l k.1)) (λ part. enter_part c o s.name part part.presence) (λ part w2 k ty2. enter_part_safe s.name part part.presence w2 k.0 (presence_of part k.0) k.1 ty2)
        (parts_of d.root) w (all_map _ _ (parts_of d.root) (λ part k. (k, is)) all_parts) ty)
        (λ _ w1 l _. apply_from_safe s (state_itself p name d.states s e) f [] s.overrides 0 refl refl (all_passing _ s.overrides f) w1 (document_later p l.later is) l.typed))))
