-- The building of documents and instances keeps what holds.
use Rattle.std.proofs.Common.{List, [], ap, append_assoc, not, refl, subst, suc, sym, ℕ, ◌&&◌, ◌++◌, ◌∙◌, ◌∷◌, ◌≡◌}
use Rattle.std.specs.List.{list_all}
use Rattle.std.specs.Prelude.{Bool, None, Option, Some, false, if◌then◌else◌, length, pos, slice_get, true, ◌==◌}
use Rattle.flex_base.specs.Value.{ref_of}
use Rattle.flex_base.specs.declared.value.ObjId.{ObjId}
use Rattle.flex_base.specs.declared.value.Value.{Value}
use Rattle.flex_base.specs.declared.value.Value.TheVariants as value
use Rattle.component_catalog.specs.declared.class.NativeClass.TheVariants as native
use Rattle.flex_world.specs.Classes.{is_component, is_container, same_class}
use Rattle.flex_world.specs.declared.kind.Class.{Class}
use Rattle.flex_world.specs.Events.{registration}
use Rattle.flex_world.specs.Objects.{An_array, Instance_of, Object, watcher}
use Rattle.flex_program.proofs.ClassLaws.{both_true, held, same_class_is, text_itself}
use Rattle.flex_program.proofs.Facts.{above, base_above, container_component, descends_itself}
use Rattle.flex_program.proofs.Inverted.{All, all_append, all_map, all_passing, not_is, some_is}
use Rattle.flex_program.specs.Classes.{bases, document_in}
use Rattle.flex_program.specs.Fine.{are_fine_items, can_make, can_write, holds, instance_class, is_fine, is_fine_attribute, is_fine_contents, is_fine_given, is_fine_handler, is_fine_id, is_fine_instance, is_fine_made, is_fine_method, is_fine_part, is_fine_presence, method_numbered, written_type}
use Rattle.flex_program.specs.Instances.{instance_numbered, lies_in, numbers_of, part_of, parts_of}
use Rattle.flex_program.specs.Program.{Attribute, Binding, Contents, Document, Given, Givens, Instance, Method, Part, Presence, Program, State}
use Rattle.flex_meaning.proofs.Acting.{keeping_from, listen_from}
use Rattle.flex_meaning.proofs.Calling.{make_safe}
use Rattle.flex_meaning.proofs.Changing.{append_safe, document_made, new_array_safe}
use Rattle.flex_meaning.proofs.Evaluating.{single}
use Rattle.flex_meaning.proofs.Holding.{A_ref, Hearer, IsA, IsComponent, IsDocument, Typed, Valid, kind_at}
use Rattle.flex_meaning.proofs.Inside.{DocumentFine, IsInner, class_instance, inner_numbered, instance_class_of}
use Rattle.flex_meaning.proofs.Keeping.{From, Safe, document_later, isa_later, later_same, later_then, safe_bind, safe_choose, safe_done, safe_each, safe_found, safe_from, safe_later, safe_on, valid_of}
use Rattle.flex_meaning.proofs.Kept.{Kept}
use Rattle.flex_meaning.proofs.Operations.{literal_typed}
use Rattle.flex_meaning.proofs.Writing.{WatchFine, add_child_safe, assign_safe, document_in_is, enter_first_safe, seam, start_safe, step, watch_later}
use Rattle.flex_meaning.specs.Activities.{Context, Does}
use Rattle.flex_meaning.specs.Building.{apply_attribute, bindings_where, build, build_contents, build_declarations, build_document, build_given, build_instance, build_items, build_of_state, build_root, by_presence, declared_spot, enable_all, enter_initial, numbers_from, register, start_bindings_of, write_id}
use Rattle.flex_meaning.specs.Changes.{state_named}
use Rattle.flex_meaning.specs.Expressions.{literal_value}
use Rattle.flex_meaning.specs.Results.{Result, done, each}
use Rattle.flex_meaning.specs.Storing.{start}
use Rattle.flex_meaning.specs.Tasks.{context}
use Rattle.flex_meaning.specs.World.{World, has_built}
use Rattle.flex_meaning.specs.Writes.{assign}

module _ (p : Program) (fine : is_fine p ≡ true) (n : ℕ) (does : Does) (law : Kept p does) where
  abbrev c : Context
  c = context p n does

  module _ (this : Class) (d : Document) (h : DocumentFine p this d) (o : ObjId) where
    abbrev pub Doc : List Object → Type 0
    Doc os = IsDocument p os o this d

    pub doc_isa : (os : List Object) → Doc os → IsA p os o this
    doc_isa os is = record { class = this; at = is.at; is = descends_itself p this }

    pub handler : (m : ℕ) → is_fine_handler p this m ≡ true → (os : List Object) → Doc os → Hearer p os o m
    handler m e os is =
        let x = held p (λ (y : Method). is_fine_method p this y && (length y.parameters == 1)) (method_numbered p m) e in
        let f = both_true p (is_fine_method p this x.0) (length x.0.parameters == 1) x.2 in
        let one = single x.0.parameters f.1 in
        record { class = this; at = is.at; run = record { method = x.0; here = x.1; owner = this; fine = f.0; is = descends_itself p this }; type = one.0; one = one.1 }

    pub registered_from : (event : List ℕ) (m : ℕ) (x : ObjId) (w : World) → is_fine_handler p this m ≡ true → Doc w.objects → Typed p w → From p w.objects (register o event m x w)
    registered_from event m x w e is ty = listen_from p x (registration event o m false (pos 0)) w (handler m e w.objects is) ty

    -- a property that can be written is assigned
    pub assigned_safe : (x : ObjId) (a : Class) (name : List ℕ) (v : Value) (w : World) → can_write p a name ≡ true → IsA p w.objects x a → Valid p w.objects v → Typed p w → Safe p false w.objects (assign c x name v w) (λ _ _. Unit {0})
    assigned_safe x a name v w e i k ty = let u = some_is (written_type p a name) e in assign_safe p fine n does law x a name u.0 v w i u.1 k ty

    attribute_safe : (x : ObjId) (a : Class) (t : Attribute) (w : World) → is_fine_attribute p this d.root a t ≡ true → IsA p w.objects x a → Doc w.objects → Typed p w → Safe p false w.objects (apply_attribute c o x t w) (λ _ _. Unit {0})
    attribute_safe x a (Attribute.Sets name value) w e i is ty = assigned_safe x a name (literal_value value) w e i (valid_of p (literal_typed p w.objects value)) ty
    attribute_safe x a (Attribute.Handles event m) w e i is ty = safe_from p {w = register o event m x w} (registered_from event m x w e is ty) tt

    attributes_safe : (x : ObjId) (a : Class) (ts : List Attribute) (w : World) → list_all (is_fine_attribute p this d.root a) ts ≡ true → IsA p w.objects x a → Doc w.objects → Typed p w → Safe p false w.objects (each (apply_attribute c o x) ts w) (λ _ _. Unit {0})
    attributes_safe x a ts w e i is ty =
        safe_each p (λ t os. (is_fine_attribute p this d.root a t ≡ true) × IsA p os x a × Doc os) (λ t os os1 l k. (k.0, isa_later p l k.1, document_later p l k.2)) (apply_attribute c o x)
        (λ t w1 k ty1. attribute_safe x a t w1 k.0 k.1 k.2 ty1) ts w (all_map _ _ ts (λ t k. (k, i, is)) (all_passing _ ts e)) ty

    id_safe : (id : Option (List ℕ)) (x : ObjId) (a : Class) (w : World) → is_fine_id p this d.root id ≡ true → IsA p w.objects x a → Doc w.objects → Typed p w → Safe p false w.objects (write_id c o id x w) (λ _ _. Unit {0})
    id_safe None x a w e i is ty = safe_done p {w = w} ty tt
    id_safe (Some id) x a w e i is ty = assigned_safe o this id (value.Ref x) w e (doc_isa w.objects is) (A_ref x _ i.at) ty

    -- the watchers of bindings that pass a test
    bindings_fine : (test : Binding → Bool) (os : List Object) → Doc os → (pre bs : List Binding) (number : ℕ) → length pre ≡ number → pre ++ bs ≡ d.bindings → All (WatchFine p os) (bindings_where test o number bs)
    bindings_fine test os is pre [] number len all = tt
    bindings_fine test os is pre (b ∷ bs) number len all =
        all_append _ (if test b then watcher o number ∷ [] else []) _ (by (test b)) (bindings_fine test os is (pre ++ b ∷ []) bs (suc number) (step p pre b number len) (append_assoc pre (b ∷ []) bs ∙ all))
      where
        here : slice_get d.bindings number ≡ Some b
        here = ap (λ l. slice_get l number) (sym all) ∙ ap (λ j. slice_get (pre ++ b ∷ bs) j) (sym len) ∙ seam pre b bs

        by : (x : Bool) → All (WatchFine p os) (if x then watcher o number ∷ [] else [])
        by true = (record { class = this; document = d; is = is; binding = b; at = here }, tt)
        by false = tt

    all_start_safe : (test : Binding → Bool) (w : World) → Doc w.objects → Typed p w → Safe p false w.objects (each (start c) (bindings_where test o 0 d.bindings) w) (λ _ _. Unit {0})
    all_start_safe test w is ty = safe_each p (λ b os. WatchFine p os b) (watch_later p) (start c) (λ b w1 k ty1. start_safe p fine n does law b w1 k ty1) (bindings_where test o 0 d.bindings) w (bindings_fine test w.objects is [] d.bindings 0 refl refl) ty

    bindings_of_safe : (number : ℕ) (i : Instance) (w : World) → instance_numbered d.root number ≡ Some i → Doc w.objects → Typed p w → Safe p false w.objects (start_bindings_of c o number w) (λ _ _. Unit {0})
    bindings_of_safe number i w e is ty =
        safe_on p o w (Instance_of this) _ is.at ty
        (λ x here same th. safe_found p (document_in p x) w _ d (document_in_is p x this d same is.is) (safe_found p (instance_numbered d.root number) w _ i e (all_start_safe (lies_in d.root (numbers_of (parts_of i))) w is ty)))

    -- an instance of a state, by its number
    pub of_state_safe : (number : ℕ) (i : Instance) (w : World) → instance_numbered d.root number ≡ Some i → is_fine_made p this d.root i ≡ true → Doc w.objects → Typed p w → Safe p false w.objects (build_of_state c o number w) (λ x os. IsA p os x (part_of i).class)
    of_state_safe number i w e m is ty =
        safe_bind p (law.instances o number this d i w is e m ty)
        (λ v w1 l k. safe_found p (ref_of v) w1 _ k.0 (ap ref_of k.1)
        (safe_bind p (bindings_of_safe number i w1 e (document_later p l.later is) l.typed) (λ _ w2 l2 _. safe_done p l2.typed (isa_later p l2.later k.2))))

    -- what is known of a part: its number is its own
    part_number : (part : Part) → is_fine_part p this d.root part ≡ true → (i : Instance) × (instance_numbered d.root part.number ≡ Some i) × ((part_of i).class ≡ part.class)
    part_number part e =
        let a = both_true p _ (holds (same_class part.class) (instance_class p this d.root part.number)) e in
        let b = held p (same_class part.class) (instance_class p this d.root part.number) a.1 in
        let i = class_instance p this d.root part.number b.0 b.1 in
        (i.0, i.1, i.2 ∙ sym (same_class_is part.class b.0 b.2))

    pub own_number : (part : Part) → is_fine_part p this d.root part ≡ true → (i : Instance) × (instance_numbered d.root part.number ≡ Some i) × ((part_of i).class ≡ part.class)
    own_number part e = part_number part e

    pub part_of_fine : (i : Instance) → is_fine_instance p this d.root i ≡ true → is_fine_part p this d.root (part_of i) ≡ true
    part_of_fine (Instance.Holding part contents) e = (both_true p (is_fine_part p this d.root part) (is_fine_contents p this d.root part.class contents) e).0

    presence_safe : (i : Instance) (x : Option Presence) (now : World → Result (Unit {0})) (w : World) → IsInner p this d.root i → Doc w.objects → Typed p w → ((w1 : World) → Doc w1.objects → From p w.objects w1 → Safe p false w1.objects (now w1) (λ _ _. Unit {0}))
        → Safe p false w.objects (by_presence c o (part_of i) x now w) (λ _ _. Unit {0})
    presence_safe i None now w k is ty f = f w is (record { later = later_same p w.objects; typed = ty })
    presence_safe i (Some x) now w k is ty f =
        let j = part_number (part_of i) (part_of_fine i k.0) in
        let inner = inner_numbered p this d h (part_of i).number j.0 (not_is _ (both_true p (can_make p (part_of i).class 0) (not ((part_of i).number == 0)) k.1).1) j.1 in
        safe_choose p x.immediate _ done w (λ _. safe_bind p (of_state_safe (part_of i).number j.0 w j.1 inner.1 is ty) (λ _ w1 l _. safe_done p {w = w1} l.typed tt)) (λ _. safe_done p {w = w} ty tt)

    built_typed : (part : Part) (x : ObjId) (w : World) → is_fine_part p this d.root part ≡ true → IsA p w.objects x part.class → Doc w.objects → Typed p w → Typed p (has_built o part.number x w)
    built_typed part x w e i is ty =
        let j = part_number part e in
        (ty.0, (record { class = this; document = d; is = is; part = part.class; of = instance_class_of p this d.root part.number j.0 j.1 ∙ ap Some j.2; object = i }, ty.1), ty.2, ty.3, ty.4, ty.5)

    mutual
      pub build_safe : (i : Instance) → is_fine_instance p this d.root i ≡ true → can_make p (part_of i).class 0 ≡ true → (w : World) → Doc w.objects → Typed p w → Safe p false w.objects (build c o i w) (λ x os. IsA p os x (part_of i).class)
      build_safe (Instance.Holding part contents) e m w is ty =
          let a = both_true p (is_fine_part p this d.root part) (is_fine_contents p this d.root part.class contents) e in
          let a1 = both_true p _ (holds (same_class part.class) (instance_class p this d.root part.number)) a.0 in
          let a2 = both_true p _ (is_fine_presence p this d.root part.class part.presence) a1.0 in
          let a3 = both_true p (list_all (is_fine_attribute p this d.root part.class) part.attributes) (is_fine_id p this d.root part.id) a2.0 in
          safe_bind p (make_safe p fine n does law part.class [] w m tt ty)
          (λ x w1 l1 at. let i1 : IsA p w1.objects x part.class = record { class = part.class; at = at; is = descends_itself p part.class } in
          safe_bind p (id_safe part.id x part.class w1 a3.1 i1 (document_later p l1.later is) l1.typed)
          (λ _ w2 l2 _. safe_bind p (attributes_safe x part.class part.attributes w2 a3.0 (isa_later p l2.later i1) (document_later p (later_then p l1.later l2.later) is) l2.typed)
          (λ _ w3 l3 _. safe_bind p (contents_safe part.class contents a.1 x w3 (isa_later p (later_then p l2.later l3.later) i1) (document_later p (later_then p (later_then p l1.later l2.later) l3.later) is) l3.typed)
          (λ _ w4 l4 _. let l = later_then p (later_then p l2.later l3.later) l4.later in
          safe_from p {w = has_built o part.number x w4} (record { later = later_same p w4.objects; typed = built_typed part x w4 a.0 (isa_later p l i1) (document_later p (later_then p l1.later l) is) l4.typed }) (isa_later p l i1)))))

      pub contents_safe : (a : Class) (contents : Contents) → is_fine_contents p this d.root a contents ≡ true → (x : ObjId) (w : World) → IsA p w.objects x a → Doc w.objects → Typed p w → Safe p false w.objects (build_contents c o contents x w) (λ _ _. Unit {0})
      contents_safe a Contents.NoContent e x w i is ty = safe_done p {w = w} ty tt
      contents_safe a (Contents.Child y contents) e x w i is ty =
          let b1 = both_true p _ (is_fine_contents p this d.root a contents) e in
          let b2 = both_true p _ (is_fine_instance p this d.root y) b1.0 in
          let b3 = both_true p _ (is_fine_made p this d.root y) b2.0 in
          let b4 = both_true p (is_container (bases p) a) (is_component (bases p) (part_of y).class) b3.0 in
          let made = (both_true p (can_make p (part_of y).class 0) (not ((part_of y).number == 0)) b3.1).0 in
          safe_bind p (presence_safe y (part_of y).presence _ w (b2.1, b3.1) is ty
          (λ w1 is1 f. safe_bind p (build_safe y b2.1 made w1 is1 f.typed)
          (λ child w2 l2 k. add_child_safe p fine n does law x child (Some (declared_spot x o (part_of y).number)) w2 (up (isa_later p (later_then p f.later l2.later) i) (container_component p fine a b4.0)) (up k b4.1) l2.typed)))
          (λ _ w3 l3 _. contents_safe a contents b1.1 x w3 (isa_later p l3.later i) (document_later p l3.later is) l3.typed)
        where
          up : {os : List Object} {z : ObjId} {b : Class} → IsA p os z b → is_component (bases p) b ≡ true → IsComponent p os z
          up {b} k g = record { class = k.class; at = k.at; is = above p fine k.class b (Class.Native native.UIComponent) k.is g }
      contents_safe a (Contents.Tag name value contents) e x w i is ty =
          let b1 = both_true p _ (is_fine_contents p this d.root a contents) e in
          let b2 = both_true p (can_write p a name) (is_fine_given p this d.root value) b1.0 in
          safe_bind p (given_safe value b2.1 w is ty)
          (λ v w1 l1 k. safe_bind p (assigned_safe x a name v w1 b2.0 (isa_later p l1.later i) k l1.typed)
          (λ _ w2 l2 _. contents_safe a contents b1.1 x w2 (isa_later p (later_then p l1.later l2.later) i) (document_later p (later_then p l1.later l2.later) is) l2.typed))
      contents_safe a (Contents.Declared y contents) e x w i is ty = contents_safe a contents (both_true p _ (is_fine_contents p this d.root a contents) e).1 x w i is ty
      contents_safe a (Contents.Declared_value id value contents) e x w i is ty = contents_safe a contents (both_true p _ (is_fine_contents p this d.root a contents) e).1 x w i is ty

      given_safe : (value : Given) → is_fine_given p this d.root value ≡ true → (w : World) → Doc w.objects → Typed p w → Safe p false w.objects (build_given c o value w) (λ v os. Valid p os v)
      given_safe (Given.Given_literal value) e w is ty = safe_done p ty (valid_of p (literal_typed p w.objects value))
      given_safe (Given.Given_instance y) e w is ty =
          let b = both_true p (is_fine_made p this d.root y) (is_fine_instance p this d.root y) e in
          safe_bind p (build_safe y b.1 (both_true p (can_make p (part_of y).class 0) (not ((part_of y).number == 0)) b.0).0 w is ty) (λ x w1 l k. safe_done p l.typed (A_ref x _ k.at))
      given_safe (Given.Given_array items) e w is ty =
          safe_bind p (new_array_safe p [] w tt ty)
          (λ x w1 l at. safe_bind p (items_safe items e x w1 at (document_later p l.later is) l.typed) (λ _ w2 l2 _. safe_done p l2.typed (A_ref x _ (l2.later.kinds x An_array at))))

      items_safe : (items : Givens) → are_fine_items p this d.root items ≡ true → (x : ObjId) (w : World) → kind_at w.objects x ≡ Some An_array → Doc w.objects → Typed p w → Safe p false w.objects (build_items c o items x w) (λ _ _. Unit {0})
      items_safe Givens.NoGiven e x w at is ty = safe_done p {w = w} ty tt
      items_safe (Givens.MoreGiven value items) e x w at is ty =
          let b = both_true p (is_fine_given p this d.root value) (are_fine_items p this d.root items) e in
          safe_bind p (given_safe value b.0 w is ty)
          (λ v w1 l1 k. safe_bind p (append_safe p x v w1 (l1.later.kinds x An_array at) k l1.typed)
          (λ _ w2 l2 _. let l = later_then p l1.later l2.later in items_safe items b.1 x w2 (l.kinds x An_array at) (document_later p l is) l2.typed))

    declarations_safe : (a : Class) (contents : Contents) → is_fine_contents p this d.root a contents ≡ true → (w : World) → Doc w.objects → Typed p w → Safe p false w.objects (build_declarations c o contents w) (λ _ _. Unit {0})
    declarations_safe a Contents.NoContent e w is ty = safe_done p {w = w} ty tt
    declarations_safe a (Contents.Child y contents) e w is ty = declarations_safe a contents (both_true p _ (is_fine_contents p this d.root a contents) e).1 w is ty
    declarations_safe a (Contents.Tag name value contents) e w is ty = declarations_safe a contents (both_true p _ (is_fine_contents p this d.root a contents) e).1 w is ty
    declarations_safe a (Contents.Declared y contents) e w is ty =
        let b1 = both_true p _ (is_fine_contents p this d.root a contents) e in
        let b2 = both_true p (is_fine_made p this d.root y) (is_fine_instance p this d.root y) b1.0 in
        safe_bind p (build_safe y b2.1 (both_true p (can_make p (part_of y).class 0) (not ((part_of y).number == 0)) b2.0).0 w is ty) (λ _ w1 l _. declarations_safe a contents b1.1 w1 (document_later p l.later is) l.typed)
    declarations_safe a (Contents.Declared_value id value contents) e w is ty =
        let b1 = both_true p _ (is_fine_contents p this d.root a contents) e in
        let b2 = both_true p (can_write p this id) (is_fine_given p this d.root value) b1.0 in
        safe_bind p (given_safe value b2.1 w is ty)
        (λ v w1 l1 k. safe_bind p (assigned_safe o this id v w1 b2.0 (doc_isa w1.objects (document_later p l1.later is)) k l1.typed)
        (λ _ w2 l2 _. declarations_safe a contents b1.1 w2 (document_later p (later_then p l1.later l2.later) is) l2.typed))

    initial_safe : (states : List State) (w : World) → states ≡ d.states → Doc w.objects → Typed p w → Safe p false w.objects (enter_initial c o states w) (λ _ _. Unit {0})
    initial_safe [] w e is ty = safe_done p {w = w} ty tt
    initial_safe (s ∷ states) w e is ty = enter_first_safe p fine n does law o this d s.name s w is (subst (λ l. state_named s.name l ≡ Some s) e (ap (λ b. if b then Some s else state_named s.name states) (text_itself s.name))) ty

    enabled_from : (w : World) → Typed p w → From p w.objects (enable_all o d.bindings w)
    enabled_from w ty = keeping_from p o (λ k. record k { enabled = numbers_from 0 d.bindings }) w (λ x e k. k) (λ x e k. k) ty

    root_safe : (i : Instance) → i ≡ d.root → (w : World) → Doc w.objects → Typed p w → Safe p false w.objects (build_root c o i d w) (λ _ _. Unit {0})
    root_safe (Instance.Holding part contents) same w is ty =
        let e = subst (λ r. is_fine_instance p this d.root r ≡ true) (sym same) h.root in
        let a = both_true p (is_fine_part p this d.root part) (is_fine_contents p this d.root part.class contents) e in
        let a1 = both_true p _ (holds (same_class part.class) (instance_class p this d.root part.number)) a.0 in
        let a2 = both_true p _ (is_fine_presence p this d.root part.class part.presence) a1.0 in
        let a3 = both_true p (list_all (is_fine_attribute p this d.root part.class) part.attributes) (is_fine_id p this d.root part.id) a2.0 in
        let up = base_above p this part.class (h.base ∙ ap (λ r. Some (part_of r).class) (sym same)) in
        safe_bind p (attributes_safe o part.class part.attributes w a3.0 (record { class = this; at = is.at; is = up }) is ty)
        (λ _ w1 l1 _. safe_bind p (declarations_safe part.class contents a.1 w1 (document_later p l1.later is) l1.typed)
        (λ _ w2 l2 _. let is2 = document_later p (later_then p l1.later l2.later) is in safe_bind p (contents_safe part.class contents a.1 o w2 (record { class = this; at = is2.at; is = up }) is2 l2.typed)
        (λ _ w3 l3 _. let f = enabled_from w3 l3.typed in let is3 = document_later p (later_then p l3.later f.later) is2 in
        safe_bind p (safe_later p f.later (each (start c) (bindings_where (λ b. not b.second) o 0 d.bindings) (enable_all o d.bindings w3)) (all_start_safe (λ b. not b.second) (enable_all o d.bindings w3) is3 f.typed))
        (λ _ w4 l4 _. let is4 = document_later p (later_then p l3.later l4.later) is2 in initial_safe d.states (record w4 { begun = o ∷ w4.begun }) refl is4 (l4.typed.0, l4.typed.1, l4.typed.2, l4.typed.3, (document_made p w4.objects o this d is4, l4.typed.4), l4.typed.5)))))

    pub document_safe : (w : World) → Doc w.objects → Typed p w → Safe p false w.objects (build_document c o w) (λ _ _. Unit {0})
    document_safe w is ty =
        safe_on p o w (Instance_of this) _ is.at ty (λ x here same th. safe_found p (document_in p x) w _ d (document_in_is p x this d same is.is) (root_safe d.root refl w is ty))

    pub instance_safe : (number : ℕ) (i : Instance) (w : World) → instance_numbered d.root number ≡ Some i → is_fine_instance p this d.root i ≡ true → is_fine_made p this d.root i ≡ true → Doc w.objects → Typed p w
        → Safe p false w.objects (build_instance c o number w) (λ v os. (x : ObjId) × (v ≡ value.Ref x) × IsA p os x (part_of i).class)
    instance_safe number i w e f m is ty =
        safe_on p o w (Instance_of this) _ is.at ty
        (λ x here same th. safe_found p (document_in p x) w _ d (document_in_is p x this d same is.is)
        (safe_found p (instance_numbered d.root number) w _ i e
        (safe_bind p (build_safe i f (both_true p (can_make p (part_of i).class 0) (not ((part_of i).number == 0)) m).0 w is ty) (λ child w1 l k. safe_done p l.typed (child, refl, k)))))
