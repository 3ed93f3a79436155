-- Sent events, children, writes and changes of state keep what holds.
use Rattle.std.proofs.Common.{List, [], ap, append_assoc, arith, length-append, not, refl, subst, suc, sym, true≢false, zero, ℕ, ◌&&◌, ◌++◌, ◌||◌, ◌∙◌, ◌∷◌, ◌≡◌}
use Rattle.std.specs.List.{flat_map, list_any}
use Rattle.std.specs.Prelude.{Bool, None, Option, Some, codes, drop, false, if◌then◌else◌, insert, is_some, length, option_and_then, option_map, slice_get, take, true, unwrap_or}
use Rattle.std.specs.Str.{bytes_eq}
use Rattle.flex_base.specs.Lists.{changed_at, changed_entry, entry}
use Rattle.flex_base.specs.Value.{is_object, same}
use Rattle.flex_base.specs.declared.outcome.Stop.TheVariants as stop
use Rattle.flex_base.specs.declared.record.TraceItem.TheVariants.{Written}
use Rattle.flex_base.specs.declared.value.ObjId.{ObjId}
use Rattle.flex_base.specs.declared.value.Value.{Value}
use Rattle.flex_base.specs.declared.value.Value.TheVariants as value
use Rattle.component_catalog.specs.Events.{Event, creation_complete, current_state_change}
use Rattle.component_catalog.specs.declared.class.NativeClass.TheVariants as native
use Rattle.flex_world.specs.Children.{joined_to, place_for, without_child}
use Rattle.flex_world.specs.Classes.{descends, is_component, lineage_in, upward_in}
use Rattle.flex_world.specs.declared.kind.Class.{Class}
use Rattle.flex_world.specs.declared.kind.StaticType.{StaticType}
use Rattle.flex_world.specs.Events.{is_registered}
use Rattle.flex_world.specs.Making.{computes}
use Rattle.flex_world.specs.Objects.{An_array, Field, Instance_of, Kind, Object, Spot, Watcher, ancestors_of, can_be_written, changed_object, class_of_kind, computed_property, current_state, field_named, following, is_number_among, is_object_among, is_state_field, object_at, object_class, property_or, text_in, watcher, with_value}
use Rattle.flex_program.proofs.ClassLaws.{both_true, fine_class, same_text}
use Rattle.flex_program.proofs.Facts.{base_above, component_state, descends_itself, event_type_kept, field_down, four_more, kept_down, written_type_down}
use Rattle.flex_program.proofs.Inverted.{All, all_append, all_found, map_is, not_both_ways, same_some, some_is, then_is}
use Rattle.flex_program.specs.Classes.{bases, document_in, document_of, fields_of, has_property, own_fields}
use Rattle.flex_program.specs.Fine.{is_fine, is_fine_document, is_named, kept_type, written_type}
use Rattle.flex_program.specs.Program.{Binding, Document, Program, SourceClass, State}
use Rattle.flex_meaning.proofs.Acting.{Exists, dispatch_safe, exists_later, keeping_from, kinds_from}
use Rattle.flex_meaning.proofs.Changing.{allocated_then, convert_safe, field_unharmed, other_field, other_states, safe_guarded, this_field}
use Rattle.flex_meaning.proofs.Holding.{IsA, IsComponent, IsDocument, Later, OfType, T_any, T_array, T_bool, T_int, T_no_array, T_no_object, T_no_text, T_object, T_text, Typed, TypedObject, Valid, has_state, in_state, kind_at, shape, shape_in, state_at}
use Rattle.flex_meaning.proofs.Keeping.{From, Safe, changed_from, document_later, from_then, isa_later, later_same, later_then, object_typed, safe_bind, safe_choose, safe_done, safe_each, safe_found, safe_from, safe_later, safe_map, safe_on, safe_spent, safe_stop}
use Rattle.flex_meaning.proofs.Kept.{Kept}
use Rattle.flex_meaning.proofs.Operations.{field_is, field_type, field_typed, field_writes, shape_as}
use Rattle.flex_meaning.specs.Activities.{Context, Does, Leaves}
use Rattle.flex_meaning.specs.Changes.{ask, change_state, end_change, enter_first, enter_state, is_current, is_known, request, set_over, set_running, state_asked, state_named, store_state, take_kept, keep}
use Rattle.flex_meaning.specs.Dispatch.{announce, dispatch, send, set_event}
use Rattle.flex_meaning.specs.Elements.{add_child, completed, joins, leave_parent, take_out}
use Rattle.flex_meaning.specs.Results.{Result, choose, done, stops}
use Rattle.flex_meaning.specs.Storing.{binding_of, may_start, start, start_affected, store}
use Rattle.flex_meaning.specs.Tasks.{context}
use Rattle.flex_meaning.specs.Watching.{affected, affected_from, watchers_in, watchers_of, watches}
use Rattle.flex_meaning.specs.World.{Built, World, change_object, note, set_field}
use Rattle.flex_meaning.specs.Writes.{assign, write}

changed_here : (f : Object → Object) (xs : List Object) (n : ℕ) (c : Object) → slice_get xs n ≡ Some c → slice_get (changed_at f xs n) n ≡ Some (f c)
changed_here f [] n c e = absurd (cc)
changed_here f (x ∷ xs) zero c e = ap (λ y. Some (f y)) (same_some x c e)
changed_here f (x ∷ xs) (suc n) c e = changed_here f xs n c e

entry_here : (f : Object → Object) (os : List Object) (n : ℕ) (c : Object) → entry os n ≡ Some c → entry (changed_entry f os n) n ≡ Some (f c)
entry_here f os zero c e = absurd (cc)
entry_here f os (suc n) c e = changed_here f os n c e

-- the object that was changed
pub object_changed : (f : Object → Object) (os : List Object) (o : ObjId) (c : Object) → object_at os o ≡ Some c → object_at (changed_object f o os) o ≡ Some (f c)
object_changed f os o c e = entry_here f os o.0 c e

pub seam : {A : Type 0} (pre : List A) (x : A) (xs : List A) → slice_get (pre ++ x ∷ xs) (length pre) ≡ Some x
seam [] x xs = refl
seam (y ∷ pre) x xs = seam pre x xs

pub kind_is : (k : Kind) (c : Class) → class_of_kind k ≡ Some c → k ≡ Instance_of c
kind_is (Instance_of d) c e = ap Instance_of (same_some d c e)
kind_is An_array c e = absurd (cc)

module _ (p : Program) where
  -- the state that is found has the name
  pub found_name : (name : List ℕ) (states : List State) (s : State) → state_named name states ≡ Some s → s.name ≡ name
  found_name name [] s e = absurd (cc)
  found_name name (x ∷ states) s e = by (bytes_eq x.name name) refl e (found_name name states s)
    where
      by : (b : Bool) → bytes_eq x.name name ≡ b → (if b then Some x else state_named name states) ≡ Some s → (state_named name states ≡ Some s → s.name ≡ name) → s.name ≡ name
      by true g e1 rest = subst (λ (z : State). z.name ≡ name) (same_some x s e1) (same_text x.name name g)
      by false g e1 rest = rest e1

  -- a state by its own name
  pub state_itself : (name : List ℕ) (states : List State) (s : State) → state_named name states ≡ Some s → state_named s.name states ≡ Some s
  state_itself name states s e = ap (λ t. state_named t states) (found_name name states s e) ∙ e

  pub document_in_is : (c : Object) (k : Class) (d : Document) → c.kind ≡ Instance_of k → document_of p k ≡ Some d → document_in p c ≡ Some d
  document_in_is c k d same is = ap (λ x. option_and_then (document_of p) (class_of_kind x)) same ∙ is

  pub document_of_object : (c : Object) (d : Document) → document_in p c ≡ Some d → (k : Class) × (c.kind ≡ Instance_of k) × (document_of p k ≡ Some d)
  document_of_object c d e = let k = then_is (document_of p) (object_class c) d e in (k.0, kind_is c.kind k.0 k.1, k.2)

  -- a binding that a watcher names
  pub record WatchFine (os : List Object) (b : Watcher) : Type 0 where
    pub class : Class
    pub document : Document
    pub is : IsDocument p os b.document class document
    pub binding : Binding
    pub at : slice_get document.bindings b.number ≡ Some binding

  pub watch_later : (b : Watcher) (os os1 : List Object) → Later p os os1 → WatchFine os b → WatchFine os1 b
  watch_later b os os1 l h = record { class = h.class; document = h.document; is = document_later p l h.is; binding = h.binding; at = h.at }

  pub step : {A : Type 0} (pre : List A) (x : A) (n : ℕ) → length pre ≡ n → length (pre ++ x ∷ []) ≡ suc n
  step pre x n e = omega (arith, length-append pre (x ∷ []))

  watchers_fine : (os : List Object) (built : List Built) (o document : ObjId) (name : List ℕ) (enabled : List ℕ) (class : Class) (d : Document) → IsDocument p os document class d
      → (pre bs : List Binding) (number : ℕ) → length pre ≡ number → pre ++ bs ≡ d.bindings → All (WatchFine os) (watchers_in os built o document name enabled number bs)
  watchers_fine os built o document name enabled class d is pre [] number len all = tt
  watchers_fine os built o document name enabled class d is pre (b ∷ bs) number len all =
      all_append _ (if is_number_among number enabled && watches os built document o name b then watcher document number ∷ [] else []) _
      (by (is_number_among number enabled && watches os built document o name b))
      (watchers_fine os built o document name enabled class d is (pre ++ b ∷ []) bs (suc number) (step pre b number len) (append_assoc pre (b ∷ []) bs ∙ all))
    where
      here : slice_get d.bindings number ≡ Some b
      here = ap (λ l. slice_get l number) (sym all) ∙ ap (λ j. slice_get (pre ++ b ∷ bs) j) (sym len) ∙ seam pre b bs

      by : (x : Bool) → All (WatchFine os) (if x then watcher document number ∷ [] else [])
      by true = (record { class = class; document = d; is = is; binding = b; at = here }, tt)
      by false = tt

  affected_fine : (os : List Object) (built : List Built) (o : ObjId) (name : List ℕ) (pre rest : List Object) (document : ObjId) → suc (length pre) ≡ document.0 → pre ++ rest ≡ os → All (WatchFine os) (affected_from p os built o name document rest)
  affected_fine os built o name pre [] document len all = tt
  affected_fine os built o name pre (x ∷ rest) document len all =
      all_append _ (watchers_of os built o name document x.keeping.enabled (document_in p x)) _ (by (document_in p x) refl)
      (affected_fine os built o name (pre ++ x ∷ []) rest (following document) (ap suc (step pre x (length pre) refl) ∙ ap suc len) (append_assoc pre (x ∷ []) rest ∙ all))
    where
      here : object_at os document ≡ Some x
      here = ap (entry os) (sym len) ∙ ap (λ l. slice_get l (length pre)) (sym all) ∙ seam pre x rest

      by : (d : Option Document) → document_in p x ≡ d → All (WatchFine os) (watchers_of os built o name document x.keeping.enabled d)
      by None e = tt
      by (Some d) e =
          let k = document_of_object x d e in
          watchers_fine os built o document name x.keeping.enabled k.0 d (record { at = ap (option_map (λ y. y.kind)) here ∙ ap Some k.1; is = k.2 }) [] d.bindings 0 refl refl

  children_from : (o : ObjId) (f : List ObjId → List ObjId) (w : World) → ((os : List Object) (xs : List ObjId) → Later p w.objects os → All (IsComponent p os) xs → All (IsComponent p os) (f xs)) → Typed p w → From p w.objects (change_object o (λ c. record c { children = f c.children }) w)
  children_from o f w keep ty = changed_from p o _ w (record {
    kinds = λ c e. refl;
    states = λ c e h. h;
    typed = λ c e os1 l h. record { fields = h.fields; names = h.names; elements = h.elements; parent = h.parent; children = keep os1 c.children l h.children; listeners = h.listeners; entered = h.entered; kept = h.kept };
  }) ty

  orphan_from : (o : ObjId) (w : World) → Typed p w → From p w.objects (change_object o (λ c. record c { parent = None }) w)
  orphan_from o w ty = changed_from p o _ w (record {
    kinds = λ c e. refl;
    states = λ c e h. h;
    typed = λ c e os1 l h. record { fields = h.fields; names = h.names; elements = h.elements; parent = tt; children = h.children; listeners = h.listeners; entered = h.entered; kept = h.kept };
  }) ty

  adopted_from : (o container : ObjId) (s : Option Spot) (w : World) → IsComponent p w.objects container → Typed p w → From p w.objects (change_object o (joined_to container s) w)
  adopted_from o container s w k ty = changed_from p o _ w (record {
    kinds = λ c e. refl;
    states = λ c e h. h;
    typed = λ c e os1 l h. record { fields = h.fields; names = h.names; elements = h.elements; parent = isa_later p l k; children = h.children; listeners = h.listeners; entered = h.entered; kept = h.kept };
  }) ty

  all_without : (P : ObjId → Type 0) (o : ObjId) (xs : List ObjId) → All P xs → All P (without_child o xs)
  all_without P o [] h = tt
  all_without P o (x ∷ xs) h = by (is_object x o) (all_without P o xs h.1)
    where
      by : (b : Bool) → All P (without_child o xs) → All P (if b then xs else x ∷ without_child o xs)
      by true rest = h.1
      by false rest = (h.0, rest)

  all_taken : (P : ObjId → Type 0) (n : ℕ) (xs : List ObjId) → All P xs → All P (take n xs)
  all_taken P zero xs h = tt
  all_taken P (suc n) [] h = tt
  all_taken P (suc n) (x ∷ xs) h = (h.0, all_taken P n xs h.1)

  all_dropped : (P : ObjId → Type 0) (n : ℕ) (xs : List ObjId) → All P xs → All P (drop n xs)
  all_dropped P zero xs h = h
  all_dropped P (suc n) [] h = tt
  all_dropped P (suc n) (x ∷ xs) h = all_dropped P n xs h.1

  parted_from : (child : ObjId) (o : Option ObjId) (w : World) → Typed p w → From p w.objects (leave_parent child o w)
  parted_from child None w ty = record { later = later_same p w.objects; typed = ty }
  parted_from child (Some parent) w ty =
      let f = children_from parent (without_child child) w (λ os xs l h. all_without _ child xs h) ty in
      let g = from_then p f (orphan_from child (change_object parent (λ c. record c { children = without_child child c.children }) w) f.typed) in
      record { later = g.later; typed = g.typed }

  pub take_out_safe : (child : ObjId) (w : World) → Exists p w.objects child → Typed p w → Safe p false w.objects (take_out child w) (λ _ _. Unit {0})
  take_out_safe child w x ty = safe_on p child w x.kind _ x.at ty (λ c here same th. safe_from p {w = leave_parent child c.parent w} (parted_from child c.parent w ty) tt)

  joined_from : (container child : ObjId) (s : Option Spot) (place : ℕ) (w : World) → IsComponent p w.objects container → IsComponent p w.objects child → Typed p w → From p w.objects (joins container child s place w)
  joined_from container child s place w k h ty =
      let f = children_from container (λ xs. insert xs place child) w (λ os xs l a. all_append _ (take place xs) (child ∷ drop place xs) (all_taken _ place xs a) (isa_later p l h, all_dropped _ place xs a)) ty in
      let g = from_then p f (adopted_from child container s (change_object container (λ c. record c { children = insert c.children place child }) w) (isa_later p f.later k) f.typed) in
      record { later = g.later; typed = g.typed }

  pub state_true : (os : List Object) (o : ObjId) (c : Object) → object_at os o ≡ Some c → state_at p os o ≡ Some true → in_state p c ≡ true
  state_true os o c here e = same_some _ _ (sym (ap (option_map (in_state p)) here) ∙ e)

  state_has : (c : Object) (k : Class) (d : Document) → c.kind ≡ Instance_of k → document_of p k ≡ Some d → (name : List ℕ) → has_state p c name ≡ true → (s : State) × (state_named name d.states ≡ Some s)
  state_has c k d same is name h = some_is (state_named name d.states) (subst (λ x. is_some (option_and_then (λ y. state_named name y.states) x) ≡ true) (document_in_is c k d same is) h)

  has_it : (c : Object) (k : Class) (d : Document) → c.kind ≡ Instance_of k → document_of p k ≡ Some d → (name : List ℕ) (s : State) → state_named name d.states ≡ Some s → has_state p c name ≡ true
  has_it c k d same is name s e = ap (λ x. is_some (option_and_then (λ y. state_named name y.states) x)) (document_in_is c k d same is) ∙ ap is_some e

  module _ (fine : is_fine p ≡ true) where
    pub fine_document : (k : Class) (d : Document) → document_of p k ≡ Some d → is_fine_document p k d ≡ true
    fine_document (Class.Native c) d e = absurd (cc)
    fine_document (Class.File k) d e =
        let x = then_is (λ (class : SourceClass). class.document) (slice_get p.classes k) d e in
        let f : unwrap_or (option_map (is_fine_document p (Class.File k)) x.0.document) true ≡ true = (both_true p _ _ (fine_class p fine k x.0 x.1)).1 in
        subst (λ y. unwrap_or (option_map (is_fine_document p (Class.File k)) y) true ≡ true) x.2 f

    pub document_component : (k : Class) (d : Document) → document_of p k ≡ Some d → is_component (bases p) k ≡ true
    document_component k d e = (both_true p _ _ (both_true p _ _ (both_true p _ _ (both_true p _ _ (both_true p _ _ (fine_document k d e)).0).0).0).0).0

    -- a document keeps `currentState`
    state_kept : (k : Class) (d : Document) → document_of p k ≡ Some d → kept_type p k current_state ≡ Some StaticType.String
    state_kept k d e = kept_down p fine k (Class.Native native.UIComponent) (document_component k d e) current_state StaticType.String (component_state p fine)

    -- the field that all components have for it is no variable
    component_field : option_map (shape p) (field_named current_state (fields_of p (Class.Native native.UIComponent))) ≡ Some (StaticType.String, false, false)
    component_field = subst (λ m. option_map (shape p) (field_named current_state (flat_map (own_fields p) (upward_in (bases p) m (Some (Class.Native native.UIComponent))))) ≡ Some (StaticType.String, false, false)) (four_more p) refl

    state_shape : (k : Class) (d : Document) → document_of p k ≡ Some d → shape_in p (fields_of p k) current_state ≡ Some (StaticType.String, false, false)
    state_shape k d e =
        let f = map_is (shape p) (field_named current_state (fields_of p (Class.Native native.UIComponent))) _ component_field in
        ap (option_map (shape p)) (field_down p fine k (Class.Native native.UIComponent) (document_component k d e) current_state f.0 f.1) ∙ ap Some f.2

    module _ (n : ℕ) (does : Does) (law : Kept p does) where
      abbrev c : Context
      c = context p n does

      sent_safe : (row : Event) (target e : ObjId) (w : World) → descends (bases p) (Class.Native row.row.class) (Class.Native native.Event) ≡ true → kind_at w.objects e ≡ Some (Instance_of (Class.Native row.row.class)) → Exists p w.objects target → Typed p w
          → Safe p false w.objects (dispatch c target e (set_event e (value.Text row.name) (value.Bool row.row.bubbles) (value.Bool row.row.cancelable) w)) (λ _ _. Unit {0})
      sent_safe row target e w is at t ty =
          let ev : IsA p w.objects e (Class.Native native.Event) = record { class = Class.Native row.row.class; at = at; is = is } in
          let x = map_is (λ (y : Object). y.kind) (object_at w.objects e) (Instance_of (Class.Native row.row.class)) at in
          let g = field_is p w.objects x.0 (Class.Native row.row.class) (object_typed p e x.0 w x.1 ty) x.2 (codes "type") StaticType.String (kept_down p fine (Class.Native row.row.class) (Class.Native native.Event) is (codes "type") StaticType.String (event_type_kept p fine)) in
          let f = kinds_from p fine e (value.Text row.name) (value.Bool row.row.bubbles) (value.Bool row.row.cancelable) w ev (T_text row.name) (T_bool row.row.bubbles) (T_bool row.row.cancelable) ty in
          let one = with_value (codes "type") (value.Text row.name) x.0.fields in
          let two = with_value (codes "bubbles") (value.Bool row.row.bubbles) one in
          let three = with_value (codes "cancelable") (value.Bool row.row.cancelable) two in
          let typed : field_named (codes "type") three ≡ Some (record g.0 { value = value.Text row.name }) =
          other_field p (codes "cancelable") (codes "type") (value.Bool row.row.cancelable) two refl ∙ other_field p (codes "bubbles") (codes "type") (value.Bool row.row.bubbles) one refl ∙ this_field p (codes "type") (value.Text row.name) x.0.fields g.0 g.1 in
          let here = object_changed (λ y. record y { fields = with_value (codes "cancelable") (value.Bool row.row.cancelable) y.fields }) _ e _ (object_changed (λ y. record y { fields = with_value (codes "bubbles") (value.Bool row.row.bubbles) y.fields }) _ e _ (object_changed (λ y. record y { fields = with_value (codes "type") (value.Text row.name) y.fields }) w.objects e x.0 x.1)) in
          safe_later p f.later (dispatch c target e (set_event e (value.Text row.name) (value.Bool row.row.bubbles) (value.Bool row.row.cancelable) w))
          (dispatch_safe p fine n does law target e (set_event e (value.Text row.name) (value.Bool row.row.bubbles) (value.Bool row.row.cancelable) w) (record x.0 { fields = three }) here
          (ap (λ y. is_some (text_in (property_or y (computed_property (record x.0 { fields = three }) (codes "type"))))) typed)
          (isa_later p f.later ev) (exists_later p target _ _ f.later t) f.typed)

      pub send_safe : (row : Event) (target : ObjId) (w : World) → descends (bases p) (Class.Native row.row.class) (Class.Native native.Event) ≡ true → Exists p w.objects target → Typed p w → Safe p false w.objects (send c row target w) (λ _ _. Unit {0})
      send_safe row target w is t ty =
          allocated_then p fine (Class.Native row.row.class) w _ refl ty (λ e w1 a. sent_safe row target e w1 is a.at (exists_later p target _ _ a.later t) a.typed)

      pub announce_safe : (row : Event) (target : ObjId) (w : World) → descends (bases p) (Class.Native row.row.class) (Class.Native native.Event) ≡ true → Exists p w.objects target → Typed p w → Safe p false w.objects (announce c row target w) (λ _ _. Unit {0})
      announce_safe row target w is t ty =
          safe_on p target w t.kind _ t.at ty
          (λ node here same th. safe_choose p (is_registered row.name node) _ done w (λ _. safe_bind p (send_safe row target w is t ty) (λ _ w1 l _. safe_done p {w = w1} l.typed tt)) (λ _. safe_done p {w = w} ty tt))

      completed_safe : (b : Bool) (child : ObjId) (w : World) → Exists p w.objects child → Typed p w → Safe p false w.objects (completed c b child w) (λ _ _. Unit {0})
      completed_safe b child w x ty =
          safe_choose p b done _ w (λ _. safe_done p {w = w} ty tt) (λ _. announce_safe creation_complete child w (base_above p (Class.Native native.FlexEvent) (Class.Native native.Event) refl) x ty)

      component_exists : (os : List Object) (o : ObjId) → IsComponent p os o → Exists p os o
      component_exists os o h = record { kind = Instance_of h.class; at = h.at }

      pub add_child_safe : (container child : ObjId) (s : Option Spot) (w : World) → IsComponent p w.objects container → IsComponent p w.objects child → Typed p w → Safe p false w.objects (add_child c container child s w) (λ _ _. Unit {0})
      add_child_safe container child s w k h ty =
          safe_choose p (is_object_among child (container ∷ ancestors_of w.objects container)) (stops stop.Cycle) _ w (λ _. safe_stop p)
          (λ _. safe_bind p (take_out_safe child w (component_exists _ child h) ty)
          (λ _ w1 l _. safe_on p child w1 _ _ (isa_later p l.later h).at l.typed
          (λ x here1 same1 th1. safe_on p container w1 _ _ (isa_later p l.later k).at l.typed
          (λ o here same th.
          let f = joined_from container child s (place_for w1.objects s o.children) w1 (isa_later p l.later k) (isa_later p l.later h) l.typed in
          safe_later p f.later (completed c x.was_added child (joins container child s (place_for w1.objects s o.children) w1))
          (completed_safe x.was_added child (joins container child s (place_for w1.objects s o.children) w1) (component_exists _ child (isa_later p (later_then p l.later f.later) h)) f.typed)))))

      pub start_safe : (b : Watcher) (w : World) → WatchFine w.objects b → Typed p w → Safe p false w.objects (start c b w) (λ _ _. Unit {0})
      start_safe b w h ty =
          safe_on p b.document w (Instance_of h.class) _ h.is.at ty
          (λ d here same th. safe_found p (binding_of c d b.number) w _ h.binding (ap (option_and_then (λ document. slice_get document.bindings b.number)) (document_in_is d h.class h.document same h.is.is) ∙ h.at)
          (safe_choose p (may_start d.keeping b.number h.binding) _ done w
          (λ _. safe_bind p (law.bindings b.document b.number h.class h.document h.binding w h.is h.at ty) (λ _ w1 l _. safe_done p {w = w1} l.typed tt)) (λ _. safe_done p {w = w} ty tt)))

      affected_safe : (o : ObjId) (name : List ℕ) (w : World) → Typed p w → Safe p false w.objects (start_affected c o name w) (λ _ _. Unit {0})
      affected_safe o name w ty =
          safe_each p (λ b os. WatchFine os b) watch_later (start c) (λ b w1 h ty1. start_safe b w1 h ty1) (affected p w.objects w.built o name) w (affected_fine w.objects w.built o name [] w.objects (record { 0 = 1 }) refl refl) ty

      pub store_safe : (o : ObjId) (f : Field) (v : Value) (w : World) → Typed p (set_field o f.name v w) → Safe p false (set_field o f.name v w).objects (store c o f v w) (λ _ _. Unit {0})
      store_safe o f v w ty = by (f.public || f.bindable)
        where
          goes : (w1 : World) → Typed p w1 → Safe p false w1.objects (choose f.bindable (start_affected c o f.name) done w1) (λ _ _. Unit {0})
          goes w1 ty1 = safe_choose p f.bindable (start_affected c o f.name) done w1 (λ _. affected_safe o f.name w1 ty1) (λ _. safe_done p {w = w1} ty1 tt)

          by : (b : Bool) → Safe p false (set_field o f.name v w).objects (choose f.bindable (start_affected c o f.name) done (if b then note (Written o f.text v) (set_field o f.name v w) else set_field o f.name v w)) (λ _ _. Unit {0})
          by true = goes (note (Written o f.text v) (set_field o f.name v w)) ty
          by false = goes (set_field o f.name v w) ty

      -- Changes of state

      store_state_safe : (o : ObjId) (k : Class) (d : Document) (name : List ℕ) (s : State) (w : World) → IsDocument p w.objects o k d → state_named name d.states ≡ Some s → Typed p w → Safe p false w.objects (store_state c o name w) (λ _ os. state_at p os o ≡ Some true)
      store_state_safe o k d name s w is named ty =
          safe_on p o w (Instance_of k) _ is.at ty
          (λ x here same th.
          let g = field_is p w.objects x k th same current_state StaticType.String (state_kept k d is.is) in
          safe_found p (field_named current_state x.fields) w _ g.0 g.1
          (let fname : g.0.name ≡ current_state = same_text g.0.name current_state (all_found (λ _. Unit {0}) (λ y. bytes_eq y.name current_state) x.fields g.0 g.1 (all_unit x.fields)).1 in
          let f : From p w.objects (set_field o g.0.name (value.Text name) w) = changed_from p o _ w (field_unharmed p w.objects o g.0.name (value.Text name)
          (λ y e h found. subst (λ t. OfType p w.objects (value.Text name) t) (sym (type_is y e h (subst (λ z. field_named z y.fields ≡ Some h) fname found))) (T_text name))
          (λ y e _. in_it y (kind_of y e) (object_typed p o y w e ty) g.0.name fname)) ty in
          safe_later p f.later (store c o g.0 (value.Text name) w) (safe_map p (store_safe o g.0 (value.Text name) w f.typed) (λ _ w1 l _. l.later.states o (ap (option_map (in_state p)) (object_changed _ w.objects o x here) ∙ ap Some (in_it x same th g.0.name fname))))))
        where
          all_unit : (fs : List Field) → All (λ _. Unit {0}) fs
          all_unit [] = tt
          all_unit (y ∷ fs) = (tt, all_unit fs)

          kind_of : (y : Object) → object_at w.objects o ≡ Some y → y.kind ≡ Instance_of k
          kind_of y e = same_some _ _ (sym (ap (option_map (λ z. z.kind)) e) ∙ is.at)

          type_is : (y : Object) → object_at w.objects o ≡ Some y → (h : Field) → field_named current_state y.fields ≡ Some h → h.type ≡ StaticType.String
          type_is y e h found = field_type p w.objects y k (object_typed p o y w e ty) (kind_of y e) current_state StaticType.String (state_kept k d is.is) h found

          asked : (y : Object) → y.kind ≡ Instance_of k → is_some (state_asked (document_in p y) (value.Text name)) ≡ true
          asked y e = ap (λ z. is_some (state_asked z (value.Text name))) (document_in_is y k d e is.is) ∙ ap is_some named

          in_it : (y : Object) → y.kind ≡ Instance_of k → TypedObject p w.objects y → (fname : List ℕ) → fname ≡ current_state → in_state p (record y { fields = with_value fname (value.Text name) y.fields }) ≡ true
          in_it y e th fname same =
              let g = field_is p w.objects y k th e current_state StaticType.String (state_kept k d is.is) in
              subst (λ z. in_state p (record y { fields = with_value z (value.Text name) y.fields }) ≡ true) (sym same)
              (ap (λ z. is_some (option_and_then (λ f. state_asked (document_in p y) f.value) z)) (this_field p current_state (value.Text name) y.fields g.0 g.1) ∙ asked y e)

      enter_state_safe : (o : ObjId) (k : Class) (d : Document) (name : List ℕ) (s : State) (w : World) → IsDocument p w.objects o k d → state_named name d.states ≡ Some s → Typed p w → Safe p false w.objects (enter_state c o name w) (λ _ os. state_at p os o ≡ Some true)
      enter_state_safe o k d name s w is named ty =
          safe_bind p (store_state_safe o k d name s w is named ty)
          (λ _ w1 l e. safe_bind p (law.enters o k d name s w1 (document_later p l.later is) named l.typed) (λ _ w2 l2 _. safe_done p {w = w2} l2.typed (l2.later.states o e)))

      running_from : (o : ObjId) (w : World) → Typed p w → From p w.objects (set_running o w)
      running_from o w ty = keeping_from p o (λ k. record k { running = true }) w (λ x e h. h) (λ x e h. h) ty

      over_from : (o : ObjId) (w : World) → state_at p w.objects o ≡ Some true → Typed p w → From p w.objects (set_over o w)
      over_from o w st ty = keeping_from p o (λ k. record k { running = false; entered = true; kept = None }) w (λ x e h _. state_true w.objects o x e st) (λ x e h name g. absurd (cc)) ty

      -- what comes after a change: it goes on to a state of the document
      abbrev NextFine : ObjId → Class → Document → (List ℕ → World → Result (Unit {0})) → Type 0
      NextFine o k d next = (name : List ℕ) (s : State) (w : World) → IsDocument p w.objects o k d → state_named name d.states ≡ Some s → state_at p w.objects o ≡ Some true → Typed p w → Safe p false w.objects (next name w) (λ _ _. Unit {0})

      end_safe : (next : List ℕ → World → Result (Unit {0})) (o : ObjId) (k : Class) (d : Document) (w : World) → NextFine o k d next → IsDocument p w.objects o k d → state_at p w.objects o ≡ Some true → Typed p w → Safe p false w.objects (end_change next o w) (λ _ _. Unit {0})
      end_safe next o k d w goes is st ty =
          safe_on p o w (Instance_of k) _ is.at ty
          (λ x here same th.
          let f = over_from o w st ty in
          safe_later p f.later (take_kept next x x.keeping.kept (set_over o w)) (by x (set_over o w) x.keeping.kept (λ name e. state_has x k d same is.is name (th.kept name e)) (document_later p f.later is) (f.later.states o st) f.typed))
        where
          by : (x : Object) (w1 : World) (kept : Option (List ℕ)) → ((name : List ℕ) → kept ≡ Some name → (s : State) × (state_named name d.states ≡ Some s)) → IsDocument p w1.objects o k d → state_at p w1.objects o ≡ Some true → Typed p w1 → Safe p false w1.objects (take_kept next x kept w1) (λ _ _. Unit {0})
          by x w1 None h is1 st1 ty1 = safe_done p {w = w1} ty1 tt
          by x w1 (Some name) h is1 st1 ty1 = safe_choose p (is_current name x) done (next name) w1 (λ _. safe_done p {w = w1} ty1 tt) (λ _. let s = h name refl in goes name s.0 w1 is1 s.1 st1 ty1)

      pub change_safe : (m : ℕ) (o : ObjId) (k : Class) (d : Document) → NextFine o k d (change_state c m o)
      change_safe zero o k d name s w is named st ty = safe_spent p
      change_safe (suc m) o k d name s w is named st ty =
          let f = running_from o w ty in
          safe_bind p (safe_later p f.later (does (Leaves o name) (set_running o w)) (law.leaves o k d name (set_running o w) (document_later p f.later is) (f.later.states o st) f.typed))
          (λ _ w1 l1 _. safe_bind p (enter_state_safe o k d name s w1 (document_later p l1.later is) named l1.typed)
          (λ _ w2 l2 e2. safe_bind p (announce_safe current_state_change o w2 (descends_itself p (Class.Native native.Event)) (record { kind = Instance_of k; at = l2.later.kinds o _ (l1.later.kinds o _ is.at) }) l2.typed)
          (λ _ w3 l3 _. end_safe (λ other w4. change_state c m o other w4) o k d w3 (change_safe m o k d) (document_later p (later_then p (later_then p l1.later l2.later) l3.later) is) (l3.later.states o e2) l3.typed)))

      pub enter_first_safe : (o : ObjId) (k : Class) (d : Document) (name : List ℕ) (s : State) (w : World) → IsDocument p w.objects o k d → state_named name d.states ≡ Some s → Typed p w → Safe p false w.objects (enter_first c o name w) (λ _ _. Unit {0})
      enter_first_safe o k d name s w is named ty =
          let f = running_from o w ty in
          safe_bind p (safe_later p f.later (enter_state c o name (set_running o w)) (enter_state_safe o k d name s (set_running o w) (document_later p f.later is) named f.typed))
          (λ _ w1 l1 e1. end_safe (change_state c n o) o k d w1 (change_safe n o k d) (document_later p l1.later is) e1 l1.typed)

      keep_from : (o : ObjId) (k : Class) (d : Document) (name : List ℕ) (s : State) (w : World) → IsDocument p w.objects o k d → state_named name d.states ≡ Some s → Typed p w → From p w.objects (keep o name w)
      keep_from o k d name s w is named ty =
          keeping_from p o (λ y. record y { kept = Some name }) w (λ x e h. h)
          (λ x e h other g. has_it x k d (same_some _ _ (sym (ap (option_map (λ z. z.kind)) e) ∙ is.at)) is.is other s (subst (λ z. state_named z d.states ≡ Some s) (same_some name other g) named)) ty

      or_false : (a b : Bool) → (a || not b) ≡ false → b ≡ true
      or_false true b e = absurd (true≢false e)
      or_false false true e = refl
      or_false false false e = absurd (true≢false e)

      -- anything may be asked of any object
      pub request_safe : (o : ObjId) (v : Value) (w : World) → Exists p w.objects o → Typed p w → Safe p false w.objects (request c o v w) (λ _ _. Unit {0})
      request_safe o v w h ty = safe_on p o w h.kind _ h.at ty (λ x here same th. safe_guarded p (is_known w.registered o (document_in p x)) _ w (known x here (document_in p x) refl) (by x here th (document_in p x) refl v))
        where
          known : (x : Object) → object_at w.objects o ≡ Some x → (d : Option Document) → document_in p x ≡ d → is_known w.registered o d ≡ true
          known x here None e = refl
          known x here (Some d) e = let k = document_of_object x d e in ty.5 o k.0 d (ap (option_map (λ y. y.kind)) here ∙ ap Some k.1) k.2

          has : (x : Object) → object_at w.objects o ≡ Some x → TypedObject p w.objects x → (d : Document) → document_in p x ≡ Some d → (s : Option State) → ((t : State) → s ≡ Some t → state_named t.name d.states ≡ Some t) → Safe p false w.objects (ask c o x s w) (λ _ _. Unit {0})
          has x here th d e None f = safe_stop p
          has x here th d e (Some s) f =
              let k = document_of_object x d e in
              let is : IsDocument p w.objects o k.0 d = record { at = ap (option_map (λ y. y.kind)) here ∙ ap Some k.1; is = k.2 } in
              let named = f s refl in
              safe_choose p (x.keeping.running || not x.keeping.entered) _ _ w
              (λ _. safe_from p {w = keep o s.name w} (keep_from o k.0 d s.name s w is named ty) tt)
              (λ g. safe_choose p (is_current s.name x) done (change_state c n o s.name) w (λ _. safe_done p {w = w} ty tt)
              (λ _. change_safe n o k.0 d s.name s w is named (ap (option_map (in_state p)) here ∙ ap Some (th.entered (or_false x.keeping.running x.keeping.entered g))) ty))

          named_one : (d : Document) (name : List ℕ) (t : State) → state_named name d.states ≡ Some t → state_named t.name d.states ≡ Some t
          named_one d name t e = state_itself name d.states t e

          by : (x : Object) → object_at w.objects o ≡ Some x → TypedObject p w.objects x → (d : Option Document) → document_in p x ≡ d → (v1 : Value) → Safe p false w.objects (ask c o x (state_asked d v1) w) (λ _ _. Unit {0})
          by x here th None e v1 = safe_stop p
          by x here th (Some d) e (value.Text name) = has x here th d e (state_named name d.states) (λ t g. named_one d name t g)
          by x here th (Some d) e _ = safe_stop p

      -- Writes

      -- a field that isn't the state of a document
      no_state : (x : Object) (f : Field) (k : Class) → x.kind ≡ Instance_of k → shape_in p (fields_of p k) f.name ≡ Some (shape p f) → is_state_field f ≡ false → bytes_eq f.name current_state ≡ true → in_state p x ≡ true → ⊥
      no_state x f k same kept e g h = by (document_in p x) refl h
        where
          shut : (z : Option Field) → is_some (option_and_then (λ y. state_asked None y.value) z) ≡ true → ⊥
          shut None i = true≢false (sym i)
          shut (Some y) i = true≢false (sym i)

          same_kind : (a b : Class) → Instance_of a ≡ Instance_of b → a ≡ b
          same_kind a b e1 = same_some a b (ap class_of_kind e1)

          by : (d : Option Document) → document_in p x ≡ d → is_some (option_and_then (λ y. state_asked d y.value) (field_named current_state x.fields)) ≡ true → ⊥
          by None e1 h1 = shut (field_named current_state x.fields) h1
          by (Some d) e1 h1 =
              let m = document_of_object x d e1 in
              let is : document_of p k ≡ Some d = ap (document_of p) (same_kind _ _ (sym same ∙ m.1)) ∙ m.2 in
              let slot : f.is_slot ≡ false = ap (λ (s : StaticType × Bool × Bool). s.2) (same_some _ _ (sym kept ∙ ap (shape_in p (fields_of p k)) (same_text f.name current_state g) ∙ state_shape k d is)) in
              not_both_ways (is_state_field f) (ap (λ b. b && not f.is_slot) g ∙ ap not slot) e

      pub write_safe : (o : ObjId) (f : Field) (v : Value) (k : Class) (w : World) → kind_at w.objects o ≡ Some (Instance_of k) → shape_in p (fields_of p k) f.name ≡ Some (shape p f) → OfType p w.objects v f.type → Typed p w
          → Safe p false w.objects (write c o f v w) (λ _ _. Unit {0})
      write_safe o f v k w at kept h ty =
          safe_choose p (is_state_field f) (request c o v) _ w
          (λ _. request_safe o v w (record { kind = Instance_of k; at = at }) ty)
          (λ e. safe_choose p (same f.value v) done (store c o f v) w (λ _. safe_done p {w = w} ty tt)
          (λ _.
          let g : From p w.objects (set_field o f.name v w) = changed_from p o _ w (field_unharmed p w.objects o f.name v (λ y here i found. subst (λ t. OfType p w.objects v t) (sym (type_is y here i found)) h)
          (λ y here st. states y here e st (bytes_eq f.name current_state) refl)) ty in
          safe_later p g.later (store c o f v w) (store_safe o f v w g.typed)))
        where
          kind_of : (y : Object) → object_at w.objects o ≡ Some y → y.kind ≡ Instance_of k
          kind_of y e = same_some _ _ (sym (ap (option_map (λ z. z.kind)) e) ∙ at)

          type_is : (y : Object) → object_at w.objects o ≡ Some y → (i : Field) → field_named f.name y.fields ≡ Some i → i.type ≡ f.type
          type_is y here i found =
              let th = object_typed p o y w here ty in
              ap (λ (s : StaticType × Bool × Bool). s.0) (same_some _ _ (sym (ap (option_map (shape p)) found) ∙ shape_as p w.objects y k th (kind_of y here) f.name ∙ kept))

          states : (y : Object) → object_at w.objects o ≡ Some y → is_state_field f ≡ false → in_state p y ≡ true → (b : Bool) → bytes_eq f.name current_state ≡ b → in_state p (record y { fields = with_value f.name v y.fields }) ≡ true
          states y here e st false g = other_states p f.name v g y st
          states y here e st true g = absurd (no_state y f k (kind_of y here) kept e g st)

      named_of : (os : List Object) {v : Value} {t : StaticType} → OfType p os v t → is_named t ≡ true
      named_of os (T_int z) = refl
      named_of os (T_bool b) = refl
      named_of os (T_text t) = refl
      named_of os T_no_text = refl
      named_of os (T_array o e) = refl
      named_of os T_no_array = refl
      named_of os (T_object o k a e d) = refl
      named_of os (T_no_object a) = refl
      named_of os (T_any v h) = refl

      pub assign_safe : (o : ObjId) (a : Class) (name : List ℕ) (t : StaticType) (v : Value) (w : World) → IsA p w.objects o a → written_type p a name ≡ Some t → Valid p w.objects v → Typed p w → Safe p false w.objects (assign c o name v w) (λ _ _. Unit {0})
      assign_safe o a name t v w h e k ty =
          safe_on p o w (Instance_of h.class) _ h.at ty
          (λ x here same th.
          let g = field_writes p w.objects x h.class th same name t (written_type_down p fine h.class a h.is name t e) in
          let fname : g.0.name ≡ name = same_text g.0.name name (all_found (λ _. Unit {0}) (λ y. bytes_eq y.name name) x.fields g.0 g.1 (all_unit x.fields)).1 in
          let shaped : shape_in p (fields_of p h.class) name ≡ Some (shape p g.0) = sym (shape_as p w.objects x h.class th same name) ∙ ap (option_map (shape p)) g.1 in
          safe_guarded p (has_property p x.kind name) _ w (subst (λ z. has_property p z name ≡ true) (sym same) (had h.class (shape p g.0) shaped))
          (safe_found p (field_named name x.fields) w _ g.0 g.1
          (safe_guarded p (can_be_written g.0) _ w g.2
          (safe_bind p (convert_safe p g.0.type v w (named_of w.objects (field_typed p w.objects x th name g.0 g.1)) k ty)
          (λ v1 w1 l i. write_safe o g.0 v1 h.class w1 (l.later.kinds o _ h.at) (ap (shape_in p (fields_of p h.class)) fname ∙ shaped) i l.typed)))))
        where
          all_unit : (fs : List Field) → All (λ _. Unit {0}) fs
          all_unit [] = tt
          all_unit (y ∷ fs) = (tt, all_unit fs)

          had : (b : Class) (s : StaticType × Bool × Bool) → shape_in p (fields_of p b) name ≡ Some s → has_property p (Instance_of b) name ≡ true
          had b s e1 = by (field_named name (fields_of p b)) e1
            where
              by : (z : Option Field) → option_map (shape p) z ≡ Some s → (is_some z || list_any (computes name) (lineage_in (bases p) b)) ≡ true
              by None e2 = absurd (cc)
              by (Some y) e2 = refl
