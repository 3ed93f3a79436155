-- Listeners and dispatch keep what holds.
use mathlib.Core.List.{reverse_aux}
use Rattle.std.proofs.Common.{List, [], ap, refl, suc, zero, ℕ, ◌&&◌, ◌++◌, ◌||◌, ◌∷◌, ◌≡◌}
use Rattle.std.specs.List.{fold, list_all, list_any}
use Rattle.std.specs.Prelude.{Bool, None, Option, Some, codes, false, if◌then◌else◌, int_lt, is_some, length, map, reverse, slice_get, true, ◌==◌}
use Rattle.std.specs.Str.{bytes_eq}
use Rattle.flex_base.specs.Events.{arrival, arrivals, outward, phase_number}
use Rattle.flex_base.specs.declared.event.Arrival.{Arrival}
use Rattle.flex_base.specs.declared.event.Phase.{Phase}
use Rattle.flex_base.specs.declared.event.Phase.TheVariants as phase
use Rattle.flex_base.specs.declared.record.TraceItem.TheVariants.{Sent}
use Rattle.flex_base.specs.declared.value.ObjId.{ObjId}
use Rattle.flex_base.specs.declared.value.Value.{Value}
use Rattle.flex_base.specs.declared.value.Value.TheVariants as value
use Rattle.component_catalog.specs.declared.class.NativeClass.TheVariants as native
use Rattle.flex_world.specs.declared.kind.Class.{Class}
use Rattle.flex_world.specs.declared.kind.StaticType.TheVariants as StaticType
use Rattle.flex_world.specs.Events.{closed_delivery, event_path, fits_phase, hearers, insert_by_priority, is_before_bubbling, listener_of, opened_delivery, same_registration, with_registration, without_registration}
use Rattle.flex_world.specs.Objects.{Delivery, Instance_of, Keeping, Kind, Listener, Object, Registration, ancestors_of, count, is_true, object_at, parent_of, property, text_in}
use Rattle.flex_program.proofs.ClassLaws.{both_true}
use Rattle.flex_program.proofs.Facts.{CanRun, event_bubbles, event_cancelable, event_current, event_phase, event_target, event_type_kept}
use Rattle.flex_program.proofs.Inverted.{All, all_append, all_filtered, all_map}
use Rattle.flex_program.specs.Fine.{is_fine, is_named, is_named_result}
use Rattle.flex_program.specs.Program.{Program}
use Rattle.flex_meaning.proofs.Changing.{method_arguments_safe, set_from}
use Rattle.flex_meaning.proofs.Holding.{A_null, A_ref, Heard, Hearer, IsA, IsComponent, Later, OfType, ParentFine, T_any, T_int, Typed, TypedObject, Valid, has_state, in_state, kind_at}
use Rattle.flex_meaning.proofs.Keeping.{From, Safe, changed_from, from_then, hearer_later, isa_later, later_then, numbered_all, safe_bind, safe_choose, safe_done, safe_each, safe_found, safe_from, safe_later, safe_need, safe_on, type_later}
use Rattle.flex_meaning.proofs.Kept.{Kept}
use Rattle.flex_meaning.specs.Activities.{Context, Does}
use Rattle.flex_meaning.specs.Dispatch.{arrive, arrive_unless_stopped, close_dispatch, deliver, dispatch, hear, hear_unless_stopped, open_dispatch, set_arrival, set_event}
use Rattle.flex_meaning.specs.Results.{each, done}
use Rattle.flex_meaning.specs.Tasks.{context}
use Rattle.flex_meaning.specs.World.{World, change_delivery, change_keeping, change_object, listen, note, set_field, unlisten}

module _ (p : Program) where
  -- Changes of an object that touch neither its kind nor its fields

  pub delivery_from : (o : ObjId) (f : Delivery → Delivery) (w : World) → Typed p w → From p w.objects (change_delivery o f w)
  delivery_from o f w ty = changed_from p o _ w (record {
    kinds = λ c e. refl;
    states = λ c e h. h;
    typed = λ c e os1 l h. record { fields = h.fields; names = h.names; elements = h.elements; parent = h.parent; children = h.children; listeners = h.listeners; entered = h.entered; kept = h.kept };
  }) ty

  -- where a document enters its first state, it is in one; a name that is kept is one of a state
  pub keeping_from : (o : ObjId) (f : Keeping → Keeping) (w : World)
      → ((c : Object) → object_at w.objects o ≡ Some c → (c.keeping.entered ≡ true → in_state p c ≡ true) → (f c.keeping).entered ≡ true → in_state p c ≡ true)
      → ((c : Object) → object_at w.objects o ≡ Some c → ((name : List ℕ) → c.keeping.kept ≡ Some name → has_state p c name ≡ true) → (name : List ℕ) → (f c.keeping).kept ≡ Some name → has_state p c name ≡ true)
      → Typed p w → From p w.objects (change_keeping o f w)
  keeping_from o f w entered kept ty = changed_from p o _ w (record {
    kinds = λ c e. refl;
    states = λ c e h. h;
    typed = λ c e os1 l h. record { fields = h.fields; names = h.names; elements = h.elements; parent = h.parent; children = h.children; listeners = h.listeners; entered = entered c e h.entered; kept = kept c e h.kept };
  }) ty

  pub listeners_from : (o : ObjId) (f : List Registration → List Registration) (w : World)
      → ((os : List Object) (rs : List Registration) → Later p w.objects os → All (Heard p os) rs → All (Heard p os) (f rs)) → Typed p w → From p w.objects (change_object o (λ c. record c { listeners = f c.listeners }) w)
  listeners_from o f w keep ty = changed_from p o _ w (record {
    kinds = λ c e. refl;
    states = λ c e h. h;
    typed = λ c e os1 l h. record { fields = h.fields; names = h.names; elements = h.elements; parent = h.parent; children = h.children; listeners = keep os1 c.listeners l h.listeners; entered = h.entered; kept = h.kept };
  }) ty

  registered_heard : (os : List Object) (r : Registration) (rs : List Registration) → Heard p os r → All (Heard p os) rs → All (Heard p os) (with_registration r rs)
  registered_heard os r rs h k = by (list_any (same_registration r.event r.object r.method r.capture) rs)
    where
      by : (b : Bool) → All (Heard p os) (if b then rs else rs ++ r ∷ [])
      by true = k
      by false = all_append _ rs (r ∷ []) k (h, tt)

  pub listen_from : (node : ObjId) (r : Registration) (w : World) → Heard p w.objects r → Typed p w → From p w.objects (listen node r w)
  listen_from node r w h ty = listeners_from node (with_registration r) w (λ os rs l k. registered_heard os r rs (hearer_later p l h) k) ty

  pub unlisten_from : (node : ObjId) (kind : List ℕ) (o : ObjId) (m : ℕ) (capture : Bool) (w : World) → Typed p w → From p w.objects (unlisten node kind o m capture w)
  unlisten_from node kind o m capture w ty = listeners_from node (without_registration kind o m capture) w (λ os rs l k. all_filtered _ _ rs k) ty

  all_inserted : (P : Registration → Type 0) (rs : List Registration) (r : Registration) → All P rs → P r → All P (insert_by_priority rs r)
  all_inserted P [] r h k = (k, tt)
  all_inserted P (x ∷ rs) r h k = by (int_lt x.priority r.priority) (all_inserted P rs r h.1 k)
    where
      by : (b : Bool) → All P (insert_by_priority rs r) → All P (if b then r ∷ x ∷ rs else x ∷ insert_by_priority rs r)
      by true rest = (k, h)
      by false rest = (h.0, rest)

  all_sorted : (P : Registration → Type 0) (done rs : List Registration) → All P done → All P rs → All P (fold insert_by_priority done rs)
  all_sorted P done [] h k = h
  all_sorted P done (r ∷ rs) h k = all_sorted P (insert_by_priority done r) rs (all_inserted P done r h k.0) k.1

  all_listeners : (os : List Object) (rs : List Registration) → All (Heard p os) rs → All (λ (l : Listener). Hearer p os l.object l.method) (map listener_of rs)
  all_listeners os [] h = tt
  all_listeners os (r ∷ rs) h = (h.0, all_listeners os rs h.1)

  hearing_heard : (os : List Object) (kind : List ℕ) (phase : Phase) (rs : List Registration) → All (Heard p os) rs → All (λ (l : Listener). Hearer p os l.object l.method) (hearers kind phase rs)
  hearing_heard os kind phase rs h = all_listeners os _ (all_sorted _ [] _ tt (all_filtered _ (λ r. bytes_eq r.event kind && fits_phase phase r.capture) rs h))

  -- Parents

  parent_fine : (os : List Object) → All (TypedObject p os) os → (o : ObjId) → ParentFine p os (parent_of (object_at os o))
  parent_fine os h o = by (object_at os o) refl
    where
      by : (x : Option Object) → object_at os o ≡ x → ParentFine p os (parent_of x)
      by None e = tt
      by (Some c) e = (numbered_all p (TypedObject p os) os o.0 c e h).parent

  outward_fine : (os : List Object) → All (TypedObject p os) os → (n : ℕ) (o : Option ObjId) → ParentFine p os o → All (IsComponent p os) (outward (λ other. parent_of (object_at os other)) n o)
  outward_fine os h zero o k = tt
  outward_fine os h (suc n) None k = tt
  outward_fine os h (suc n) (Some o) k = (k, outward_fine os h n (parent_of (object_at os o)) (parent_fine os h o))

  pub ancestors_fine : (os : List Object) → All (TypedObject p os) os → (o : ObjId) → All (IsComponent p os) (ancestors_of os o)
  ancestors_fine os h o = outward_fine os h (length os) _ (parent_fine os h o)

  -- Arrivals

  -- there is an object
  pub record Exists (os : List Object) (o : ObjId) : Type 0 where
    pub kind : Kind
    pub at : kind_at os o ≡ Some kind

  pub exists_later : (o : ObjId) (os os1 : List Object) → Later p os os1 → Exists os o → Exists os1 o
  exists_later o os os1 l h = record { kind = h.kind; at = l.kinds o h.kind h.at }

  arrivals_fine : (os : List Object) (phase : Phase) (outer : List ObjId) → All (IsComponent p os) outer → All (λ (a : Arrival). Exists os a.node) (map (arrival phase) outer)
  arrivals_fine os phase [] h = tt
  arrivals_fine os phase (o ∷ outer) h = (record { kind = Instance_of h.0.class; at = h.0.at }, arrivals_fine os phase outer h.1)

  all_reversed : {A : Type 0} (P : A → Type 0) (xs ys : List A) → All P xs → All P ys → All P (reverse_aux xs ys)
  all_reversed P [] ys h k = k
  all_reversed P (x ∷ xs) ys h k = all_reversed P xs (x ∷ ys) h.1 (h.0, k)

  all_arrive : (os : List Object) (target : ObjId) (outer : List ObjId) (bubbles : Bool) → Exists os target → All (IsComponent p os) outer → All (λ (a : Arrival). Exists os a.node) (event_path target outer bubbles)
  all_arrive os target outer bubbles t h =
      all_filtered _ (λ a. bubbles || is_before_bubbling a) (arrivals target outer)
      (all_append _ (reverse (map (arrival phase.Capture) outer)) _ (all_reversed _ (map (arrival phase.Capture) outer) [] (arrivals_fine os phase.Capture outer h) tt) (t, arrivals_fine os phase.Bubble outer h))

  abbrev event_class : Class
  event_class = Class.Native native.Event

  abbrev pub IsEvent : List Object → ObjId → Type 0
  IsEvent os e = IsA p os e (Class.Native native.Event)

  module _ (fine : is_fine p ≡ true) where
    pub arrival_from : (e : ObjId) (node : Value) (phase : ℕ) (w : World) → IsEvent w.objects e → Valid p w.objects node → Typed p w → From p w.objects (set_arrival e node phase w)
    arrival_from e node phase w h v ty =
        let f = set_from p fine e event_class (codes "currentTarget") StaticType.Any node w h (event_current p fine) refl (T_any node v) ty in
        from_then p f (set_from p fine e event_class (codes "eventPhase") StaticType.Int (count phase) (set_field e (codes "currentTarget") node w) (isa_later p f.later h) (event_phase p fine) refl (T_int _) f.typed)

    -- type, and whether it bubbles and can be cancelled
    pub kinds_from : (e : ObjId) (kind bubbles cancelable : Value) (w : World) → IsEvent w.objects e → OfType p w.objects kind StaticType.String → OfType p w.objects bubbles StaticType.Boolean → OfType p w.objects cancelable StaticType.Boolean → Typed p w
        → From p w.objects (set_event e kind bubbles cancelable w)
    kinds_from e kind bubbles cancelable w h k b d ty =
        let f = set_from p fine e event_class (codes "type") StaticType.String kind w h (event_type_kept p fine) refl k ty in
        let w1 = set_field e (codes "type") kind w in
        let g = set_from p fine e event_class (codes "bubbles") StaticType.Boolean bubbles w1 (isa_later p f.later h) (event_bubbles p fine) refl (type_later p f.later b) f.typed in
        let l = later_then p f.later g.later in
        from_then p f (from_then p g (set_from p fine e event_class (codes "cancelable") StaticType.Boolean cancelable (set_field e (codes "bubbles") bubbles w1) (isa_later p l h) (event_cancelable p fine) refl (type_later p l d) g.typed))

    opened_from : (target e : ObjId) (cancelable : Bool) (w : World) → IsEvent w.objects e → Exists w.objects target → Typed p w → From p w.objects (open_dispatch target e cancelable w)
    opened_from target e cancelable w h t ty =
        let f = delivery_from e (opened_delivery cancelable) w ty in
        from_then p f (set_from p fine e event_class (codes "target") StaticType.Any (value.Ref target) (change_delivery e (opened_delivery cancelable) w) (isa_later p f.later h) (event_target p fine) refl (T_any _ (A_ref target t.kind (f.later.kinds target t.kind t.at))) f.typed)

    closed_from : (e : ObjId) (w : World) → IsEvent w.objects e → Typed p w → From p w.objects (close_dispatch e w)
    closed_from e w h ty =
        let f = delivery_from e closed_delivery w ty in
        from_then p f (arrival_from e value.Null 0 (change_delivery e closed_delivery w) (isa_later p f.later h) A_null f.typed)

    module _ (n : ℕ) (does : Does) (law : Kept p does) where
      abbrev c : Context
      c = context p n does

      -- the parameters of a method that can run have types that name classes
      pub named_parameters : (k : Class) (m : ℕ) → (r : CanRun p k m) → list_all is_named r.method.parameters ≡ true
      named_parameters k m r = (both_true p _ _ (both_true p _ _ (both_true p (list_all is_named r.method.parameters && list_all is_named r.method.locals && is_named_result r.method.result) _ r.fine).0).0).0

      hear_safe : (kind : List ℕ) (e : ObjId) (a : Arrival) (l : Listener) (w : World) → Hearer p w.objects l.object l.method → IsEvent w.objects e → Typed p w → Safe p false w.objects (hear c kind e a l w) (λ _ _. Unit {0})
      hear_safe kind e a l w h ev ty =
          safe_found p (slice_get p.methods l.method) w _ h.run.method h.run.here
          (safe_bind p (method_arguments_safe p h.run.method (value.Ref e ∷ []) w (named_parameters h.class l.method h.run) (ap (λ ts. 1 == length ts) h.one) (A_ref e _ ev.at, tt) ty)
          (λ vs w1 f k. safe_bind p (law.hears a kind l vs h.class w1 (f.later.kinds l.object _ h.at) h.run k f.typed)
          (λ _ w2 l2 _. safe_done p l2.typed tt)))

      -- a listener and the event are there
      abbrev Hears_it : ObjId → Listener → List Object → Type 0
      Hears_it e l os = Hearer p os l.object l.method × IsEvent os e

      one_safe : (kind : List ℕ) (e : ObjId) (a : Arrival) (l : Listener) (w : World) → Hears_it e l w.objects → Typed p w → Safe p false w.objects (hear_unless_stopped c kind e a l w) (λ _ _. Unit {0})
      one_safe kind e a l w h ty =
          safe_on p e w _ _ h.1.at ty (λ event here same th. safe_choose p event.delivery.stopped_at_once done (hear c kind e a l) w (λ _. safe_done p {w = w} ty tt) (λ _. hear_safe kind e a l w h.0 h.1 ty))

      arrive_safe : (kind : List ℕ) (e : ObjId) (a : Arrival) (w : World) → Exists w.objects a.node → IsEvent w.objects e → Typed p w → Safe p false w.objects (arrive c kind e a w) (λ _ _. Unit {0})
      arrive_safe kind e a w x ev ty =
          safe_on p a.node w x.kind _ x.at ty
          (λ node here same th.
          let f = arrival_from e (value.Ref a.node) (phase_number a.phase) w ev (A_ref a.node x.kind x.at) ty in
          safe_later p f.later (each (hear_unless_stopped c kind e a) (hearers kind a.phase node.listeners) (set_arrival e (value.Ref a.node) (phase_number a.phase) w))
          (safe_each p (Hears_it e) (λ l os os1 later h. (hearer_later p later h.0, isa_later p later h.1)) (hear_unless_stopped c kind e a) (λ l w1 h ty1. one_safe kind e a l w1 h ty1)
          (hearers kind a.phase node.listeners) (set_arrival e (value.Ref a.node) (phase_number a.phase) w)
          (all_map _ _ (hearers kind a.phase node.listeners) (λ l h. (hearer_later p f.later h, isa_later p f.later ev)) (hearing_heard w.objects kind a.phase node.listeners th.listeners)) f.typed))

      abbrev Arrives : ObjId → Arrival → List Object → Type 0
      Arrives e a os = Exists os a.node × IsEvent os e

      arrive_one : (kind : List ℕ) (e : ObjId) (a : Arrival) (w : World) → Arrives e a w.objects → Typed p w → Safe p false w.objects (arrive_unless_stopped c kind e a w) (λ _ _. Unit {0})
      arrive_one kind e a w h ty =
          safe_on p e w _ _ h.1.at ty (λ event here same th. safe_choose p (event.delivery.stopped || event.delivery.stopped_at_once) done (arrive c kind e a) w (λ _. safe_done p {w = w} ty tt) (λ _. arrive_safe kind e a w h.0 h.1 ty))

      deliver_safe : (kind : List ℕ) (target e : ObjId) (event : Object) (w : World) → IsEvent w.objects e → Exists w.objects target → Typed p w → Safe p false w.objects (deliver c kind target e event w) (λ _ _. Unit {0})
      deliver_safe kind target e event w ev t ty =
          let cancelable : Bool = is_true (property event (codes "cancelable")) in
          let f = opened_from target e cancelable w ev t ty in
          let xs = event_path target (ancestors_of w.objects target) (is_true (property event (codes "bubbles"))) in
          safe_later p f.later (each (arrive_unless_stopped c kind e) xs (note (Sent target kind) (open_dispatch target e cancelable w)))
          (safe_each p (Arrives e) (λ a os os1 l h. (exists_later a.node os os1 l h.0, isa_later p l h.1)) (arrive_unless_stopped c kind e) (λ a w1 h ty1. arrive_one kind e a w1 h ty1) xs (note (Sent target kind) (open_dispatch target e cancelable w))
          (all_map _ _ xs (λ a h. (exists_later a.node _ _ f.later h, isa_later p f.later ev)) (all_arrive w.objects target (ancestors_of w.objects target) _ t (ancestors_fine w.objects ty.0 target))) f.typed)

      -- an event whose type is a text is dispatched
      pub dispatch_safe : (target e : ObjId) (w : World) (event : Object) → object_at w.objects e ≡ Some event → is_some (text_in (property event (codes "type"))) ≡ true → IsEvent w.objects e → Exists w.objects target → Typed p w
          → Safe p false w.objects (dispatch c target e w) (λ _ _. Unit {0})
      dispatch_safe target e w event here typed ev t ty =
          safe_found p (object_at w.objects e) w _ event here
          (safe_need p (text_in (property event (codes "type"))) w _ typed
          (λ kind found. safe_bind p (deliver_safe kind target e event w ev t ty)
          (λ _ w1 l _. safe_on p e w1 _ _ (l.later.kinds e _ ev.at) l.typed
          (λ over here1 same th. safe_from p {w = close_dispatch e w1} (closed_from e w1 (isa_later p l.later ev) l.typed) tt))))
