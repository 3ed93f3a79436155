-- The making of objects, the methods of the catalog, and calls keep what holds.
use Rattle.std.proofs.Common.{List, [], ap, arith, not, refl, subst, suc, sym, true≢false, ℕ, ◌&&◌, ◌∙◌, ◌∷◌, ◌≡◌}
use Rattle.std.specs.List.{list_all}
use Rattle.std.specs.Prelude.{Bool, None, Option, Some, codes, false, if◌then◌else◌, is_some, length, negsuc, option_map, pos, slice_get, true, ℤ, ◌==◌}
use Rattle.flex_base.specs.declared.outcome.Stop.TheVariants as stop
use Rattle.flex_base.specs.declared.value.ObjId.{ObjId}
use Rattle.flex_base.specs.declared.value.Value.{Value}
use Rattle.flex_base.specs.declared.value.Value.TheVariants as value
use Rattle.component_catalog.specs.Laws.{has_fitting_default, fits}
use Rattle.component_catalog.specs.Methods.{element, parameters_of, result_of}
use Rattle.component_catalog.specs.declared.class.NativeClass.{NativeClass}
use Rattle.component_catalog.specs.declared.class.NativeClass.TheVariants as native
use Rattle.component_catalog.specs.declared.method.NativeMethod.{NativeMethod}
use Rattle.component_catalog.specs.declared.method.NativeMethod.TheVariants as catalog
use Rattle.component_catalog.specs.declared.method.Parameter.{Parameter}
use Rattle.component_catalog.specs.declared.method.Parameter.TheVariants as parameter
use Rattle.component_catalog.specs.declared.value.StartValue.{StartValue}
use Rattle.component_catalog.specs.declared.value.StartValue.TheVariants as start
use Rattle.component_catalog.specs.declared.value.ValueType.{ValueType}
use Rattle.component_catalog.specs.declared.value.ValueType.TheVariants as kind
use Rattle.flex_world.specs.Children.{child_at}
use Rattle.flex_world.specs.Classes.{descends, native_descends, static_type}
use Rattle.flex_world.specs.declared.kind.Class.{Class}
use Rattle.flex_world.specs.declared.kind.StaticType.{StaticType}
use Rattle.flex_world.specs.Conversions.{accepts, constructor_parameters, event_parameters, left_out}
use Rattle.flex_world.specs.Making.{start_value}
use Rattle.flex_world.specs.Events.{delivery_stopped_at_once, prevented_delivery, registration, stopped_delivery, while_open}
use Rattle.flex_world.specs.Objects.{Delivery, Instance_of, Object, class_of_kind, object_at, object_class, property, text_in}
use Rattle.flex_program.proofs.ClassLaws.{both_true, fine_class, held}
use Rattle.flex_program.proofs.Facts.{CanRun, above, base_above, callee_down, descends_itself, event_type_kept, kept_down, property_of_kept}
use Rattle.flex_program.proofs.Inverted.{All, all_get, all_map, same_some, then_is}
use Rattle.flex_program.specs.Classes.{Callee, bases, callee, class_name, constructor_of}
use Rattle.flex_program.specs.Fine.{callee_accepts, callee_result, callee_types, can_make, constructor_accepts, holds, is_fine, is_fine_method, is_fine_written, is_named, is_named_result, method_numbered, needs_listener, value_type, written_accepts}
use Rattle.flex_program.specs.Laws.{TakesAlike}
use Rattle.flex_program.specs.Program.{Constructor, Method, Program, SourceClass}
use Rattle.flex_meaning.proofs.Acting.{Exists, delivery_from, dispatch_safe, exists_later, kinds_from, listen_from, named_parameters, unlisten_from}
use Rattle.flex_meaning.proofs.Changing.{allocated_then, convert_safe, method_arguments_safe, registered_as, safe_guarded}
use Rattle.flex_meaning.proofs.Holding.{A_listener, A_null, An_undefined, AreOf, IsA, IsComponent, Later, OfType, T_any, T_bool, T_int, T_no_object, T_no_text, T_object, T_text, Typed, Valid, kind_at}
use Rattle.flex_meaning.proofs.Keeping.{Safe, are_later, hearer_later, isa_later, safe_bind, safe_choose, safe_done, safe_each, safe_found, safe_from, safe_map, safe_on, safe_stop, type_later, valid_later}
use Rattle.flex_meaning.proofs.Kept.{FitConstructor, Kept}
use Rattle.flex_meaning.proofs.Operations.{property_typed}
use Rattle.flex_meaning.proofs.Writing.{add_child_safe, take_out_safe}
use Rattle.flex_meaning.specs.Activities.{Context, Does}
use Rattle.flex_meaning.specs.Conversions.{into_parameter, into_parameters, native_arguments}
use Rattle.flex_meaning.specs.Dispatch.{dispatch, set_event}
use Rattle.flex_meaning.specs.Elements.{take_out}
use Rattle.flex_meaning.specs.Expressions.{call, find_method}
use Rattle.flex_meaning.specs.Making.{begin_event, construct, constructor_arguments, lacks_type, make, prepare}
use Rattle.flex_meaning.specs.Natives.{add_listener, call_alone, call_native, call_with_object, call_with_one, dispatch_given, get_element, is_it, mark, object_given, remove_element, remove_listener, type_given}
use Rattle.flex_meaning.specs.Results.{Goes, bind, choose, done, stops}
use Rattle.flex_meaning.specs.Tasks.{context}
use Rattle.flex_meaning.specs.World.{World, change_delivery, listen, unlisten}

abbrev pub is_listener : Value → Bool
is_listener (value.Listener o m) = true
is_listener _ = false

-- the second value is a listener
abbrev pub is_listening : List Value → Bool
is_listening (a ∷ v ∷ vs) = is_listener v
is_listening _ = false

abbrev pub is_first : List Value → Bool
is_first (v ∷ vs) = is_listener v
is_first _ = false

pub first_then : (a : Value) (us : List Value) → is_first us ≡ true → is_listening (a ∷ us) ≡ true
first_then a (v ∷ us) e = e
first_then a [] e = absurd (true≢false (sym e))

module _ (p : Program) where
  -- what a parameter of the catalog takes
  abbrev pub FitsOne : List Object → Value → Parameter → Type 0
  FitsOne os v (parameter.Required t) = OfType p os v (static_type t)
  FitsOne os v (parameter.Optional t first) = OfType p os v (static_type t)
  FitsOne os v parameter.Listener = Valid p os v × (is_listener v ≡ true)

  -- one value for each parameter
  abbrev pub Fits : List Object → List Value → List Parameter → Type 0
  Fits os [] [] = Unit {0}
  Fits os (v ∷ vs) (x ∷ xs) = FitsOne os v x × Fits os vs xs
  Fits os [] (x ∷ xs) = ⊥
  Fits os (v ∷ vs) [] = ⊥

  one_later : {os os1 : List Object} → Later p os os1 → (v : Value) (x : Parameter) → FitsOne os v x → FitsOne os1 v x
  one_later l v (parameter.Required t) h = type_later p l h
  one_later l v (parameter.Optional t first) h = type_later p l h
  one_later l v parameter.Listener h = (valid_later p l h.0, h.1)

  pub fits_later : {os os1 : List Object} → Later p os os1 → (vs : List Value) (xs : List Parameter) → Fits os vs xs → Fits os1 vs xs
  fits_later l [] [] h = tt
  fits_later l (v ∷ vs) (x ∷ xs) h = (one_later l v x h.0, fits_later l vs xs h.1)
  fits_later l [] (x ∷ xs) h = absurd h
  fits_later l (v ∷ vs) [] h = absurd h

  -- a listener is given where one is taken
  abbrev pub Listens : List Parameter → List Value → Type 0
  Listens [] vs = Unit {0}
  Listens (x ∷ xs) [] = Unit {0}
  Listens (parameter.Listener ∷ xs) (v ∷ vs) = (is_listener v ≡ true) × Listens xs vs
  Listens (_ ∷ xs) (v ∷ vs) = Listens xs vs

  start_fits : (os : List Object) (v : StartValue) (t : ValueType) → fits v t ≡ true → OfType p os (start_value v) (static_type t)
  start_fits os (start.Int n) kind.Int e = T_int n
  start_fits os (start.Bool b) kind.Boolean e = T_bool b
  start_fits os start.EmptyText kind.String e = T_text []
  start_fits os start.Null kind.String e = T_no_text
  start_fits os start.Null (kind.Object a) e = T_no_object _
  start_fits os start.Null kind.Any e = T_any _ A_null
  start_fits os _ _ e = absurd (true≢false (sym e))

  left_fits : (os : List Object) (xs : List Parameter) → list_all has_fitting_default xs ≡ true → accepts xs 0 ≡ true → Fits os (left_out xs) xs
  left_fits os [] e h = tt
  left_fits os (parameter.Optional t first ∷ xs) e h = let b = both_true p (fits first t) (list_all has_fitting_default xs) e in (start_fits os first t b.0, left_fits os xs b.1 h)
  left_fits os (parameter.Required t ∷ xs) e h = absurd (true≢false (sym h))
  left_fits os (parameter.Listener ∷ xs) e h = absurd (true≢false (sym h))

  one_safe : (x : Parameter) (v : Value) (w : World) → Valid p w.objects v → Listens (x ∷ []) (v ∷ []) → Typed p w → Safe p false w.objects (into_parameter p x v w) (λ u os. FitsOne os u x)
  one_safe (parameter.Required t) v w h i ty = convert_safe p (static_type t) v w (named_static t) h ty
    where
      named_static : (t1 : ValueType) → is_named (static_type t1) ≡ true
      named_static kind.Int = refl
      named_static kind.Boolean = refl
      named_static kind.String = refl
      named_static (kind.Object a) = refl
      named_static kind.Any = refl
  one_safe (parameter.Optional t first) v w h i ty = convert_safe p (static_type t) v w (named_static t) h ty
    where
      named_static : (t1 : ValueType) → is_named (static_type t1) ≡ true
      named_static kind.Int = refl
      named_static kind.Boolean = refl
      named_static kind.String = refl
      named_static (kind.Object a) = refl
      named_static kind.Any = refl
  one_safe parameter.Listener v w (A_listener o m h) i ty = safe_done p ty (A_listener o m h, refl)
  one_safe parameter.Listener v w _ i ty = absurd (true≢false (sym i.0))

  first_listens : (x : Parameter) (xs : List Parameter) (v : Value) (vs : List Value) → Listens (x ∷ xs) (v ∷ vs) → Listens (x ∷ []) (v ∷ []) × Listens xs vs
  first_listens (parameter.Required t) xs v vs i = (tt, i)
  first_listens (parameter.Optional t first) xs v vs i = (tt, i)
  first_listens parameter.Listener xs v vs i = ((i.0, tt), i.1)

  fewer_accepted : (x : Parameter) (xs : List Parameter) (n : ℕ) → accepts (x ∷ xs) (suc n) ≡ true → accepts xs n ≡ true
  fewer_accepted (parameter.Required t) xs n e = e
  fewer_accepted (parameter.Optional t first) xs n e = e
  fewer_accepted parameter.Listener xs n e = e

  into_safe : (xs : List Parameter) (vs : List Value) (w : World) → list_all has_fitting_default xs ≡ true → accepts xs (length vs) ≡ true → Listens xs vs → All (Valid p w.objects) vs → Typed p w
      → Safe p false w.objects (into_parameters p xs vs w) (λ us os. Fits os us xs)
  into_safe xs [] w e k i h ty = safe_done p ty (left_fits w.objects xs e k)
  into_safe [] (v ∷ vs) w e k i h ty = absurd (true≢false (sym k ∙ zero_count (length vs)))
    where
      zero_count : (a : ℕ) → (suc a == 0) ≡ false
      zero_count a = grind arith
  into_safe (x ∷ xs) (v ∷ vs) w e k i h ty =
      let b = both_true p (has_fitting_default x) (list_all has_fitting_default xs) e in
      let j = first_listens x xs v vs i in
      safe_bind p (one_safe x v w h.0 j.0 ty)
      (λ u w1 l g. safe_bind p (into_safe xs vs w1 b.1 (fewer_accepted x xs (length vs) k) j.1 (all_map _ _ vs (λ y. valid_later p l.later) h.1) l.typed)
      (λ us w2 l2 g2. safe_done p l2.typed (one_later l2.later u x g, g2)))

  pub native_arguments_safe : (xs : List Parameter) (vs : List Value) (w : World) → list_all has_fitting_default xs ≡ true → accepts xs (length vs) ≡ true → Listens xs vs → All (Valid p w.objects) vs → Typed p w
      → Safe p false w.objects (native_arguments p xs vs w) (λ us os. Fits os us xs)
  native_arguments_safe xs vs w e k i h ty = safe_guarded p (accepts xs (length vs)) (into_parameters p xs vs) w k (into_safe xs vs w e k i h ty)

  natives_fit : (m : NativeMethod) → list_all has_fitting_default (parameters_of m) ≡ true
  natives_fit catalog.AddEventListener = refl
  natives_fit catalog.RemoveEventListener = refl
  natives_fit catalog.HasEventListener = refl
  natives_fit catalog.DispatchEvent = refl
  natives_fit catalog.AddElement = refl
  natives_fit catalog.RemoveElement = refl
  natives_fit catalog.RemoveAllElements = refl
  natives_fit catalog.GetElementAt = refl
  natives_fit catalog.StopPropagation = refl
  natives_fit catalog.StopImmediatePropagation = refl
  natives_fit catalog.PreventDefault = refl
  natives_fit catalog.IsDefaultPrevented = refl

  natives_listen : (m : NativeMethod) (vs : List Value) → (needs_listener p (Callee.Catalog m) ≡ true → is_listening vs ≡ true) → Listens (parameters_of m) vs
  natives_listen catalog.AddEventListener [] i = tt
  natives_listen catalog.AddEventListener (a ∷ []) i = tt
  natives_listen catalog.AddEventListener (a ∷ b ∷ []) i = (i refl, tt)
  natives_listen catalog.AddEventListener (a ∷ b ∷ d ∷ []) i = (i refl, tt)
  natives_listen catalog.AddEventListener (a ∷ b ∷ d ∷ e ∷ vs) i = (i refl, tt)
  natives_listen catalog.RemoveEventListener [] i = tt
  natives_listen catalog.RemoveEventListener (a ∷ []) i = tt
  natives_listen catalog.RemoveEventListener (a ∷ b ∷ []) i = (i refl, tt)
  natives_listen catalog.RemoveEventListener (a ∷ b ∷ d ∷ vs) i = (i refl, tt)
  natives_listen catalog.RemoveAllElements vs i = tt
  natives_listen catalog.StopPropagation vs i = tt
  natives_listen catalog.StopImmediatePropagation vs i = tt
  natives_listen catalog.PreventDefault vs i = tt
  natives_listen catalog.IsDefaultPrevented vs i = tt
  natives_listen catalog.HasEventListener [] i = tt
  natives_listen catalog.HasEventListener (a ∷ vs) i = tt
  natives_listen catalog.DispatchEvent [] i = tt
  natives_listen catalog.DispatchEvent (a ∷ vs) i = tt
  natives_listen catalog.AddElement [] i = tt
  natives_listen catalog.AddElement (a ∷ vs) i = tt
  natives_listen catalog.RemoveElement [] i = tt
  natives_listen catalog.RemoveElement (a ∷ vs) i = tt
  natives_listen catalog.GetElementAt [] i = tt
  natives_listen catalog.GetElementAt (a ∷ vs) i = tt

  -- what a method of the catalog gives
  abbrev pub native_result : NativeMethod → StaticType
  native_result m = value_type (option_map static_type (result_of m))

  type_given_safe : {v : Value} (w : World) → OfType p w.objects v StaticType.String → Typed p w → Safe p false w.objects (type_given v w) (λ _ _. Unit {0})
  type_given_safe w (T_text t) ty = safe_done p ty tt
  type_given_safe w T_no_text ty = safe_stop p

  add_safe : (node : ObjId) {kind l capture priority : Value} (w : World) → OfType p w.objects kind StaticType.String → Valid p w.objects l → is_listener l ≡ true → OfType p w.objects capture StaticType.Boolean → OfType p w.objects priority StaticType.Int → Typed p w
      → Safe p false w.objects (add_listener node (kind ∷ l ∷ capture ∷ priority ∷ []) w) (λ v os. OfType p os v StaticType.Any)
  add_safe node w k (A_listener o m h) i (T_bool b) (T_int z) ty =
      safe_bind p (type_given_safe w k ty) (λ event w1 l _. safe_from p {w = listen node (registration event o m b z) w1} (listen_from p node _ w1 (hearer_later p l.later h) l.typed) (T_any _ An_undefined))
  add_safe node w k _ i (T_bool b) (T_int z) ty = absurd (true≢false (sym i))

  remove_safe : (node : ObjId) {kind l capture : Value} (w : World) → OfType p w.objects kind StaticType.String → Valid p w.objects l → is_listener l ≡ true → OfType p w.objects capture StaticType.Boolean → Typed p w
      → Safe p false w.objects (remove_listener node (kind ∷ l ∷ capture ∷ []) w) (λ v os. OfType p os v StaticType.Any)
  remove_safe node w k (A_listener o m h) i (T_bool b) ty =
      safe_bind p (type_given_safe w k ty) (λ event w1 l _. safe_from p {w = unlisten node event o m b w1} (unlisten_from p node event o m b w1 l.typed) (T_any _ An_undefined))
  remove_safe node w k _ i (T_bool b) ty = absurd (true≢false (sym i))

  mark_safe : (e : ObjId) (f : Delivery → Delivery) (w : World) → Typed p w → Safe p false w.objects (mark e f w) (λ v os. OfType p os v StaticType.Any)
  mark_safe e f w ty = safe_from p {w = change_delivery e (while_open f) w} (delivery_from p e (while_open f) w ty) (T_any _ An_undefined)

  exists_of : (os : List Object) (o : ObjId) (c : Class) → IsA p os o c → Exists p os o
  exists_of os o c h = record { kind = Instance_of h.class; at = h.at }

  as_type : (os : List Object) (o : ObjId) (c : Class) → IsA p os o c → OfType p os (value.Ref o) (StaticType.Object c)
  as_type os o c h = T_object o h.class c h.at h.is

  -- what needs a listener can be told from its parameters, where it may be called
  needs_by : (x : Callee) (k : ℕ) → callee_accepts p x k ≡ true → needs_listener p x ≡ not (is_some (callee_types p x))
  needs_by (Callee.Written m) k e = by (method_numbered p m) e
    where
      by : (y : Option Method) → holds (λ z. k == length z.parameters) y ≡ true → false ≡ not (is_some (option_map (λ z. z.parameters) y))
      by None e1 = absurd (true≢false (sym e1))
      by (Some y) e1 = refl
  needs_by (Callee.Catalog catalog.AddEventListener) k e = refl
  needs_by (Callee.Catalog catalog.RemoveEventListener) k e = refl
  needs_by (Callee.Catalog catalog.HasEventListener) k e = refl
  needs_by (Callee.Catalog catalog.DispatchEvent) k e = refl
  needs_by (Callee.Catalog catalog.AddElement) k e = refl
  needs_by (Callee.Catalog catalog.RemoveElement) k e = refl
  needs_by (Callee.Catalog catalog.RemoveAllElements) k e = refl
  needs_by (Callee.Catalog catalog.GetElementAt) k e = refl
  needs_by (Callee.Catalog catalog.StopPropagation) k e = refl
  needs_by (Callee.Catalog catalog.StopImmediatePropagation) k e = refl
  needs_by (Callee.Catalog catalog.PreventDefault) k e = refl
  needs_by (Callee.Catalog catalog.IsDefaultPrevented) k e = refl

  pub needs_alike : (x y : Callee) (k : ℕ) → TakesAlike p x y → callee_accepts p y k ≡ true → needs_listener p x ≡ needs_listener p y
  needs_alike x y k a e = needs_by x k (a.counts k ∙ e) ∙ ap (λ ts. not (is_some ts)) a.types ∙ sym (needs_by y k e)

  module _ (fine : is_fine p ≡ true) (n : ℕ) (does : Does) (law : Kept p does) where
    abbrev c : Context
    c = context p n does

    -- Making

    -- what a class's constructor has to be given
    abbrev pub Prepared : Class → List Value → List Object → Type 0
    Prepared (Class.Native class) vs os = Fits os vs (constructor_parameters class)
    Prepared (Class.File k) vs os = FitConstructor p os k vs

    prepared_later : (class : Class) (vs : List Value) (os os1 : List Object) → Later p os os1 → Prepared class vs os → Prepared class vs os1
    prepared_later (Class.Native class) vs os os1 l h = fits_later l vs (constructor_parameters class) h
    prepared_later (Class.File k) vs os os1 l h = λ x f m g. are_later p l vs m.parameters (h x f m g)

    constructors_fit : (class : NativeClass) → list_all has_fitting_default (constructor_parameters class) ≡ true
    constructors_fit class = by (native_descends class native.Event)
      where
        by : (b : Bool) → list_all has_fitting_default (if b then event_parameters else []) ≡ true
        by true = refl
        by false = refl

    constructors_listen : (class : NativeClass) (vs : List Value) → Listens (constructor_parameters class) vs
    constructors_listen class vs = by (native_descends class native.Event)
      where
        event_listens : (us : List Value) → Listens event_parameters us
        event_listens [] = tt
        event_listens (a ∷ []) = tt
        event_listens (a ∷ b ∷ []) = tt
        event_listens (a ∷ b ∷ d ∷ us) = tt

        by : (b : Bool) → Listens (if b then event_parameters else []) vs
        by true = event_listens vs
        by false = tt

    same_item : {A : Type 0} (x : Option A) (a b : A) → x ≡ Some a → x ≡ Some b → a ≡ b
    same_item x a b e g = same_some a b (sym e ∙ g)

    -- the method of a written constructor can run
    constructor_named : (k : ℕ) (x : Constructor) (m : Method) → constructor_of p (Class.File k) ≡ Some x → slice_get p.methods x.method ≡ Some m → list_all is_named m.parameters ≡ true
    constructor_named k x m e g =
        let class = then_is (λ (z : SourceClass). z.constructor) (slice_get p.classes k) x e in
        let written : is_fine_written p (Class.File k) class.0.base class.0.constructor ≡ true = (both_true p _ _ (both_true p _ _ (both_true p _ _ (fine_class p fine k class.0 class.1)).0).1).1 in
        let named : holds (is_fine_method p (Class.File k)) (method_numbered p x.method) ≡ true = (both_true p _ _ (subst (λ z. is_fine_written p (Class.File k) class.0.base z ≡ true) class.2 written)).0 in
        let body : is_fine_method p (Class.File k) m ≡ true = subst (λ z. holds (is_fine_method p (Class.File k)) z ≡ true) g named in
        (both_true p _ _ (both_true p _ _ (both_true p (list_all is_named m.parameters && list_all is_named m.locals && is_named_result m.result) _ body).0).0).0

    given_safe : (k : ℕ) (x : Option Constructor) (vs : List Value) (w : World) → constructor_of p (Class.File k) ≡ x → written_accepts p x (length vs) ≡ true → All (Valid p w.objects) vs → Typed p w → Safe p false w.objects (constructor_arguments c x vs w) (λ us os. FitConstructor p os k us)
    given_safe k None vs w e a h ty = safe_guarded p (length vs == 0) (Goes []) w a (safe_done p ty (λ y f m g. absurd (none_is (constructor_of p (Class.File k)) y e f)))
      where
        none_is : (z : Option Constructor) (y : Constructor) → z ≡ None → z ≡ Some y → ⊥
        none_is z y i j = cc
    given_safe k (Some x) vs w e a h ty =
        let m = held p (λ (z : Method). length vs == length z.parameters) (method_numbered p x.method) a in
        safe_found p (slice_get p.methods x.method) w _ m.0 m.1
        (safe_map p (method_arguments_safe p m.0 vs w (constructor_named k x m.0 e m.1) m.2 h ty)
        (λ us w1 l g y f i j. subst (λ (z : Method). AreOf p w1.objects us z.parameters) (same_item (slice_get p.methods x.method) m.0 i m.1 (ap (λ (z : Constructor). slice_get p.methods z.method) (same_item (constructor_of p (Class.File k)) x y e f) ∙ j)) g))

    pub prepare_safe : (class : Class) (vs : List Value) (w : World) → can_make p class (length vs) ≡ true → All (Valid p w.objects) vs → Typed p w → Safe p false w.objects (prepare c class vs w) (λ us os. Prepared class us os)
    prepare_safe (Class.Native class) vs w e h ty =
        let b = both_true p (is_some (class_name p (Class.Native class))) (accepts (constructor_parameters class) (length vs)) e in
        safe_bind p (native_arguments_safe (constructor_parameters class) vs w (constructors_fit class) b.1 (constructors_listen class vs) h ty)
        (λ us w1 l g. safe_choose p (lacks_type us) (stops stop.NullReference) (Goes us) w1 (λ _. safe_stop p) (λ _. safe_done p l.typed g))
    prepare_safe (Class.File k) vs w e h ty =
        let b = both_true p (is_some (class_name p (Class.File k))) (written_accepts p (constructor_of p (Class.File k)) (length vs)) e in
        given_safe k (constructor_of p (Class.File k)) vs w refl b.1 h ty

    begin_safe : (e : ObjId) (vs : List Value) (w : World) → IsA p w.objects e (Class.Native native.Event) → Fits w.objects vs event_parameters → Typed p w → Safe p false w.objects (begin_event e vs w) (λ _ _. Unit {0})
    begin_safe e (kind ∷ bubbles ∷ cancelable ∷ []) w ev h ty = safe_from p {w = set_event e kind bubbles cancelable w} (kinds_from p fine e kind bubbles cancelable w ev h.0 h.1.0 h.1.1.0 ty) tt
    begin_safe e [] w ev h ty = absurd h
    begin_safe e (a ∷ []) w ev h ty = absurd h.1
    begin_safe e (a ∷ b ∷ []) w ev h ty = absurd h.1.1
    begin_safe e (a ∷ b ∷ d ∷ f ∷ vs) w ev h ty = absurd h.1.1.1

    -- a class of the catalog that is an event's
    event_below : (class : NativeClass) → native_descends class native.Event ≡ true → descends (bases p) (Class.Native class) (Class.Native native.Event) ≡ true
    event_below native.Event e = descends_itself p (Class.Native native.Event)
    event_below native.MouseEvent e = base_above p (Class.Native native.MouseEvent) (Class.Native native.Event) refl
    event_below native.FlexEvent e = base_above p (Class.Native native.FlexEvent) (Class.Native native.Event) refl
    event_below _ e = absurd (true≢false (sym e))

    class_there : (k : ℕ) → is_some (class_name p (Class.File k)) ≡ true → (x : SourceClass) × (slice_get p.classes k ≡ Some x)
    class_there k e = by (slice_get p.classes k) refl e
      where
        by : (x : Option SourceClass) → slice_get p.classes k ≡ x → is_some (option_map (λ (z : SourceClass). z.name) x) ≡ true → (y : SourceClass) × (slice_get p.classes k ≡ Some y)
        by None g h = absurd (true≢false (sym h))
        by (Some x) g h = (x, g)

    pub construct_safe : (class : Class) (o : ObjId) (vs : List Value) (w : World) → is_some (class_name p class) ≡ true → IsA p w.objects o class → Prepared class vs w.objects → Typed p (registered_as p class o w) → Safe p false w.objects (construct c class o vs w) (λ _ _. Unit {0})
    construct_safe (Class.Native class) o vs w e h k ty =
        safe_choose p (native_descends class native.Event) (begin_event o vs) done w
        (λ g. begin_safe o vs w (record { class = h.class; at = h.at; is = above p fine h.class (Class.Native class) (Class.Native native.Event) h.is (event_below class g) }) (subst (λ b. Fits w.objects vs (if b then event_parameters else [])) g k) ty)
        (λ _. safe_done p {w = w} ty tt)
    construct_safe (Class.File k) o vs w e h pre ty =
        let x = class_there k e in
        safe_bind p (law.constructs k o vs x.0 w x.1 h pre ty) (λ _ w1 l _. safe_done p {w = w1} l.typed tt)

    pub make_safe : (class : Class) (vs : List Value) (w : World) → can_make p class (length vs) ≡ true → All (Valid p w.objects) vs → Typed p w → Safe p false w.objects (make c class vs w) (λ o os. kind_at os o ≡ Some (Instance_of class))
    make_safe class vs w e h ty =
        let named = (both_true p (is_some (class_name p class)) (constructor_accepts p class (length vs)) e).0 in
        safe_bind p (prepare_safe class vs w e h ty)
        (λ us w1 l pre. allocated_then p fine class w1 _ named l.typed
        (λ o w2 a. safe_bind p (construct_safe class o us w2 named (record { class = class; at = a.at; is = descends_itself p class }) (prepared_later class us w1.objects w2.objects a.later pre) a.typed)
        (λ _ w3 l3 _. safe_done p l3.typed (l3.later.kinds o _ a.at))))

    -- The methods of the catalog

    dispatch_given_safe : (target e : ObjId) (w : World) → IsA p w.objects e (Class.Native native.Event) → Exists p w.objects target → Typed p w → Safe p false w.objects (dispatch_given c target e w) (λ v os. OfType p os v StaticType.Boolean)
    dispatch_given_safe target e w ev t ty =
        safe_on p e w (Instance_of ev.class) _ ev.at ty
        (λ event here same th.
        let v = property_typed p w.objects event ev.class th same (codes "type") StaticType.String (property_of_kept p (codes "type") ev.class StaticType.String (kept_down p fine ev.class (Class.Native native.Event) ev.is (codes "type") StaticType.String (event_type_kept p fine))) in
        safe_found p (property event (codes "type")) w _ v.0 v.1 (by event here v.2 v.1))
      where
        by : (event : Object) → object_at w.objects e ≡ Some event → {v : Value} → OfType p w.objects v StaticType.String → property event (codes "type") ≡ Some v
            → Safe p false w.objects (bind (type_given v w) (λ _ w1. choose event.delivery.dispatched (stops stop.Kind) (λ w2. bind (dispatch c target e w2) (λ left w3. Goes (value.Bool left) w3)) w1)) (λ u os. OfType p os u StaticType.Boolean)
        by event here T_no_text g = safe_stop p
        by event here (T_text s) g =
            safe_choose p event.delivery.dispatched (stops stop.Kind) _ w (λ _. safe_stop p)
            (λ _. safe_bind p (dispatch_safe p fine n does law target e w event here (ap (λ z. is_some (text_in z)) g) ev t ty) (λ left w3 l _. safe_done p l.typed (T_bool left)))

    remove_element_safe : (container child : ObjId) (w : World) → IsComponent p w.objects child → Typed p w → Safe p false w.objects (remove_element container child w) (λ v os. OfType p os v (static_type element))
    remove_element_safe container child w h ty =
        safe_on p child w _ _ h.at ty
        (λ x here same th. safe_choose p (is_it container x.parent) _ (stops stop.NotAChild) w
        (λ _. safe_bind p (take_out_safe p child w (exists_of w.objects child _ h) ty) (λ _ w2 l _. safe_done p l.typed (as_type w2.objects child _ (isa_later p l.later h)))) (λ _. safe_stop p))

    get_safe : (o : Option ObjId) (w : World) → ((x : ObjId) → o ≡ Some x → IsComponent p w.objects x) → Typed p w → Safe p false w.objects (get_element o w) (λ v os. OfType p os v (static_type element))
    get_safe None w h ty = safe_stop p
    get_safe (Some x) w h ty = safe_done p ty (as_type w.objects x _ (h x refl))

    element_component : (os : List Object) (xs : List ObjId) (i : ℤ) (x : ObjId) → All (IsComponent p os) xs → child_at xs i ≡ Some x → IsComponent p os x
    element_component os xs (pos i) x h e = all_get _ xs i x e h
    element_component os xs (negsuc i) x h e = absurd (cc)

    alone_safe : (m : NativeMethod) (o : ObjId) (w : World) → Exists p w.objects o → parameters_of m ≡ [] → Typed p w → Safe p false w.objects (call_alone c m o w) (λ v os. OfType p os v (native_result m))
    alone_safe catalog.RemoveAllElements o w x e ty =
        safe_on p o w x.kind _ x.at ty
        (λ container here same th. safe_bind p (safe_each p (λ y os. Exists p os y) (exists_later p) take_out (λ y w1 h ty1. take_out_safe p y w1 h ty1) container.children w (all_map _ _ container.children (λ y h. exists_of w.objects y _ h) th.children) ty)
        (λ _ w1 l _. safe_done p l.typed (T_any _ An_undefined)))
    alone_safe catalog.StopPropagation o w x e ty = mark_safe o stopped_delivery w ty
    alone_safe catalog.StopImmediatePropagation o w x e ty = mark_safe o delivery_stopped_at_once w ty
    alone_safe catalog.PreventDefault o w x e ty = mark_safe o prevented_delivery w ty
    alone_safe catalog.IsDefaultPrevented o w x e ty = safe_on p o w x.kind _ x.at ty (λ event here same th. safe_done p ty (T_bool _))
    alone_safe _ o w x e ty = absurd (cc)

    object_with : (m : NativeMethod) (o : ObjId) (a : Class) (v : Value) (w : World) → OfType p w.objects v (StaticType.Object a) → Typed p w → ((x : ObjId) → IsA p w.objects x a → Safe p false w.objects (call_with_object c m o x w) (λ u os. OfType p os u (native_result m)))
        → Safe p false w.objects (bind (object_given v w) (λ given w1. call_with_object c m o given w1)) (λ u os. OfType p os u (native_result m))
    object_with m o a v w (T_object x k b e d) ty f = f x (record { class = k; at = e; is = d })
    object_with m o a v w (T_no_object b) ty f = safe_stop p

    pub native_safe : (m : NativeMethod) (o : ObjId) (vs : List Value) (w : World) → Exists p w.objects o → (m ≡ catalog.AddElement → IsComponent p w.objects o) → Fits w.objects vs (parameters_of m)
        → Typed p w → Safe p false w.objects (call_native c m o vs w) (λ v os. OfType p os v (native_result m))
    native_safe catalog.AddEventListener o (kind ∷ l ∷ capture ∷ priority ∷ []) w x a h ty = add_safe o w h.0 h.1.0.0 h.1.0.1 h.1.1.0 h.1.1.1.0 ty
    native_safe catalog.RemoveEventListener o (kind ∷ l ∷ capture ∷ []) w x a h ty = remove_safe o w h.0 h.1.0.0 h.1.0.1 h.1.1.0 ty
    native_safe catalog.HasEventListener o (kind ∷ []) w x a h ty =
        safe_bind p (type_given_safe w h.0 ty) (λ event w1 l _. safe_on p o w1 x.kind _ (l.later.kinds o _ x.at) l.typed (λ y here same th. safe_done p l.typed (T_bool _)))
    native_safe catalog.DispatchEvent o (v ∷ []) w x a h ty = object_with catalog.DispatchEvent o _ v w h.0 ty (λ e k. dispatch_given_safe o e w k x ty)
    native_safe catalog.AddElement o (v ∷ []) w x a h ty =
        object_with catalog.AddElement o _ v w h.0 ty (λ child k. safe_bind p (add_child_safe p fine n does law o child None w (a refl) k ty) (λ _ w1 l _. safe_done p l.typed (as_type w1.objects child _ (isa_later p l.later k))))
    native_safe catalog.RemoveElement o (v ∷ []) w x a h ty = object_with catalog.RemoveElement o _ v w h.0 ty (λ child k. remove_element_safe o child w k ty)
    native_safe catalog.GetElementAt o (v ∷ []) w x a h ty = by v h.0
      where
        by : (u : Value) → OfType p w.objects u StaticType.Int → Safe p false w.objects (call_with_one c catalog.GetElementAt o u w) (λ y os. OfType p os y (static_type element))
        by u (T_int z) = safe_on p o w x.kind _ x.at ty (λ container here same th. get_safe (child_at container.children z) w (λ y e. element_component w.objects container.children z y th.children e) ty)
    native_safe catalog.RemoveAllElements o [] w x a h ty = alone_safe catalog.RemoveAllElements o w x refl ty
    native_safe catalog.StopPropagation o [] w x a h ty = alone_safe catalog.StopPropagation o w x refl ty
    native_safe catalog.StopImmediatePropagation o [] w x a h ty = alone_safe catalog.StopImmediatePropagation o w x refl ty
    native_safe catalog.PreventDefault o [] w x a h ty = alone_safe catalog.PreventDefault o w x refl ty
    native_safe catalog.IsDefaultPrevented o [] w x a h ty = alone_safe catalog.IsDefaultPrevented o w x refl ty
    native_safe catalog.AddEventListener o [] w x q h ty = absurd h
    native_safe catalog.AddEventListener o (a ∷ []) w x q h ty = absurd h.1
    native_safe catalog.AddEventListener o (a ∷ b ∷ []) w x q h ty = absurd h.1.1
    native_safe catalog.AddEventListener o (a ∷ b ∷ d ∷ []) w x q h ty = absurd h.1.1.1
    native_safe catalog.AddEventListener o (a ∷ b ∷ d ∷ f ∷ g ∷ vs) w x q h ty = absurd h.1.1.1.1
    native_safe catalog.RemoveEventListener o [] w x q h ty = absurd h
    native_safe catalog.RemoveEventListener o (a ∷ []) w x q h ty = absurd h.1
    native_safe catalog.RemoveEventListener o (a ∷ b ∷ []) w x q h ty = absurd h.1.1
    native_safe catalog.RemoveEventListener o (a ∷ b ∷ d ∷ f ∷ vs) w x q h ty = absurd h.1.1.1
    native_safe catalog.HasEventListener o [] w x q h ty = absurd h
    native_safe catalog.HasEventListener o (a ∷ b ∷ vs) w x q h ty = absurd h.1
    native_safe catalog.DispatchEvent o [] w x q h ty = absurd h
    native_safe catalog.DispatchEvent o (a ∷ b ∷ vs) w x q h ty = absurd h.1
    native_safe catalog.AddElement o [] w x q h ty = absurd h
    native_safe catalog.AddElement o (a ∷ b ∷ vs) w x q h ty = absurd h.1
    native_safe catalog.RemoveElement o [] w x q h ty = absurd h
    native_safe catalog.RemoveElement o (a ∷ b ∷ vs) w x q h ty = absurd h.1
    native_safe catalog.GetElementAt o [] w x q h ty = absurd h
    native_safe catalog.GetElementAt o (a ∷ b ∷ vs) w x q h ty = absurd h.1
    native_safe catalog.RemoveAllElements o (a ∷ vs) w x q h ty = absurd h
    native_safe catalog.StopPropagation o (a ∷ vs) w x q h ty = absurd h
    native_safe catalog.StopImmediatePropagation o (a ∷ vs) w x q h ty = absurd h
    native_safe catalog.PreventDefault o (a ∷ vs) w x q h ty = absurd h
    native_safe catalog.IsDefaultPrevented o (a ∷ vs) w x q h ty = absurd h

    -- Calls

    -- what is known of a call: the method that is found, that it can be given so many arguments, and what it gives
    pub record Callable (os : List Object) (o : ObjId) (x : Callee) (vs : List Value) (t : StaticType) : Type 0 where
      pub class : Class
      pub at : kind_at os o ≡ Some (Instance_of class)
      pub run : (m : ℕ) → x ≡ Callee.Written m → CanRun p class m
      pub adding : x ≡ Callee.Catalog catalog.AddElement → IsComponent p os o
      pub counts : callee_accepts p x (length vs) ≡ true
      pub result : callee_result p x ≡ Some t
      pub listens : needs_listener p x ≡ true → is_listening vs ≡ true

    written_safe : (m : ℕ) (o : ObjId) (vs : List Value) (t : StaticType) (w : World) → Callable w.objects o (Callee.Written m) vs t → All (Valid p w.objects) vs → Typed p w → Safe p false w.objects (call c (Callee.Written m) o vs w) (λ v os. OfType p os v t)
    written_safe m o vs t w k h ty =
        let r = k.run m refl in
        let e : value_type r.method.result ≡ t = same_some _ _ (sym (ap (λ z. option_map value_type (option_map (λ (y : Method). y.result) z)) r.here) ∙ k.result) in
        let count : (length vs == length r.method.parameters) ≡ true = subst (λ z. holds (λ (y : Method). length vs == length y.parameters) z ≡ true) r.here k.counts in
        safe_found p (slice_get p.methods m) w _ r.method r.here
        (safe_bind p (method_arguments_safe p r.method vs w (named_parameters p fine n does law k.class m r) count h ty)
        (λ us w1 l a. safe_map p (law.calls m o us k.class w1 (l.later.kinds o _ k.at) r a l.typed) (λ v w2 l2 g. subst (λ z. OfType p w2.objects v z) e g)))

    catalog_safe : (m : NativeMethod) (o : ObjId) (vs : List Value) (t : StaticType) (w : World) → Callable w.objects o (Callee.Catalog m) vs t → All (Valid p w.objects) vs → Typed p w → Safe p false w.objects (call c (Callee.Catalog m) o vs w) (λ v os. OfType p os v t)
    catalog_safe m o vs t w k h ty =
        let e : native_result m ≡ t = same_some _ _ k.result in
        safe_bind p (native_arguments_safe (parameters_of m) vs w (natives_fit m) k.counts (natives_listen m vs k.listens) h ty)
        (λ us w1 l a. safe_map p (native_safe m o us w1 (record { kind = Instance_of k.class; at = l.later.kinds o _ k.at }) (λ is. isa_later p l.later (k.adding (ap Callee.Catalog is))) a l.typed) (λ v w2 l2 g. subst (λ z. OfType p w2.objects v z) e g))

    pub call_safe : (x : Callee) (o : ObjId) (vs : List Value) (t : StaticType) (w : World) → Callable w.objects o x vs t → All (Valid p w.objects) vs → Typed p w → Safe p false w.objects (call c x o vs w) (λ v os. OfType p os v t)
    call_safe (Callee.Written m) o vs t w k h ty = written_safe m o vs t w k h ty
    call_safe (Callee.Catalog m) o vs t w k h ty = catalog_safe m o vs t w k h ty

    -- the method that is found by the class of an object takes and gives what that of the static class does
    pub record Finds (os : List Object) (o : ObjId) (name : List ℕ) (y x : Callee) : Type 0 where
      pub class : Class
      pub at : kind_at os o ≡ Some (Instance_of class)
      pub is : callee p class name ≡ Some x
      pub alike : TakesAlike p x y

    pub find_safe : (o : ObjId) (a : Class) (name : List ℕ) (y : Callee) (w : World) → IsA p w.objects o a → callee p a name ≡ Some y → Typed p w → Safe p false w.objects (find_method c o name w) (λ x os. Finds os o name y x)
    find_safe o a name y w h e ty =
        safe_on p o w (Instance_of h.class) _ h.at ty
        (λ object here same th.
        let x = callee_down p fine h.class a h.is name y e in
        safe_found p (object_class object) w _ h.class (ap class_of_kind same)
        (safe_found p (callee p h.class name) w _ x.callee x.is (safe_done p ty (record { class = h.class; at = h.at; is = x.is; alike = x.alike }))))
