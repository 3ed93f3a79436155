-- The operations on worlds keep what holds.
use Rattle.std.proofs.Common.{List, [], ap, arith, not, refl, subst, suc, sym, true≢false, zero, ℕ, ◌&&◌, ◌++◌, ◌+◌, ◌-◌, ◌||◌, ◌∙◌, ◌∷◌, ◌≡◌}
use Rattle.std.specs.List.{list_all, list_any}
use Rattle.std.specs.Prelude.{Bool, Err, None, Ok, Option, Some, codes, false, if◌then◌else◌, is_some, length, nat_lt, negsuc, option_and_then, option_map, pos, slice_get, take, true, unwrap_or, ℤ, ◌==◌}
use Rattle.std.specs.Prelude.{Result as Computed}
use Rattle.std.specs.Str.{bytes_eq}
use Rattle.flex_base.specs.Lists.{changed_at, entry}
use Rattle.flex_base.specs.Value.{coerce_text, is_object, to_bool, to_int}
use Rattle.flex_base.specs.declared.outcome.Stop.{Stop}
use Rattle.flex_base.specs.declared.outcome.Stop.TheVariants as stop
use Rattle.flex_base.specs.declared.record.TraceItem.TheVariants.{Made}
use Rattle.flex_base.specs.declared.value.ObjId.{ObjId}
use Rattle.flex_base.specs.declared.value.Value.{Value}
use Rattle.flex_base.specs.declared.value.Value.TheVariants as value
use Rattle.component_catalog.specs.Classes.{or_else}
use Rattle.component_catalog.specs.Methods.{element}
use Rattle.component_catalog.specs.declared.class.NativeClass.TheVariants as native
use Rattle.flex_world.specs.Arrays.{element_or_undefined, most_elements, with_element, with_last, without_last}
use Rattle.flex_world.specs.Classes.{descends, descends_from, is_component, is_container, is_event, lineage_in, same_class, static_type}
use Rattle.flex_world.specs.declared.kind.Class.{Class}
use Rattle.flex_world.specs.declared.kind.StaticType.{StaticType}
use Rattle.flex_world.specs.Conversions.{into_object, into_type, is_of_type, object_into}
use Rattle.flex_world.specs.Making.{computes, new_object, object_cost}
use Rattle.flex_world.specs.Objects.{An_array, Field, Instance_of, Kind, Object, class_of_kind, current_state, field_named, is_array, is_array_kind, is_object_among, next_object, object_at, property, with_value}
use Rattle.flex_world.specs.Operators.{whole}
use Rattle.flex_program.proofs.ClassLaws.{both_true, or_true, same_class_is, same_text}
use Rattle.flex_program.proofs.Facts.{kept_down, property_down}
use Rattle.flex_program.proofs.Inverted.{All, all_append, all_get, all_map, map_is, same_some}
use Rattle.flex_program.specs.Classes.{bases, class_name, document_in, document_of, fields_of, has_property}
use Rattle.flex_program.specs.Fine.{computed_type, is_fine, is_named, is_named_result, kept_type, property_type, value_type}
use Rattle.flex_program.specs.Program.{Document, Method, Program}
use Rattle.flex_meaning.proofs.Holding.{A_bool, A_listener, A_null, A_ref, A_text, AllFields, An_int, An_undefined, AreOf, FitsKind, IsA, IsDocument, IsMade, Later, OfType, T_any, T_array, T_bool, T_int, T_no_array, T_no_object, T_object, Typed, TypedObject, Valid, in_state, kind_at, shape, shape_in}
use Rattle.flex_meaning.proofs.Keeping.{From, Good, Safe, Unharmed, all_made_later, changed_from, kind_new, later_more, later_then, more_registered, more_typed, object_typed, plain_typed, safe_bind, safe_choose, safe_done, safe_ends, safe_found, safe_from, safe_given, safe_later, safe_on, safe_stop, type_later, valid_later}
use Rattle.flex_meaning.proofs.Operations.{coerce_text_good, field_type, fresh_typed, property_typed, row_typed, whole_good}
use Rattle.flex_meaning.specs.Arrays.{append, array_length, on_array, pop, push, read_element, write_element}
use Rattle.flex_meaning.specs.Changes.{state_asked}
use Rattle.flex_meaning.specs.Conversions.{convert, convert_all, convert_result, method_arguments}
use Rattle.flex_meaning.specs.Expressions.{receiver, tested}
use Rattle.flex_meaning.specs.Objects.{allocate, make_bare, new_array, read}
use Rattle.flex_meaning.specs.Results.{Ends, Goes, Halts, Result, Stuck, bind, given, guarded, need, stops}
use Rattle.flex_meaning.specs.Tasks.{register_document}
use Rattle.flex_meaning.specs.Turns.{activity, enter, leave, pay, spend, take_number, tick}
use Rattle.flex_meaning.specs.World.{World, change_object, is_fresh, note, set_field}

module _ (p : Program) where
  safe_if : {own : Bool} {A : Type 0} {P : A → List Object → Type 0} {os : List Object} {r s : Result A} (b : Bool) → Safe p own os r P → Safe p own os s P → Safe p own os (if b then r else s) P
  safe_if true t u = t
  safe_if false t u = u

  pub safe_guarded : {own : Bool} {A : Type 0} {P : A → List Object → Type 0} {os : List Object} (b : Bool) (f : World → Result A) (w : World) → b ≡ true → Safe p own os (f w) P → Safe p own os (guarded b f w) P
  safe_guarded true f w e s = s
  safe_guarded false f w e s = absurd (true≢false (sym e))

  -- what is computed in a world, where it can be
  pub safe_answer : {own : Bool} {A : Type 0} {P : A → List Object → Type 0} (x : Option (Computed A Stop)) (w : World) (r : Computed A Stop) → x ≡ Some r → Good p r (λ v. P v w.objects) → Typed p w → Safe p own w.objects (need x w (λ r1. given r1 w)) P
  safe_answer x w r e g ty = safe_found p x w _ r e (safe_given p r w g ty)

  -- Turns, levels and cells

  spend_safe : {own : Bool} (t : ℕ) (w : World) → Typed p w → Safe p own w.objects (spend t w) (λ _ _. Unit {0})
  spend_safe zero w ty = record { holds = tt }
  spend_safe (suc t) w ty = safe_done p {w = record w { turns = t }} ty tt

  pub tick_safe : {own : Bool} (w : World) → Typed p w → Safe p own w.objects (tick w) (λ _ _. Unit {0})
  tick_safe w ty = spend_safe w.turns w ty

  pub enter_safe : {own : Bool} (w : World) → Typed p w → Safe p own w.objects (enter w) (λ _ _. Unit {0})
  enter_safe w ty = safe_if (nat_lt w.level 256) (safe_bind p (tick_safe w ty) (λ _ w1 l _. safe_done p {w = record w1 { level = suc w1.level }} l.typed tt)) (safe_stop p)

  pub activity_safe : {A : Type 0} {P : A → List Object → Type 0} (body : World → Result A) (w : World) → Typed p w
      → ((w1 : World) → From p w.objects w1 → Safe p false w1.objects (body w1) P) → Safe p false w.objects (activity body w) P
  activity_safe body w ty s =
      safe_bind p (enter_safe w ty) (λ _ w1 l _. safe_bind p (s w1 l) (λ v w2 l2 h. safe_done p {w = leave w2} l2.typed h))

  pub pay_safe : {own : Bool} (cost : ℕ) (w : World) → Typed p w → Safe p own w.objects (pay cost w) (λ _ _. Unit {0})
  pay_safe cost w ty = safe_if (nat_lt 1000000 (w.cells + cost)) (safe_stop p) (safe_done p {w = record w { cells = w.cells + cost }} ty tt)

  -- Making

  take_safe : {own : Bool} (x : Object) (w : World) → Typed p w → TypedObject p (w.objects ++ x ∷ []) x → ((class : Class) (d : Document) → x.kind ≡ Instance_of class → document_of p class ≡ Some d → ⊥) → Safe p own w.objects (take_number x w) (λ o os. kind_at os o ≡ Some x.kind)
  take_safe x w ty h plain = safe_from p {w = record w { objects = w.objects ++ x ∷ [] }} (record { later = later_more p w.objects x; typed = plain_typed p x w ty h plain }) (kind_new p w.objects x)

  pub new_array_safe : {own : Bool} (vs : List Value) (w : World) → All (Valid p w.objects) vs → Typed p w → Safe p own w.objects (new_array vs w) (λ o os. kind_at os o ≡ Some An_array)
  new_array_safe vs w h ty =
      safe_bind p (pay_safe (1 + length vs) w ty)
      (λ _ w1 l _. take_safe (new_object An_array [] vs) w1 l.typed (row_typed p (w1.objects ++ new_object An_array [] vs ∷ []) vs (all_map _ _ vs (λ v. valid_later p (later_then p l.later (later_more p w1.objects _))) h)) (λ class d e is. absurd (cc)))

  -- An object that is made is new

  bound_get : {A : Type 0} (xs : List A) (n : ℕ) → is_some (slice_get xs n) ≡ true → (n == length xs) ≡ false
  bound_get [] n e = absurd (true≢false (sym e))
  bound_get (x ∷ xs) zero e = grind arith
  bound_get (x ∷ xs) (suc n) e = one_more n (length xs) ∙ bound_get xs n e
    where
      one_more : (a b : ℕ) → (suc a == suc b) ≡ (a == b)
      one_more a b = grind arith

  made_differs : (os : List Object) (n : ℕ) → is_some (entry os n) ≡ true → (n == suc (length os)) ≡ false
  made_differs os zero e = absurd (true≢false (sym e))
  made_differs os (suc n) e = one_more n (length os) ∙ bound_get os n e
    where
      one_more : (a b : ℕ) → (suc a == suc b) ≡ (a == b)
      one_more a b = grind arith

  turned : (a b : ℕ) → (a == b) ≡ false → (b == a) ≡ false
  turned a b e = grind arith

  none_among : {A : Type 0} (test : A → Bool) (xs : List A) → All (λ x. test x ≡ false) xs → list_any test xs ≡ false
  none_among test [] h = refl
  none_among test (x ∷ xs) h = ap (λ b. b || list_any test xs) h.0 ∙ none_among test xs h.1

  pub document_made : (os : List Object) (o : ObjId) (class : Class) (d : Document) → IsDocument p os o class d → IsMade p os o
  document_made os o class d h = let c = map_is (λ x. x.kind) (object_at os o) _ h.at in ap is_some c.1

  fresh : (w : World) → Typed p w → is_fresh (next_object w.objects) w ≡ true
  fresh w ty =
      all_four
      (none_among _ w.built (all_map _ _ w.built (λ b h. made_differs w.objects b.document.0 (document_made w.objects b.document h.class h.document h.is)) ty.1))
      (none_among _ w.saved (all_map _ _ w.saved (λ s h. made_differs w.objects s.document.0 (document_made w.objects s.document h.class h.document h.is)) ty.2))
      (none_among _ w.registered (all_map _ _ w.registered (λ o h. turned o.0 (suc (length w.objects)) (made_differs w.objects o.0 h)) ty.3))
      (none_among _ w.begun (all_map _ _ w.begun (λ o h. turned o.0 (suc (length w.objects)) (made_differs w.objects o.0 h)) ty.4))
    where
      all_four : {a b d e : Bool} → a ≡ false → b ≡ false → d ≡ false → e ≡ false → (not a && not b && not d && not e) ≡ true
      all_four h i j k = λ x. not (h x) && not (i x) && not (j x) && not (k x)

  -- an object counts as registered, where it is a document
  abbrev pub registered_as : Class → ObjId → World → World
  registered_as class o w = register_document (document_of p class) o w

  -- the world in which an object was made that isn't constructed yet
  pub record Allocated (class : Class) (os : List Object) (o : ObjId) (w : World) : Type 0 where
    pub later : Later p os w.objects
    pub at : kind_at w.objects o ≡ Some (Instance_of class)
    pub typed : Typed p (registered_as class o w)

  bound_twice : {A B D : Type 0} (r : Result A) (g : A → World → Result B) (f : B → World → Result D) → bind (bind r g) f ≡ bind r (λ v w. bind (g v w) f)
  bound_twice (Goes v w) g f = refl
  bound_twice (Halts o w) g f = refl
  bound_twice (Ends w) g f = refl
  bound_twice (Stuck w) g f = refl

  module _ (fine : is_fine p ≡ true) where
    -- a new object, of which nothing is kept yet
    new_typed : (class : Class) (w : World) → Typed p w → Typed p (registered_as class (next_object w.objects) (record w { objects = w.objects ++ new_object (Instance_of class) (fields_of p class) [] ∷ [] }))
    new_typed class w ty = by (document_of p class) refl
      where
        x : Object
        x = new_object (Instance_of class) (fields_of p class) []

        same_kind : (a b : Class) → Instance_of a ≡ Instance_of b → a ≡ b
        same_kind a b e = same_some a b (ap class_of_kind e)

        by : (d : Option Document) → document_of p class ≡ d → Typed p (register_document d (next_object w.objects) (record w { objects = w.objects ++ x ∷ [] }))
        by None e = plain_typed p x w ty (fresh_typed p _ fine class) (λ other d k is. none_is (document_of p other) d (ap (document_of p) (sym (same_kind class other k)) ∙ e) is)
          where
            none_is : (y : Option Document) (d : Document) → y ≡ None → y ≡ Some d → ⊥
            none_is y d a b = cc
        by (Some d) e =
            more_typed p x (next_object w.objects ∷ w.registered) w ty (fresh_typed p _ fine class)
            (ap is_some (map_is (λ c. c.kind) (object_at (w.objects ++ x ∷ []) (next_object w.objects)) _ (kind_new p w.objects x)).1, all_made_later p (later_more p w.objects x) w.registered ty.3)
            (more_registered p w.objects x w.registered (next_object w.objects ∷ w.registered) (λ o h. ap (λ b. is_object o (next_object w.objects) || b) h ∙ or_true p _) (λ other d1 k is. ap (λ b. b || is_object_among (next_object w.objects) w.registered) (itself (suc (length w.objects)))) ty.5)
          where
            itself : (a : ℕ) → (a == a) ≡ true
            itself a = grind arith

    pub allocated_then : {own : Bool} {A : Type 0} {Q : A → List Object → Type 0} (class : Class) (w : World) (f : ObjId → World → Result A) → is_some (class_name p class) ≡ true → Typed p w
        → ((o : ObjId) (w1 : World) → Allocated class w.objects o w1 → Safe p own w1.objects (f o w1) Q) → Safe p own w.objects (bind (allocate p class w) f) Q
    allocated_then {own} {A} {Q} class w f named ty t =
        subst (λ r. Safe p own w.objects r Q) (sym (bound_twice (pay (object_cost (fields_of p class)) w) (λ _ w1. guarded (is_fresh (next_object w1.objects) w1) (make_bare p class) w1) f))
        (safe_bind p (pay_safe (object_cost (fields_of p class)) w ty) (λ _ w1 l _. paid w1 l))
      where
        x : Object
        x = new_object (Instance_of class) (fields_of p class) []

        noted_then : (b : Bool) (name : Option (List ℕ)) (o : ObjId) (w1 : World) → is_some name ≡ true → Allocated class w.objects o w1 → Safe p own w1.objects (bind (if b then Goes o w1 else need name w1 (λ n. Goes o (note (Made o n) w1))) f) Q
        noted_then true name o w1 e a = t o w1 a
        noted_then false None o w1 e a = absurd (true≢false (sym e))
        noted_then false (Some n) o w1 e a = t o (note (Made o n) w1) (record { later = a.later; at = a.at; typed = noted_typed (document_of p class) a.typed })
          where
            noted_typed : (d : Option Document) → Typed p (register_document d o w1) → Typed p (register_document d o (note (Made o n) w1))
            noted_typed None h = h
            noted_typed (Some d) h = h

        made_then : (w1 : World) → From p w.objects w1 → Safe p own w1.objects (bind (make_bare p class w1) f) Q
        made_then w1 l =
            safe_later p (later_more p w1.objects x) _
            (noted_then (is_event (bases p) class) (class_name p class) (next_object w1.objects) (record w1 { objects = w1.objects ++ x ∷ [] }) named
            (record { later = later_then p l.later (later_more p w1.objects x); at = kind_new p w1.objects x; typed = new_typed class w1 l.typed }))

        paid : (w1 : World) → From p w.objects w1 → Safe p own w1.objects (bind (guarded (is_fresh (next_object w1.objects) w1) (make_bare p class) w1) f) Q
        paid w1 l = subst (λ b. Safe p own w1.objects (bind (guarded b (make_bare p class) w1) f) Q) (sym (fresh w1 l.typed)) (made_then w1 l)

  -- Conversions

  abbrev IntoType : List Object → StaticType → Value → Type 0
  IntoType os t v = (r : Computed Value Stop) × (into_type (bases p) os t v ≡ Some r) × Good p r (λ v1. OfType p os v1 t)

  object_good : (os : List Object) (t : StaticType) (o : ObjId) (c : Object) → (is_of_type (bases p) t c.kind ≡ true → OfType p os (value.Ref o) t) → Good p (object_into (bases p) t o c) (λ v1. OfType p os v1 t)
  object_good os t o c of = by (is_of_type (bases p) t c.kind) refl
    where
      by : (b : Bool) → is_of_type (bases p) t c.kind ≡ b → Good p (if b then Ok (value.Ref o) else Err stop.Kind) (λ v1. OfType p os v1 t)
      by true e = record { holds = of e }
      by false e = record { holds = tt }

  into_object_good : (os : List Object) (t : StaticType) (v : Value) → Valid p os v → ((o : ObjId) (k : Kind) → kind_at os o ≡ Some k → is_of_type (bases p) t k ≡ true → OfType p os (value.Ref o) t) → OfType p os value.Null t
      → (r : Computed Value Stop) × (into_object (bases p) os t v ≡ Some r) × Good p r (λ v1. OfType p os v1 t)
  into_object_good os t v (A_ref o k e) of none =
      let c = map_is (λ x. x.kind) (object_at os o) k e in
      (object_into (bases p) t o c.0, ap (option_map (object_into (bases p) t o)) c.1, object_good os t o c.0 (of o c.0.kind (ap (option_map (λ x. x.kind)) c.1)))
  into_object_good os t v An_undefined of none = (_, refl, record { holds = none })
  into_object_good os t v A_null of none = (_, refl, record { holds = none })
  into_object_good os t v (A_bool b) of none = (_, refl, record { holds = tt })
  into_object_good os t v (An_int b) of none = (_, refl, record { holds = tt })
  into_object_good os t v (A_text b) of none = (_, refl, record { holds = tt })
  into_object_good os t v (A_listener o m h) of none = (_, refl, record { holds = tt })

  into_good : (os : List Object) (t : StaticType) (v : Value) → is_named t ≡ true → Valid p os v → IntoType os t v
  into_good os StaticType.Int v n h = (whole (to_int v), refl, whole_good p os (to_int v))
  into_good os StaticType.Boolean v n h = (_, refl, record { holds = T_bool (to_bool v) })
  into_good os StaticType.String v n h = (coerce_text v, refl, coerce_text_good p os v)
  into_good os StaticType.Any v n h = (_, refl, record { holds = T_any v h })
  into_good os StaticType.Unnamed v n h = absurd (true≢false (sym n))
  into_good os StaticType.Array v n h = into_object_good os StaticType.Array v h of T_no_array
    where
      of : (o : ObjId) (k : Kind) → kind_at os o ≡ Some k → is_of_type (bases p) StaticType.Array k ≡ true → OfType p os (value.Ref o) StaticType.Array
      of o An_array e f = T_array o e
      of o (Instance_of c) e f = absurd (true≢false (sym f))
  into_good os (StaticType.Object a) v n h = into_object_good os (StaticType.Object a) v h of (T_no_object a)
    where
      of : (o : ObjId) (k : Kind) → kind_at os o ≡ Some k → is_of_type (bases p) (StaticType.Object a) k ≡ true → OfType p os (value.Ref o) (StaticType.Object a)
      of o An_array e f = absurd (true≢false (sym f))
      of o (Instance_of c) e f = T_object o c a e f

  pub convert_safe : {own : Bool} (t : StaticType) (v : Value) (w : World) → is_named t ≡ true → Valid p w.objects v → Typed p w → Safe p own w.objects (convert p t v w) (λ v1 os. OfType p os v1 t)
  convert_safe t v w n h ty = let g = into_good w.objects t v n h in safe_answer (into_type (bases p) w.objects t v) w g.0 g.1 g.2 ty

  pub convert_result_safe : {own : Bool} (t : Option StaticType) (v : Value) (w : World) → is_named_result t ≡ true → Valid p w.objects v → Typed p w → Safe p own w.objects (convert_result p t v w) (λ v1 os. OfType p os v1 (value_type t))
  convert_result_safe None v w n h ty = safe_done p ty (T_any v h)
  convert_result_safe (Some t) v w n h ty = convert_safe t v w n h ty

  pub convert_all_safe : {own : Bool} (ts : List StaticType) (vs : List Value) (w : World) → list_all is_named ts ≡ true → length vs ≡ length ts → All (Valid p w.objects) vs → Typed p w → Safe p own w.objects (convert_all p ts vs w) (λ us os. AreOf p os us ts)
  convert_all_safe [] [] w n e h ty = safe_done p ty tt
  convert_all_safe (t ∷ ts) (v ∷ vs) w n e h ty =
      let m = both_true p (is_named t) (list_all is_named ts) n in
      safe_bind p (convert_safe t v w m.0 h.0 ty)
      (λ v1 w1 l k. safe_bind p (convert_all_safe ts vs w1 m.1 (let f : length vs ≡ length ts = cc in f) (all_map _ _ vs (λ x. valid_later p l.later) h.1) l.typed)
      (λ us w2 l2 k2. safe_done p l2.typed (type_later p l2.later k, k2)))
  convert_all_safe [] (v ∷ vs) w n e h ty = absurd (cc)
  convert_all_safe (t ∷ ts) [] w n e h ty = absurd (cc)

  pub method_arguments_safe : {own : Bool} (m : Method) (vs : List Value) (w : World) → list_all is_named m.parameters ≡ true → (length vs == length m.parameters) ≡ true → All (Valid p w.objects) vs → Typed p w → Safe p own w.objects (method_arguments p m vs w) (λ us os. AreOf p os us m.parameters)
  method_arguments_safe m vs w n e h ty = safe_guarded (length vs == length m.parameters) (convert_all p m.parameters vs) w e (convert_all_safe m.parameters vs w n (same_count (length vs) (length m.parameters) e) h ty)
    where
      same_count : (a b : ℕ) → (a == b) ≡ true → a ≡ b
      same_count a b e1 = grind arith

  -- Receivers

  pub object_receiver : (own : Bool) (v : Value) (c : Class) (w : World) → OfType p w.objects v (StaticType.Object c) → Typed p w → Safe p own w.objects (receiver own v w) (λ o os. IsA p os o c)
  object_receiver own v c w (T_object o k a e d) ty = safe_done p ty (record { class = k; at = e; is = d })
  object_receiver true v c w (T_no_object a) ty = safe_ends p ty
  object_receiver false v c w (T_no_object a) ty = safe_stop p

  pub array_receiver : (own : Bool) (v : Value) (w : World) → OfType p w.objects v StaticType.Array → Typed p w → Safe p own w.objects (receiver own v w) (λ o os. kind_at os o ≡ Some An_array)
  array_receiver own v w (T_array o e) ty = safe_done p ty e
  array_receiver true v w T_no_array ty = safe_ends p ty
  array_receiver false v w T_no_array ty = safe_stop p

  pub object_tested : (own : Bool) (v : Value) (c : Class) (w : World) → OfType p w.objects v (StaticType.Object c) → Typed p w → Safe p own w.objects (tested own v w) (λ _ _. Unit {0})
  object_tested true v c w h ty = safe_bind p (object_receiver true v c w h ty) (λ o w1 l k. safe_done p l.typed tt)
  object_tested false v c w h ty = safe_done p ty tt

  pub array_tested : (own : Bool) (v : Value) (w : World) → OfType p w.objects v StaticType.Array → Typed p w → Safe p own w.objects (tested own v w) (λ _ _. Unit {0})
  array_tested true v w h ty = safe_bind p (array_receiver true v w h ty) (λ o w1 l k. safe_done p l.typed tt)
  array_tested false v w h ty = safe_done p ty tt

  -- Elements

  pub element_valid : (os : List Object) (vs : List Value) (n : ℤ) → All (Valid p os) vs → Valid p os (element_or_undefined vs n)
  element_valid os vs (negsuc n) h = An_undefined
  element_valid os vs (pos n) h = by (slice_get vs n) refl
    where
      by : (x : Option Value) → slice_get vs n ≡ x → Valid p os (unwrap_or x value.Undefined)
      by None e = An_undefined
      by (Some v) e = all_get _ vs n v e h

  -- other elements of an array
  elements_unharmed : (os : List Object) (a : ObjId) (f : List Value → List Value) → ((c : Object) → object_at os a ≡ Some c → (os1 : List Object) → Later p os os1 → All (Valid p os1) c.elements → All (Valid p os1) (f c.elements)) → Unharmed p os a (λ c. record c { elements = f c.elements })
  elements_unharmed os a f keep = record {
    kinds = λ c e. refl;
    states = λ c e h. h;
    typed = λ c e os1 l h. record { fields = h.fields; names = h.names; elements = keep c e os1 l h.elements; parent = h.parent; children = h.children; listeners = h.listeners; entered = h.entered; kept = h.kept };
  }

  pub safe_on_array : {own : Bool} {B : Type 0} {Q : B → List Object → Type 0} (a : ObjId) (w : World) (f : Object → World → Result B) → kind_at w.objects a ≡ Some An_array → Typed p w
      → ((c : Object) → object_at w.objects a ≡ Some c → TypedObject p w.objects c → Safe p own w.objects (f c w) Q) → Safe p own w.objects (on_array a w f) Q
  safe_on_array a w f at ty t = safe_on p a w An_array _ at ty (λ c here same th. safe_guarded (is_array c) (f c) w (ap is_array_kind same) (t c here th))

  pub append_safe : {own : Bool} (a : ObjId) (v : Value) (w : World) → kind_at w.objects a ≡ Some An_array → Valid p w.objects v → Typed p w → Safe p own w.objects (append a v w) (λ _ _. Unit {0})
  append_safe a v w at h ty =
      safe_on_array a w _ at ty
      (λ array here th. safe_bind p (safe_choose p (nat_lt (length array.elements) most_elements) (pay 1) (stops stop.ArrayLength) w (λ _. pay_safe 1 w ty) (λ _. safe_stop p))
      (λ _ w1 l _. safe_from p {w = change_object a (with_last v) w1} (changed_from p a _ w1 (elements_unharmed w1.objects a (λ vs. vs ++ v ∷ []) (λ c e os1 l1 k. all_append _ c.elements (v ∷ []) k (valid_later p (later_then p l.later l1) h, tt))) l.typed) tt))

  pub array_length_safe : {own : Bool} (a : ObjId) (w : World) → kind_at w.objects a ≡ Some An_array → Typed p w → Safe p own w.objects (array_length a w) (λ v1 os. OfType p os v1 StaticType.Int)
  array_length_safe a w at ty = safe_on_array a w _ at ty (λ array here th. safe_done p ty (T_int _))

  pub push_safe : {own : Bool} (a : ObjId) (v : Value) (w : World) → kind_at w.objects a ≡ Some An_array → Valid p w.objects v → Typed p w → Safe p own w.objects (push a v w) (λ v1 os. OfType p os v1 StaticType.Int)
  push_safe a v w at h ty = safe_bind p (append_safe a v w at h ty) (λ _ w1 l _. array_length_safe a w1 (l.later.kinds a An_array at) l.typed)

  all_taken : (P : Value → Type 0) (n : ℕ) (vs : List Value) → All P vs → All P (take n vs)
  all_taken P zero vs h = tt
  all_taken P (suc n) [] h = tt
  all_taken P (suc n) (v ∷ vs) h = (h.0, all_taken P n vs h.1)

  pub pop_safe : {own : Bool} (a : ObjId) (w : World) → kind_at w.objects a ≡ Some An_array → Typed p w → Safe p own w.objects (pop a w) (λ v os. OfType p os v StaticType.Any)
  pop_safe a w at ty =
      safe_on_array a w _ at ty
      (λ array here th.
      let f : From p w.objects (change_object a without_last w) = changed_from p a _ w (elements_unharmed w.objects a (λ vs. take (length vs - 1) vs) (λ c e os1 l1 k. all_taken _ (length c.elements - 1) c.elements k)) ty in
      safe_from p {w = change_object a without_last w} f (T_any _ (valid_later p f.later (element_valid w.objects array.elements _ th.elements))))

  pub read_element_safe : {own : Bool} (a : ObjId) (i : Value) (w : World) → kind_at w.objects a ≡ Some An_array → OfType p w.objects i StaticType.Int → Typed p w → Safe p own w.objects (read_element a i w) (λ v os. OfType p os v StaticType.Any)
  read_element_safe a i w at (T_int n) ty = safe_on_array a w _ at ty (λ array here th. safe_done p ty (T_any _ (element_valid w.objects array.elements n th.elements)))

  all_set : (P : Value → Type 0) (vs : List Value) (n : ℕ) (v : Value) → P v → All P vs → All P (changed_at (λ _. v) vs n)
  all_set P [] n v k h = tt
  all_set P (x ∷ vs) zero v k h = (k, h.1)
  all_set P (x ∷ vs) (suc n) v k h = (h.0, all_set P vs n v k h.1)

  pub write_element_safe : {own : Bool} (a : ObjId) (i v : Value) (w : World) → kind_at w.objects a ≡ Some An_array → OfType p w.objects i StaticType.Int → Valid p w.objects v → Typed p w → Safe p own w.objects (write_element a i v w) (λ _ _. Unit {0})
  write_element_safe a i v w at (T_int (negsuc n)) h ty = safe_on_array a w _ at ty (λ array here th. safe_stop p)
  write_element_safe a i v w at (T_int (pos n)) h ty =
      safe_on_array a w _ at ty
      (λ array here th. safe_choose p (nat_lt n (length array.elements)) _ _ w
      (λ _. safe_from p {w = change_object a (with_element n v) w} (changed_from p a _ w (elements_unharmed w.objects a (λ vs. changed_at (λ _. v) vs n) (λ c e os1 l1 k. all_set _ c.elements n v (valid_later p l1 h) k)) ty) tt)
      (λ _. safe_choose p (n == length array.elements) _ _ w (λ _. append_safe a v w at h ty) (λ _. safe_stop p)))

  -- Fields

  -- what a property of another name has stays
  pub other_field : (name x : List ℕ) (v : Value) (fields : List Field) → bytes_eq name x ≡ false → field_named x (with_value name v fields) ≡ field_named x fields
  other_field name x v [] e = refl
  other_field name x v (f ∷ fields) e = by (bytes_eq f.name name) refl (other_field name x v fields e)
    where
      by : (b : Bool) → bytes_eq f.name name ≡ b → field_named x (with_value name v fields) ≡ field_named x fields
          → field_named x (if b then record f { value = v } ∷ fields else f ∷ with_value name v fields) ≡ field_named x (f ∷ fields)
      by true same rest = let e1 : bytes_eq f.name x ≡ false = subst (λ t. bytes_eq t x ≡ false) (sym (same_text f.name name same)) e in
          let one : Bool → Option Field = λ b. if b then Some (record f { value = v }) else field_named x fields in
          ap one e1 ∙ sym (ap (λ b. if b then Some f else field_named x fields) e1)
      by false same rest = ap (λ y. if bytes_eq f.name x then Some f else y) rest

  -- a field that is written
  pub this_field : (name : List ℕ) (v : Value) (fields : List Field) (f : Field) → field_named name fields ≡ Some f → field_named name (with_value name v fields) ≡ Some (record f { value = v })
  this_field name v [] f e = absurd (cc)
  this_field name v (g ∷ fields) f e = by (bytes_eq g.name name) refl e (this_field name v fields f)
    where
      by : (b : Bool) → bytes_eq g.name name ≡ b → (if b then Some g else field_named name fields) ≡ Some f → (field_named name fields ≡ Some f → field_named name (with_value name v fields) ≡ Some (record f { value = v }))
          → field_named name (if b then record g { value = v } ∷ fields else g ∷ with_value name v fields) ≡ Some (record f { value = v })
      by true same e1 rest =
          let put : Field → Option Field = λ x. Some (record x { value = v }) in
          let one : Bool → Option Field = λ b. if b then Some (record g { value = v }) else field_named name fields in
          ap one same ∙ ap put (same_some g f e1)
      by false same e1 rest = ap (λ b. if b then Some g else field_named name (with_value name v fields)) same ∙ rest e1

  -- no name has another type than before
  kinds_stay : (name x : List ℕ) (v : Value) (fields : List Field) → shape_in p (with_value name v fields) x ≡ shape_in p fields x
  kinds_stay name x v [] = refl
  kinds_stay name x v (f ∷ fields) = by (bytes_eq f.name name) (kinds_stay name x v fields)
    where
      by : (b : Bool) → shape_in p (with_value name v fields) x ≡ shape_in p fields x
          → shape_in p (if b then record f { value = v } ∷ fields else f ∷ with_value name v fields) x ≡ shape_in p (f ∷ fields) x
      by true rest = same_shape (bytes_eq f.name x)
        where
          same_shape : (d : Bool) → option_map (shape p) (if d then Some (record f { value = v }) else field_named x fields) ≡ option_map (shape p) (if d then Some f else field_named x fields)
          same_shape true = refl
          same_shape false = refl
      by false rest = same_shape (bytes_eq f.name x)
        where
          same_shape : (d : Bool) → option_map (shape p) (if d then Some f else field_named x (with_value name v fields)) ≡ option_map (shape p) (if d then Some f else field_named x fields)
          same_shape true = refl
          same_shape false = rest

  fields_typed : (os : List Object) (name : List ℕ) (v : Value) (fields : List Field) → ((f : Field) → field_named name fields ≡ Some f → OfType p os v f.type) → AllFields p os fields → AllFields p os (with_value name v fields)
  fields_typed os name v [] k h = tt
  fields_typed os name v (f ∷ fields) k h = by (bytes_eq f.name name) refl (λ n. fields_typed os name v fields n h.1)
    where
      by : (b : Bool) → bytes_eq f.name name ≡ b → (((g : Field) → field_named name fields ≡ Some g → OfType p os v g.type) → AllFields p os (with_value name v fields))
          → AllFields p os (if b then record f { value = v } ∷ fields else f ∷ with_value name v fields)
      by true same rest = (k f (ap (λ b. if b then Some f else field_named name fields) same), h.1)
      by false same rest = (h.0, rest (λ g e. k g (ap (λ b. if b then Some f else field_named name fields) same ∙ e)))

  -- a property is written: a value of its type; where it is `currentState`, it names a state
  pub field_unharmed : (os : List Object) (o : ObjId) (name : List ℕ) (v : Value)
      → ((c : Object) → object_at os o ≡ Some c → (f : Field) → field_named name c.fields ≡ Some f → OfType p os v f.type)
      → ((c : Object) → object_at os o ≡ Some c → in_state p c ≡ true → in_state p (record c { fields = with_value name v c.fields }) ≡ true)
      → Unharmed p os o (λ c. record c { fields = with_value name v c.fields })
  field_unharmed os o name v typed states = record {
    kinds = λ c e. refl;
    states = states;
    typed = λ c e os1 l h. record {
      fields = fields_typed os1 name v c.fields (λ f here. type_later p l (typed c e f here)) h.fields;
      names = named_still c.kind c.fields h.names;
      elements = h.elements;
      parent = h.parent;
      children = h.children;
      listeners = h.listeners;
      entered = λ f. states c e (h.entered f);
      kept = h.kept;
    };
  }
    where
      named_still : (k : Kind) (fields : List Field) → FitsKind p k fields → FitsKind p k (with_value name v fields)
      named_still (Instance_of c) fields h = λ x. kinds_stay name x v fields ∙ h x
      named_still An_array fields h = tt

  -- properties of other names leave documents in their states
  pub other_states : (name : List ℕ) (v : Value) → bytes_eq name current_state ≡ false → (c : Object) → in_state p c ≡ true → in_state p (record c { fields = with_value name v c.fields }) ≡ true
  other_states name v e c h = subst (λ x. is_some (option_and_then (λ f. state_asked (document_in p c) f.value) x) ≡ true) (sym (other_field name current_state v c.fields e)) h

  module _ (fine : is_fine p ≡ true) where
    -- a class that descends from another has what that one computes
    computes_below : (name : List ℕ) (k a : Class) → descends (bases p) k a ≡ true → computes name a ≡ true → list_any (computes name) (lineage_in (bases p) k) ≡ true
    computes_below name k a h e = among (lineage_in (bases p) k) h
      where
        among : (xs : List Class) → list_any (same_class a) xs ≡ true → list_any (computes name) xs ≡ true
        among [] h1 = absurd (true≢false (sym h1))
        among (x ∷ xs) h1 = by (same_class a x) refl h1 (among xs)
          where
            by : (b : Bool) → same_class a x ≡ b → (b || list_any (same_class a) xs) ≡ true → (list_any (same_class a) xs ≡ true → list_any (computes name) xs ≡ true) → (computes name x || list_any (computes name) xs) ≡ true
            by true s h2 rest = ap (λ b. b || list_any (computes name) xs) (subst (λ y. computes name y ≡ true) (same_class_is a x s) e)
            by false s h2 rest = ap (λ b. computes name x || b) (rest h2) ∙ or_true p _

    computed_has : (name : List ℕ) (k : Class) (t : StaticType) → computed_type p k name ≡ Some t → list_any (computes name) (lineage_in (bases p) k) ≡ true
    computed_has name k t e = by (bytes_eq name (codes "parent")) (bytes_eq name (codes "numElements")) refl refl e
      where
        element_count : (s g : Bool) → descends_from (bases p) native.SkinnableContainer k ≡ s → descends_from (bases p) native.Group k ≡ g → bytes_eq name (codes "numElements") ≡ true → (if s || g then Some StaticType.Int else None) ≡ Some t → list_any (computes name) (lineage_in (bases p) k) ≡ true
        element_count true g a b f e1 = computes_below name k (Class.Native native.SkinnableContainer) a (subst (λ x. computes x (Class.Native native.SkinnableContainer) ≡ true) (sym (same_text name (codes "numElements") f)) refl)
        element_count false true a b f e1 = computes_below name k (Class.Native native.Group) b (subst (λ x. computes x (Class.Native native.Group) ≡ true) (sym (same_text name (codes "numElements") f)) refl)
        element_count false false a b f e1 = absurd (cc)

        counted : (y : Bool) → bytes_eq name (codes "numElements") ≡ y → (if y && is_container (bases p) k then Some StaticType.Int else None) ≡ Some t → list_any (computes name) (lineage_in (bases p) k) ≡ true
        counted true f e1 = element_count (descends_from (bases p) native.SkinnableContainer k) (descends_from (bases p) native.Group k) refl refl f e1
        counted false f e1 = absurd (cc)

        component : (c : Bool) → is_component (bases p) k ≡ c → bytes_eq name (codes "parent") ≡ true → (if c then Some (static_type element) else if bytes_eq name (codes "numElements") && is_container (bases p) k then Some StaticType.Int else None) ≡ Some t → list_any (computes name) (lineage_in (bases p) k) ≡ true
        component true h f e1 = computes_below name k (Class.Native native.UIComponent) h (subst (λ x. computes x (Class.Native native.UIComponent) ≡ true) (sym (same_text name (codes "parent") f)) refl)
        component false h f e1 = counted (bytes_eq name (codes "numElements")) refl e1

        by : (x y : Bool) → bytes_eq name (codes "parent") ≡ x → bytes_eq name (codes "numElements") ≡ y
            → (if x && is_component (bases p) k then Some (static_type element) else if y && is_container (bases p) k then Some StaticType.Int else None) ≡ Some t → list_any (computes name) (lineage_in (bases p) k) ≡ true
        by true y f g e1 = component (is_component (bases p) k) refl f (subst (λ b. (if is_component (bases p) k then Some (static_type element) else if b && is_container (bases p) k then Some StaticType.Int else None) ≡ Some t) (sym g) e1)
        by false y f g e1 = counted y g e1

    -- the class of an object has a property that its type says
    pub property_had : (name : List ℕ) (k : Class) (t : StaticType) → property_type p k name ≡ Some t → has_property p (Instance_of k) name ≡ true
    property_had name k t e = by (field_named name (fields_of p k)) e
      where
        by : (x : Option Field) → or_else (option_map (λ f. f.type) x) (computed_type p k name) ≡ Some t → (is_some x || list_any (computes name) (lineage_in (bases p) k)) ≡ true
        by None e1 = computed_has name k t e1
        by (Some f) e1 = refl

    -- reads a property of an object by its class
    pub read_safe : {own : Bool} (o : ObjId) (a : Class) (name : List ℕ) (t : StaticType) (w : World) → IsA p w.objects o a → property_type p a name ≡ Some t → Typed p w → Safe p own w.objects (read p o name w) (λ v os. OfType p os v t)
    read_safe o a name t w h e ty =
        safe_on p o w (Instance_of h.class) _ h.at ty
        (λ c here same th.
        let down = property_down p fine h.class a h.is name t e in
        let v = property_typed p w.objects c h.class th same name t down in
        safe_guarded (has_property p c.kind name) _ w (subst (λ k. has_property p k name ≡ true) (sym same) (property_had name h.class t down))
        (safe_found p (property c name) w _ v.0 v.1 (safe_done p ty v.2)))

    -- writes a property of an object of a class that keeps it at this type
    pub set_from : (o : ObjId) (a : Class) (name : List ℕ) (t : StaticType) (v : Value) (w : World) → IsA p w.objects o a → kept_type p a name ≡ Some t → bytes_eq name current_state ≡ false → OfType p w.objects v t → Typed p w → From p w.objects (set_field o name v w)
    set_from o a name t v w h e other k ty =
        changed_from p o _ w
        (field_unharmed w.objects o name v
        (λ c here f found. subst (λ x. OfType p w.objects v x) (sym (field_type p w.objects c h.class (object_typed p o c w here ty) (kind_of c here) name t (kept_down p fine h.class a h.is name t e) f found)) k)
        (λ c here s. other_states name v other c s)) ty
      where
        kind_of : (c : Object) → object_at w.objects o ≡ Some c → c.kind ≡ Instance_of h.class
        kind_of c here = same_some _ _ (sym (ap (option_map (λ x. x.kind)) here) ∙ h.at)
