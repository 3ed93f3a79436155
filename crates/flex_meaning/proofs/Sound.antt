-- No play of a fine program is stuck.
use Rattle.component_catalog.specs.Laws.{are_distinct}
use Rattle.std.proofs.Common.{List, [], ap, append_assoc, arith, not, refl, subst, suc, sym, true≢false, zero, ℕ, ◌++◌, ◌+◌, ◌||◌, ◌∙◌, ◌∷◌, ◌≡◌}
use Rattle.std.specs.List.{flat_map, list_all, list_any}
use Rattle.std.specs.Prelude.{Bool, None, Option, Some, codes, false, if◌then◌else◌, is_some, length, map, nat_lt, option_and_then, option_map, slice_get, true, unwrap_or, ◌==◌}
use Rattle.flex_base.specs.Events.{path_text, phase_number}
use Rattle.flex_base.specs.Lists.{entry}
use Rattle.flex_base.specs.declared.event.UserEvent.{UserEvent}
use Rattle.flex_base.specs.declared.event.UserEvent.TheVariants as user
use Rattle.flex_base.specs.declared.outcome.Stop.TheVariants as stop
use Rattle.flex_base.specs.declared.record.TraceItem.TheVariants.{Heard, Missed, User}
use Rattle.flex_base.specs.declared.value.ObjId.{ObjId}
use Rattle.flex_base.specs.declared.value.Value.{Value}
use Rattle.flex_base.specs.declared.value.Value.TheVariants as value
use Rattle.component_catalog.specs.Events.{change, click, creation_complete}
use Rattle.component_catalog.specs.declared.class.NativeClass.{NativeClass}
use Rattle.component_catalog.specs.declared.class.NativeClass.TheVariants as native
use Rattle.flex_world.specs.Classes.{base_in, descends, descends_from, same_class, upward_in}
use Rattle.flex_world.specs.declared.kind.Class.{Class}
use Rattle.flex_world.specs.declared.kind.StaticType.{StaticType}
use Rattle.flex_world.specs.Objects.{Field, Instance_of, Kind, Object, can_be_written, field_named, object_at, object_class}
use Rattle.flex_program.proofs.ClassLaws.{both_true, fine_class, fine_names, found_behind, held, lineage_is, same_class_is, text_itself}
use Rattle.flex_program.proofs.Facts.{CanRun, above, base_above, descends_itself, four_more, mapped_get}
use Rattle.flex_program.proofs.Inverted.{All, all_map, all_passing, if_is, map_is, same_some, some_is, then_is}
use Rattle.flex_program.specs.Classes.{bases, class_name, constructor_of, document_of, fields_of, own_fields, variable_field}
use Rattle.flex_program.specs.Fine.{base_takes, can_make, can_write, constructor_accepts, holds, is_fine, is_fine_constructor, is_fine_method, is_fine_variable, is_fine_written, is_plain_base, method_numbered, optional_fine, type_of, value_type, written_accepts, written_type, is_named}
use Rattle.flex_program.specs.Program.{Constructor, Document, Expr, Method, Program, SourceClass, Variable}
use Rattle.flex_meaning.proofs.Acting.{Exists}
use Rattle.flex_meaning.proofs.Built.{document_safe, instance_safe}
use Rattle.flex_meaning.proofs.Calling.{make_safe}
use Rattle.flex_meaning.proofs.Changing.{activity_safe, registered_as}
use Rattle.flex_meaning.proofs.Evaluating.{eval_safe}
use Rattle.flex_meaning.proofs.Executing.{base_plain, run_safe}
use Rattle.flex_meaning.proofs.Holding.{A_bool, A_text, AreOf, IsA, OfType, Typed, Valid, kind_at}
use Rattle.flex_meaning.proofs.Inside.{document_fine, run_binding_safe}
use Rattle.flex_meaning.proofs.Keeping.{Safe, are_later, document_later, isa_later, later_then, safe_bind, safe_choose, safe_done, safe_each, safe_found, safe_map, safe_on, safe_spent, safe_stop, valid_of}
use Rattle.flex_meaning.proofs.Kept.{FitConstructor, Kept}
use Rattle.flex_meaning.proofs.Stated.{enter_named_safe, leave_state_safe, numbered_fine}
use Rattle.flex_meaning.proofs.Writing.{announce_safe, assign_safe, fine_document, kind_is, request_safe, send_safe}
use Rattle.flex_meaning.specs.Activities.{Context, Does}
use Rattle.flex_meaning.specs.NeverStuck.{NeverStuck}
use Rattle.flex_meaning.specs.Results.{Ends, Goes, Halts, Result, Stuck, bind, done, each, stops}
use Rattle.flex_meaning.specs.Script.{click_on, follow, has_flag, is_of_native, is_usable, miss, play_event, reached, send_change, takes_text, toggle, toggles, type_at, usable}
use Rattle.flex_meaning.specs.Tasks.{activities, build_if_document, construct_class, construct_numbered, construct_unless_super, context, perform, register_document, run_constructor, run_method, start_variable, without_value}
use Rattle.flex_meaning.specs.Trace.{play, source_trace, told}
use Rattle.flex_meaning.specs.Turns.{activity, leave, spend}
use Rattle.flex_meaning.specs.World.{World, empty_world, note}
use Rattle.flex_meaning.specs.Writes.{assign}

module _ (p : Program) (fine : is_fine p ≡ true) where
  -- The properties that a class declares itself

  own_named : (pre : List Field) (vs : List Variable) (rest fields : List Field) → pre ++ (map variable_field vs ++ rest) ≡ fields → are_distinct (map (λ f. f.name) fields) ≡ true → All (λ v. field_named v.name fields ≡ Some (variable_field v)) vs
  own_named pre [] rest fields e d = tt
  own_named pre (v ∷ vs) rest fields e d =
      let here : field_named v.name (variable_field v ∷ (map variable_field vs ++ rest)) ≡ Some (variable_field v) = ap (λ b. if b then Some (variable_field v) else field_named v.name (map variable_field vs ++ rest)) (text_itself v.name) in (
        ap (field_named v.name) (sym e) ∙ found_behind p v.name pre (variable_field v ∷ (map variable_field vs ++ rest)) (variable_field v) (subst (λ l. are_distinct (map (λ f. f.name) l) ≡ true) (sym e) d) here,
        own_named (pre ++ variable_field v ∷ []) vs rest fields (append_assoc pre (variable_field v ∷ []) (map variable_field vs ++ rest) ∙ e) d,
      )

  own_kept : (k : ℕ) (x : SourceClass) → slice_get p.classes k ≡ Some x → All (λ v. can_write p (Class.File k) v.name ≡ true) x.variables
  own_kept k x e =
      let fields : map variable_field x.variables ++ flat_map (own_fields p) (upward_in (bases p) (length (bases p) + 3) (base_in (bases p) (Class.File k))) ≡ fields_of p (Class.File k) =
      sym (ap (flat_map (own_fields p)) (lineage_is p (Class.File k)) ∙ ap (λ o. map variable_field (unwrap_or (option_map (λ (class : SourceClass). class.variables) o) []) ++ flat_map (own_fields p) (upward_in (bases p) (length (bases p) + 3) (base_in (bases p) (Class.File k)))) e) in
      all_map _ _ x.variables (λ v g. ap (λ y. is_some (option_and_then (λ f. if can_be_written f then Some f.type else None) y)) g) (own_named [] x.variables _ (fields_of p (Class.File k)) fields (both_true p _ _ (fine_names p fine k x e)).0)

  -- No document is a base

  plain_base : (a b : Class) → base_in (bases p) a ≡ Some b → document_of p b ≡ None
  plain_base a b e = base_plain p fine a b e

  above_plain : (m : ℕ) (b a : Class) → list_any (same_class a) (upward_in (bases p) m (base_in (bases p) b)) ≡ true → document_of p a ≡ None
  above_plain zero b a e = absurd (true≢false (sym e))
  above_plain (suc m) b a e = by (base_in (bases p) b) refl e (λ d. above_plain m d a)
    where
      by : (x : Option Class) → base_in (bases p) b ≡ x → list_any (same_class a) (upward_in (bases p) (suc m) x) ≡ true → ((d : Class) → list_any (same_class a) (upward_in (bases p) m (base_in (bases p) d)) ≡ true → document_of p a ≡ None) → document_of p a ≡ None
      by None g h rest = absurd (true≢false (sym h))
      by (Some d) g h rest = one (same_class a d) refl h
        where
          one : (y : Bool) → same_class a d ≡ y → (y || list_any (same_class a) (upward_in (bases p) m (base_in (bases p) d))) ≡ true → document_of p a ≡ None
          one true s h1 = ap (document_of p) (same_class_is a d s) ∙ plain_base b d g
          one false s h1 = rest d h1

  -- an object of the class of a document is of that class itself
  exact_class : (k a : Class) (d : Document) → descends (bases p) k a ≡ true → document_of p a ≡ Some d → k ≡ a
  exact_class k a d e h = by (same_class a k) refl (sym (ap (list_any (same_class a)) (lineage_is p k)) ∙ e)
    where
      clash : document_of p a ≡ None → ⊥
      clash g = one (sym h ∙ g)
        where
          one : Some d ≡ None → ⊥
          one i = cc

      by : (y : Bool) → same_class a k ≡ y → (y || list_any (same_class a) (upward_in (bases p) (length (bases p) + 3) (base_in (bases p) k))) ≡ true → k ≡ a
      by true s h1 = sym (same_class_is a k s)
      by false s h1 = absurd (clash (above_plain (length (bases p) + 3) k a h1))

  valueless_safe : (os : List Object) (r : Result (Unit {0})) → Safe p false os r (λ _ _. Unit {0}) → Safe p false os (bind r (λ _ w1. Goes value.Undefined w1)) (λ _ _. Unit {0})
  valueless_safe os r s = safe_bind p s (λ _ w1 l _. safe_done p {w = w1} l.typed tt)

  -- an activity whose world holds once it has begun
  entered_safe : {A : Type 0} {P : A → List Object → Type 0} (body : World → Result A) (w : World) → ((t : ℕ) → Safe p false w.objects (body (record w { turns = t; level = suc w.level })) P) → Safe p false w.objects (activity body w) P
  entered_safe {A} {P} body w s = by (nat_lt w.level 256) w.turns
    where
      by : (b : Bool) (t : ℕ) → Safe p false w.objects (bind (if b then bind (spend t w) (λ _ w1. done (record w1 { level = suc w1.level })) else stops stop.Depth w) (λ _ w1. bind (body w1) (λ v w2. Goes v (leave w2)))) P
      by true zero = safe_spent p
      by true (suc t) = safe_bind p (s t) (λ v w2 l h. safe_done p {w = leave w2} l.typed h)
      by false t = safe_stop p

  registered_still : (d : Option Document) (o : ObjId) (t l : ℕ) (w : World) → Typed p (register_document d o w) → Typed p (register_document d o (record w { turns = t; level = l }))
  registered_still None o t l w h = h
  registered_still (Some d) o t l w h = h

  module _ (n : ℕ) (does : Does) (law : Kept p does) where
    abbrev c : Context
    c = context p n does

    method_safe : (m : ℕ) (o : ObjId) (vs : List Value) (k : Class) (w : World) → kind_at w.objects o ≡ Some (Instance_of k) → (r : CanRun p k m) → AreOf p w.objects vs r.method.parameters → Typed p w → Safe p false w.objects (run_method c m o vs w) (λ v os. OfType p os v (value_type r.method.result))
    method_safe m o vs k w at r a ty =
        safe_found p (slice_get p.methods m) w _ r.method r.here (run_safe p fine n does law r.method r.owner o vs w r.fine (record { class = k; at = at; is = r.is }) a ty)

    -- Constructors

    variable_safe : (k : ℕ) (o : ObjId) (x : SourceClass) (v : Variable) (w : World) → is_fine_variable p (Class.File k) v ≡ true → can_write p (Class.File k) v.name ≡ true → IsA p w.objects o (Class.File k) → Typed p w → Safe p false w.objects (start_variable c o v.name v.start w) (λ _ _. Unit {0})
    variable_safe k o x v w e g i ty = by v.start (both_true p (is_named v.type) (optional_fine p (record { this = Class.File k; locals = [] }) v.start) e).1
      where
        by : (s : Option Expr) → optional_fine p (record { this = Class.File k; locals = [] }) s ≡ true → Safe p false w.objects (start_variable c o v.name s w) (λ _ _. Unit {0})
        by None f = safe_done p {w = w} ty tt
        by (Some s) f =
            let t = some_is (type_of p (record { this = Class.File k; locals = [] }) s) f in
            let u = some_is (written_type p (Class.File k) v.name) g in
            safe_bind p (eval_safe p fine n does law false (record { this = Class.File k; locals = [] }) s t.0 t.1 (record { this = o; locals = [] }) w (i, tt) ty)
            (λ y w1 l z. assign_safe p fine n does law o (Class.File k) v.name u.0 y w1 (isa_later p l.later i) u.1 (valid_of p z) l.typed)

    variables_safe : (k : ℕ) (o : ObjId) (x : SourceClass) (vs : List Variable) (w : World) → All (λ v. (is_fine_variable p (Class.File k) v ≡ true) × (can_write p (Class.File k) v.name ≡ true)) vs → IsA p w.objects o (Class.File k) → Typed p w
        → Safe p false w.objects (each (λ v. start_variable c o v.name v.start) vs w) (λ _ _. Unit {0})
    variables_safe k o x vs w a i ty =
        safe_each p (λ v os. ((is_fine_variable p (Class.File k) v ≡ true) × (can_write p (Class.File k) v.name ≡ true)) × IsA p os o (Class.File k)) (λ v os os1 l g. (g.0, isa_later p l g.1)) (λ v. start_variable c o v.name v.start)
        (λ v w1 g ty1. variable_safe k o x v w1 g.0.0 g.0.1 g.1 ty1) vs w (all_map _ _ vs (λ v g. (g, i)) a) ty

    base_safe : (k : ℕ) (o : ObjId) (base : Option Class) (w : World) → base_in (bases p) (Class.File k) ≡ base → base_takes p base 0 ≡ true → IsA p w.objects o (Class.File k) → Typed p w → Safe p false w.objects (construct_unless_super c base o w) (λ _ _. Unit {0})
    base_safe k o None w e g i ty = safe_done p {w = w} ty tt
    base_safe k o (Some (Class.Native b)) w e g i ty = safe_done p {w = w} ty tt
    base_safe k o (Some (Class.File j)) w e g i ty =
        let a = both_true p (is_some (class_name p (Class.File j))) (constructor_accepts p (Class.File j) 0) g in
        let s = some_is (class_name p (Class.File j)) a.0 in
        let x = map_is (λ (z : SourceClass). z.name) (slice_get p.classes j) s.0 s.1 in
        safe_bind p (law.constructs j o [] x.0 w x.1 (record { class = i.class; at = i.at; is = above p fine i.class (Class.File k) (Class.File j) i.is (base_above p (Class.File k) (Class.File j) e) })
        (λ y f m h. nothing m.parameters (subst (λ z. holds (λ (x1 : Method). 0 == length x1.parameters) z ≡ true) h (subst (λ z. written_accepts p z 0 ≡ true) f a.1)))
        (subst (λ d. Typed p (register_document d o w)) (sym (plain_base (Class.File k) (Class.File j) e)) ty))
        (λ _ w1 l _. safe_done p {w = w1} l.typed tt)
      where
        nothing : (ts : List StaticType) → (0 == length ts) ≡ true → AreOf p w.objects [] ts
        nothing [] h = tt
        nothing (t ∷ ts) h = absurd (too_many (length ts) h)
          where
            too_many : (m : ℕ) → (0 == suc m) ≡ true → ⊥
            too_many m g1 = grind arith

    constructor_safe : (k : ℕ) (o : ObjId) (base : Option Class) (x : Option Constructor) (vs : List Value) (w : World) → base_in (bases p) (Class.File k) ≡ base → constructor_of p (Class.File k) ≡ x → is_fine_written p (Class.File k) base x ≡ true → FitConstructor p w.objects k vs → IsA p w.objects o (Class.File k) → Typed p w
        → Safe p false w.objects (run_constructor c base x o vs w) (λ _ _. Unit {0})
    constructor_safe k o base None vs w e f g a i ty = base_safe k o base w e g i ty
    constructor_safe k o base (Some x) vs w e f g a i ty =
        let b = both_true p (holds (is_fine_method p (Class.File k)) (method_numbered p x.method)) (x.calls_super || base_takes p base 0) g in
        let m = held p (is_fine_method p (Class.File k)) (method_numbered p x.method) b.0 in
        safe_bind p (safe_choose p x.calls_super done (construct_unless_super c base o) w (λ _. safe_done p {w = w} ty tt) (λ h. base_safe k o base w e (either x.calls_super (base_takes p base 0) h b.1) i ty))
        (λ _ w1 l _. safe_bind p (safe_found p (slice_get p.methods x.method) w1 _ m.0 m.1 (run_safe p fine n does law m.0 (Class.File k) o vs w1 m.2 (isa_later p l.later i) (are_later p l.later vs m.0.parameters (a x f m.0 m.1)) l.typed))
        (λ _ w2 l2 _. safe_done p {w = w2} l2.typed tt))
      where
        either : (y z : Bool) → y ≡ false → (y || z) ≡ true → z ≡ true
        either true z h1 h2 = absurd (true≢false h1)
        either false z h1 h2 = h2

    document_if_safe : (k : ℕ) (o : ObjId) (x : Option Document) (w : World) → document_of p (Class.File k) ≡ x → IsA p w.objects o (Class.File k) → Typed p w → Safe p false w.objects (build_if_document c x o w) (λ _ _. Unit {0})
    document_if_safe k o None w e i ty = safe_done p {w = w} ty tt
    document_if_safe k o (Some d) w e i ty =
        safe_bind p (law.documents o (Class.File k) d w (record { at = subst (λ a. kind_at w.objects o ≡ Some (Instance_of a)) (exact_class i.class (Class.File k) d i.is e) i.at; is = e }) ty) (λ _ w1 l _. safe_done p {w = w1} l.typed tt)

    class_safe : (k : ℕ) (o : ObjId) (x : SourceClass) (vs : List Value) (w : World) → slice_get p.classes k ≡ Some x → FitConstructor p w.objects k vs → IsA p w.objects o (Class.File k) → Typed p (register_document x.document o w) → Safe p false w.objects (construct_class c x o vs w) (λ _ _. Unit {0})
    class_safe k o x vs w e a i ty = by x.document ty
      where
        both : (vs1 : List Variable) → All (λ v. is_fine_variable p (Class.File k) v ≡ true) vs1 → All (λ v. can_write p (Class.File k) v.name ≡ true) vs1 → All (λ v. (is_fine_variable p (Class.File k) v ≡ true) × (can_write p (Class.File k) v.name ≡ true)) vs1
        both [] h j = tt
        both (v ∷ vs1) h j = ((h.0, j.0), both vs1 h.1 j.1)

        started : (w0 : World) → FitConstructor p w0.objects k vs → IsA p w0.objects o (Class.File k) → Typed p w0
            → Safe p false w0.objects (bind (each (λ v. start_variable c o v.name v.start) x.variables w0) (λ _ w1. bind (run_constructor c x.base x.constructor o vs w1) (λ _ w2. build_if_document c x.document o w2))) (λ _ _. Unit {0})
        started w0 a0 i0 ty0 =
            let f0 = both_true p _ _ (fine_class p fine k x e) in
            let f1 = both_true p _ (is_fine_constructor p (Class.File k) x.base x.constructor) f0.0 in
            let f2 = both_true p _ _ f1.0 in
            let f3 = both_true p _ (list_all (is_fine_variable p (Class.File k)) x.variables) f2.0 in
            let g = both_true p (is_plain_base p x.base) (is_fine_written p (Class.File k) x.base x.constructor) f1.1 in
            let base : base_in (bases p) (Class.File k) ≡ x.base = ap (option_and_then (λ (y : Option Class). y)) (mapped_get p (λ (y : SourceClass). y.base) p.classes k ∙ ap (option_map (λ (y : SourceClass). y.base)) e) in
            safe_bind p (variables_safe k o x x.variables w0 (both x.variables (all_passing _ x.variables f3.1) (own_kept k x e)) i0 ty0)
            (λ _ w1 l1 _. safe_bind p (constructor_safe k o x.base x.constructor vs w1 base (ap (option_and_then (λ (y : SourceClass). y.constructor)) e) g.1 (λ y h m j. are_later p l1.later vs m.parameters (a0 y h m j)) (isa_later p l1.later i0) l1.typed)
            (λ _ w2 l2 _. document_if_safe k o x.document w2 (ap (option_and_then (λ (y : SourceClass). y.document)) e) (isa_later p (later_then p l1.later l2.later) i0) l2.typed))

        by : (d : Option Document) → Typed p (register_document d o w)
            → Safe p false w.objects (bind (each (λ v. start_variable c o v.name v.start) x.variables (register_document d o w)) (λ _ w1. bind (run_constructor c x.base x.constructor o vs w1) (λ _ w2. build_if_document c x.document o w2))) (λ _ _. Unit {0})
        by None ty1 = started w a i ty1
        by (Some d) ty1 = started (record w { registered = o ∷ w.registered }) a i ty1

    numbered_safe : (k : ℕ) (o : ObjId) (vs : List Value) (x : SourceClass) (w : World) → slice_get p.classes k ≡ Some x → FitConstructor p w.objects k vs → IsA p w.objects o (Class.File k) → Typed p (registered_as p (Class.File k) o w) → Safe p false w.objects (construct_numbered c k o vs w) (λ _ _. Unit {0})
    numbered_safe k o vs x w e a i ty =
        safe_found p (slice_get p.classes k) w _ x e (class_safe k o x vs w e a i (subst (λ d. Typed p (register_document d o w)) (ap (option_and_then (λ (y : SourceClass). y.document)) e) ty))

    -- what each activity does
    performs : Kept p (perform c)
    performs = record {
      calls = λ m o vs k w at r a ty. activity_safe p (run_method c m o vs) w ty (λ w1 l. method_safe m o vs k w1 (l.later.kinds o _ at) r (are_later p l.later vs r.method.parameters a) l.typed);
      constructs = λ k o vs x w e i a ty. entered_safe (without_value (construct_numbered c k o vs)) w
          (λ t. valueless_safe w.objects _ (numbered_safe k o vs x (record w { turns = t; level = suc w.level }) e a i (registered_still (document_of p (Class.File k)) o t (suc w.level) w ty)));
      documents = λ o class d w is ty. activity_safe p _ w ty (λ w1 l. valueless_safe w1.objects _ (document_safe p fine n does law class d (document_fine p class d (fine_document p fine class d is.is)) o w1 (document_later p l.later is) l.typed));
      instances = λ o number class d i w is e m ty. activity_safe p _ w ty (λ w1 l.
          let h = document_fine p class d (fine_document p fine class d is.is) in
          instance_safe p fine n does law class d h o number i w1 e (numbered_fine p fine n does law class d h o number i e) m (document_later p l.later is) l.typed);
      hears = λ a kind l vs k w at r h ty. activity_safe p _ w ty (λ w1 f.
          safe_map p (method_safe l.method l.object vs k (note (Heard a.node kind (phase_number a.phase)) w1) (f.later.kinds l.object _ at) r (are_later p f.later vs r.method.parameters h) f.typed) (λ _ _ _ _. tt));
      bindings = λ o number class d b w is e ty. activity_safe p _ w ty (λ w1 l. valueless_safe w1.objects _ (run_binding_safe p fine n does law o number class d b w1 (document_later p l.later is) e l.typed));
      leaves = λ o class d next w is st ty. activity_safe p _ w ty (λ w1 l. valueless_safe w1.objects _ (leave_state_safe p fine n does law class d (document_fine p class d (fine_document p fine class d is.is)) o next w1 (document_later p l.later is) (l.later.states o st) l.typed));
      enters = λ o class d name s w is e ty. activity_safe p _ w ty (λ w1 l. valueless_safe w1.objects _ (enter_named_safe p fine n does law class d (document_fine p class d (fine_document p fine class d is.is)) o name s w1 e (document_later p l.later is) l.typed));
    }

  kept_at : (n : ℕ) → Kept p (activities p n)
  kept_at zero = record {
    calls = λ m o vs k w at r a ty. safe_spent p;
    constructs = λ k o vs x w e i a ty. safe_spent p;
    documents = λ o class d w is ty. safe_spent p;
    instances = λ o number class d i w is e m ty. safe_spent p;
    hears = λ a kind l vs k w at r h ty. safe_spent p;
    bindings = λ o number class d b w is e ty. safe_spent p;
    leaves = λ o class d next w is st ty. safe_spent p;
    enters = λ o class d name s w is e ty. safe_spent p;
  }
  kept_at (suc n) = performs n (λ t w1. activities p n t w1) (kept_at n)

  -- The script

  toggle_written : written_type p (Class.Native native.ToggleButton) (codes "selected") ≡ Some StaticType.Boolean
  toggle_written = subst (λ m. option_and_then (λ f. if can_be_written f then Some f.type else None) (field_named (codes "selected") (flat_map (own_fields p) (upward_in (bases p) m (Some (Class.Native native.ToggleButton))))) ≡ Some StaticType.Boolean) (four_more p) refl

  box_written : written_type p (Class.Native native.CheckBox) (codes "selected") ≡ Some StaticType.Boolean
  box_written = subst (λ m. option_and_then (λ f. if can_be_written f then Some f.type else None) (field_named (codes "selected") (flat_map (own_fields p) (upward_in (bases p) m (Some (Class.Native native.CheckBox))))) ≡ Some StaticType.Boolean) (four_more p) refl

  input_written : written_type p (Class.Native native.TextInput) (codes "text") ≡ Some StaticType.String
  input_written = subst (λ m. option_and_then (λ f. if can_be_written f then Some f.type else None) (field_named (codes "text") (flat_map (own_fields p) (upward_in (bases p) m (Some (Class.Native native.TextInput))))) ≡ Some StaticType.String) (four_more p) refl

  is_native : (a : NativeClass) (x : Object) → is_of_native p a x ≡ true → (k : Class) × (x.kind ≡ Instance_of k) × (descends (bases p) k (Class.Native a) ≡ true)
  is_native a x e = by (object_class x) refl e
    where
      by : (k : Option Class) → object_class x ≡ k → unwrap_or (option_map (descends_from (bases p) a) k) false ≡ true → (k : Class) × (x.kind ≡ Instance_of k) × (descends (bases p) k (Class.Native a) ≡ true)
      by None g h = absurd (true≢false (sym h))
      by (Some k) g h = (k, kind_is x.kind k g, h)

  isa_native : (a : NativeClass) (os : List Object) (o : ObjId) (x : Object) → object_at os o ≡ Some x → is_of_native p a x ≡ true → IsA p os o (Class.Native a)
  isa_native a os o x here e = let k = is_native a x e in record { class = k.0; at = ap (option_map (λ (y : Object). y.kind)) here ∙ ap Some k.1; is = k.2 }

  -- a path reaches an object that is there
  reached_exists : (os : List Object) (main : ObjId) (path : List (List ℕ)) (o : ObjId) → reached p os main path ≡ Some o → Exists p os o
  reached_exists os main path o e =
      let x = then_is (usable p os main) (follow os path (Some main)) o e in
      let y = then_is (λ z. if is_usable p os main x.0 z then Some x.0 else None) (object_at os x.0) o x.2 in
      let g = if_is (is_usable p os main x.0 y.0) (Some x.0) o y.2 in
      record { kind = y.0.kind; at = ap (λ j. option_map (λ (z : Object). z.kind) (object_at os j)) (sym (same_some _ _ g.1)) ∙ ap (option_map (λ (z : Object). z.kind)) y.1 }

  module _ (n : ℕ) (does : Does) (law : Kept p does) where
    abbrev script : Context
    script = context p n does

    event_class : (a : NativeClass) → base_in (bases p) (Class.Native a) ≡ Some (Class.Native native.Event) → descends (bases p) (Class.Native a) (Class.Native native.Event) ≡ true
    event_class a e = base_above p (Class.Native a) (Class.Native native.Event) e

    change_safe : (o : ObjId) (w : World) → Exists p w.objects o → Typed p w → Safe p false w.objects (send_change script o w) (λ _ _. Unit {0})
    change_safe o w x ty = safe_bind p (send_safe p fine n does law change o w (descends_itself p (Class.Native native.Event)) x ty) (λ _ w1 l _. safe_done p {w = w1} l.typed tt)

    -- a property of a class of the catalog is written, and a change is sent
    written_safe : (a : NativeClass) (name : List ℕ) (t : StaticType) (o : ObjId) (v : Value) (w : World) → written_type p (Class.Native a) name ≡ Some t → IsA p w.objects o (Class.Native a) → Valid p w.objects v → Typed p w → Safe p false w.objects (bind (assign script o name v w) (λ _ w2. send_change script o w2)) (λ _ _. Unit {0})
    written_safe a name t o v w e i k ty =
        safe_bind p (assign_safe p fine n does law o (Class.Native a) name t v w i e k ty) (λ _ w1 l _. change_safe o w1 (record { kind = Instance_of i.class; at = l.later.kinds o _ i.at }) l.typed)

    toggle_safe : (o : ObjId) (w : World) → Exists p w.objects o → Typed p w → Safe p false w.objects (toggle script o w) (λ _ _. Unit {0})
    toggle_safe o w x ty =
        safe_on p o w x.kind _ x.at ty
        (λ y here same th. safe_choose p (toggles script y) _ done w
        (λ g. by y here (is_of_native p native.ToggleButton y) refl g)
        (λ _. safe_done p {w = w} ty tt))
      where
        by : (y : Object) → object_at w.objects o ≡ Some y → (b : Bool) → is_of_native p native.ToggleButton y ≡ b → (b || is_of_native p native.CheckBox y) ≡ true
            → Safe p false w.objects (bind (assign script o (codes "selected") (value.Bool (not (has_flag (codes "selected") y))) w) (λ _ w2. send_change script o w2)) (λ _ _. Unit {0})
        by y here true e g = written_safe native.ToggleButton (codes "selected") StaticType.Boolean o _ w toggle_written (isa_native native.ToggleButton w.objects o y here e) (A_bool _) ty
        by y here false e g = written_safe native.CheckBox (codes "selected") StaticType.Boolean o _ w box_written (isa_native native.CheckBox w.objects o y here g) (A_bool _) ty

    miss_safe : (path : List (List ℕ)) (w : World) → Typed p w → Safe p false w.objects (miss path w) (λ _ _. Unit {0})
    miss_safe path w ty = safe_done p {w = note (Missed (path_text path)) w} ty tt

    click_safe : (path : List (List ℕ)) (o : Option ObjId) (w : World) → ((x : ObjId) → o ≡ Some x → Exists p w.objects x) → Typed p w → Safe p false w.objects (click_on script path o w) (λ _ _. Unit {0})
    click_safe path None w x ty = miss_safe path w ty
    click_safe path (Some o) w x ty =
        let k = x o refl in
        safe_bind p (send_safe p fine n does law click o w (event_class native.MouseEvent refl) k ty)
        (λ left w1 l _. safe_choose p left (toggle script o) done w1 (λ _. toggle_safe o w1 (record { kind = k.kind; at = l.later.kinds o _ k.at }) l.typed) (λ _. safe_done p {w = w1} l.typed tt))

    type_safe : (path : List (List ℕ)) (text : List ℕ) (o : Option ObjId) (w : World) → ((x : ObjId) → o ≡ Some x → Exists p w.objects x) → Typed p w → Safe p false w.objects (type_at script path text o w) (λ _ _. Unit {0})
    type_safe path text None w x ty = miss_safe path w ty
    type_safe path text (Some o) w x ty =
        let k = x o refl in
        safe_on p o w k.kind _ k.at ty
        (λ y here same th. safe_choose p (takes_text script y) _ (miss path) w
        (λ g. written_safe native.TextInput (codes "text") StaticType.String o (value.Text text) w input_written (isa_native native.TextInput w.objects o y here (both_true p (is_of_native p native.TextInput y) (has_flag (codes "editable") y) g).0) (A_text text) ty)
        (λ _. miss_safe path w ty))

    event_safe : (main : ObjId) (e : UserEvent) (w : World) → Exists p w.objects main → Typed p w → Safe p false w.objects (play_event script main e w) (λ _ _. Unit {0})
    event_safe main (user.Click path line) w x ty = click_safe path (reached p w.objects main path) (note (User line) w) (λ o g. reached_exists w.objects main path o g) ty
    event_safe main (user.Write path text line) w x ty = type_safe path text (reached p w.objects main path) (note (User line) w) (λ o g. reached_exists w.objects main path o g) ty
    event_safe main (user.State state line) w x ty = request_safe p fine n does law main (value.Text state) (note (User line) w) x ty

    play_safe : (events : List UserEvent) (w : World) → Typed p w → Safe p false w.objects (play script events w) (λ _ _. Unit {0})
    play_safe events w ty =
        safe_bind p (make_safe p fine n does law (Class.File p.main) [] w (both_true p _ (can_make p (Class.File p.main) 0) fine).1 tt ty)
        (λ main w1 l1 at. safe_bind p (announce_safe p fine n does law creation_complete main w1 (event_class native.FlexEvent refl) (record { kind = _; at = at }) l1.typed)
        (λ _ w2 l2 _. safe_each p (λ _ os. Exists p os main) (λ _ os os1 l h. record { kind = h.kind; at = l.kinds main _ h.at }) (play_event script main) (λ e w3 h ty3. event_safe main e w3 h ty3) events w2 (every events (record { kind = _; at = l2.later.kinds main _ at })) l2.typed))
      where
        every : {os : List Object} {main : ObjId} (es : List UserEvent) → Exists p os main → All (λ _. Exists p os main) es
        every [] h = tt
        every (e ∷ es) h = (h, every es h)

  told_safe : (os : List Object) (r : Result (Unit {0})) → Safe p false os r (λ _ _. Unit {0}) → is_some (told r) ≡ true
  told_safe os (Goes v w) s = refl
  told_safe os (Halts o w) s = refl
  told_safe os (Ends w) s = absurd (true≢false (sym s.holds.0))
  told_safe os (Stuck w) s = absurd s.holds

  nothing_made : (m : ℕ) (k : Kind) → option_map (λ (x : Object). x.kind) (entry [] m) ≡ Some k → ⊥
  nothing_made zero k e = cc
  nothing_made (suc m) k e = cc

  fine_trace : (events : List UserEvent) (turns : ℕ) → is_some (source_trace p events turns) ≡ true
  fine_trace events turns =
      told_safe [] _ (play_safe (suc turns) (activities p (suc turns)) (kept_at (suc turns)) events (empty_world turns) (tt, tt, tt, tt, tt, λ o class d at is. absurd (nothing_made o.0 (Instance_of class) at)))

-- a fine program is never stuck
pub never_stuck : NeverStuck
never_stuck p fine events turns = fine_trace p fine events turns
