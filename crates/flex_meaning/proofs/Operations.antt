-- The operations on values and worlds keep what holds.
use Rattle.std.proofs.Common.{List, [], ap, not, refl, subst, suc, sym, true≢false, zero, ℕ, ◌&&◌, ◌++◌, ◌||◌, ◌∙◌, ◌∷◌, ◌≡◌}
use Rattle.std.specs.List.{flat_map, list_all}
use Rattle.std.specs.Prelude.{Bool, Err, None, Ok, Option, Some, codes, false, if◌then◌else◌, length, map, nat_le, option_and_then, option_map, slice_get, true, unwrap_or, ℤ}
use Rattle.std.specs.Prelude.{Result as Computed}
use Rattle.std.specs.Str.{bytes_eq}
use Rattle.flex_base.specs.Value.{add, add_whole, and_then, coerce_text, equal, is_nothing, is_text, joined_text, less, modulo, most_text, multiply, negate, subtract, to_text}
use Rattle.flex_base.specs.declared.outcome.Stop.{Stop}
use Rattle.flex_base.specs.declared.outcome.Stop.TheVariants as stop
use Rattle.flex_base.specs.declared.value.ObjId.{ObjId}
use Rattle.flex_base.specs.declared.value.Value.{Value}
use Rattle.flex_base.specs.declared.value.Value.TheVariants as value
use Rattle.component_catalog.specs.Classes.{or_else}
use Rattle.component_catalog.specs.Methods.{element}
use Rattle.component_catalog.specs.declared.class.NativeClass.{NativeClass}
use Rattle.component_catalog.specs.declared.class.NativeClass.TheVariants as native
use Rattle.flex_world.specs.Classes.{lineage_in, static_type}
use Rattle.flex_world.specs.declared.kind.Class.{Class}
use Rattle.flex_world.specs.declared.kind.StaticType.{StaticType}
use Rattle.flex_world.specs.Making.{native_fields, new_object, start_of_type}
use Rattle.flex_world.specs.Objects.{An_array, Field, Instance_of, Object, can_be_written, computed_property, count, field_named, property, property_or, ref_or_null}
use Rattle.flex_world.specs.Operators.{negated, on_ints, operate, truth, untruth, whole}
use Rattle.flex_world.specs.declared.operator.Operator.{Operator}
use Rattle.flex_program.proofs.ClassLaws.{both_true, fine_class, same_text}
use Rattle.flex_program.proofs.Inverted.{All, all_append, all_found, if_is, map_is, same_some, then_is}
use Rattle.flex_program.specs.Classes.{bases, fields_of, own_fields, own_variables, variable_field}
use Rattle.flex_program.specs.Fine.{computed_type, is_fine, is_fine_variable, is_named, is_string, is_whole, kept_type, literal_type, optional_fine, property_type, result_type, sum_type, written_type}
use Rattle.flex_program.specs.Program.{Literal, Program, SourceClass, Variable}
use Rattle.flex_meaning.proofs.Holding.{A_null, AllFields, AreOf, FitsKind, IsComponent, OfType, ParentFine, T_any, T_bool, T_int, T_no_array, T_no_object, T_no_text, T_object, T_text, TypedObject, Valid, kept_in, shape, shape_in}
use Rattle.flex_meaning.proofs.Keeping.{Good, valid_of}
use Rattle.flex_meaning.specs.Expressions.{literal_value}

module _ (p : Program) where
  -- Values

  good_then : {A B : Type 0} {Q : B → Type 0} (x : Computed A Stop) (f : A → Computed B Stop) → ((v : A) → Good p (f v) Q) → Good p (and_then x f) Q
  good_then (Ok v) f h = h v
  good_then (Err cause) f h = record { holds = tt }

  good_if : {A : Type 0} {Q : A → Type 0} (b : Bool) (v : A) (cause : Stop) → Q v → Good p (if b then Ok v else Err cause) Q
  good_if true v cause h = record { holds = h }
  good_if false v cause h = record { holds = tt }

  good_either : {A : Type 0} {Q : A → Type 0} (b : Bool) (x y : Computed A Stop) → Good p x Q → Good p y Q → Good p (if b then x else y) Q
  good_either true x y h k = h
  good_either false x y h k = k

  module _ (os : List Object) where
    pub whole_good : (n : Computed ℤ Stop) → Good p (whole n) (λ v. OfType p os v StaticType.Int)
    whole_good (Ok n) = record { holds = T_int n }
    whole_good (Err cause) = record { holds = tt }

    ints_good : (f : ℤ → ℤ → Computed ℤ Stop) (x y : Value) → Good p (on_ints f x y) (λ v. OfType p os v StaticType.Int)
    ints_good f (value.Int a) (value.Int b) = whole_good (f a b)
    ints_good f _ _ = record { holds = tt }

    as_text_good : (x : Computed (List ℕ) Stop) → Good p (and_then x (λ text. Ok (value.Text text))) (λ v. OfType p os v StaticType.String)
    as_text_good x = good_then x _ (λ text. record { holds = T_text text })

    pub coerce_text_good : (v : Value) → Good p (coerce_text v) (λ x. OfType p os x StaticType.String)
    coerce_text_good v = good_either (is_nothing v) _ _ (record { holds = T_no_text }) (as_text_good (to_text v))

    pub negated_good : (v : Value) → Good p (negated v) (λ x. OfType p os x StaticType.Int)
    negated_good (value.Int n) = whole_good (negate n)
    negated_good _ = record { holds = tt }

    join_good : (a b : Value) → Good p (joined_text a b) (λ v. OfType p os v StaticType.String)
    join_good a b = good_then (to_text a) _ (λ s. good_then (to_text b) _ (λ t. good_if (nat_le (length (s ++ t)) most_text) (value.Text (s ++ t)) stop.TextLength (T_text (s ++ t))))

    joined_good : (a b : Value) → Good p (if is_text a || is_text b then joined_text a b else Err stop.Kind) (λ v. OfType p os v StaticType.String)
    joined_good a b = good_either (is_text a || is_text b) _ _ (join_good a b) (record { holds = tt })

    good_more : {A : Type 0} {Q R : A → Type 0} (x : Computed A Stop) → Good p x Q → ((v : A) → Q v → R v) → Good p x R
    good_more (Ok v) g f = record { holds = f v g.holds }
    good_more (Err cause) g f = record { holds = tt }

    add_good : (a b : Value) → Good p (add a b) (λ v. Valid p os v)
    add_good (value.Int a) (value.Int b) = good_more _ (whole_good (add_whole a b)) (λ v. valid_of p)
    add_good a b = good_more _ (joined_good a b) (λ v. valid_of p)

    not_int : Value → Bool
    not_int (value.Int n) = false
    not_int _ = true

    add_string : (a b : Value) → (not_int a || not_int b) ≡ true → Good p (add a b) (λ v. OfType p os v StaticType.String)
    unfolding not_int
    add_string (value.Int a) (value.Int b) e = absurd (true≢false (sym e))
    add_string a b e = joined_good a b

    string_not_int : {v : Value} {t : StaticType} → OfType p os v t → is_string t ≡ true → not_int v ≡ true
    unfolding not_int
    string_not_int (T_text s) e = refl
    string_not_int T_no_text e = refl
    string_not_int _ e = absurd (true≢false (sym e))

    add_ints : {a b : Value} {t u : StaticType} → OfType p os a t → OfType p os b u → is_whole t ≡ true → is_whole u ≡ true → Good p (add a b) (λ v. OfType p os v StaticType.Int)
    add_ints (T_int a) (T_int b) e h = whole_good (add_whole a b)
    add_ints (T_int a) _ e h = absurd (true≢false (sym h))
    add_ints _ _ e h = absurd (true≢false (sym e))

    -- a sum of something that is no whole number is a text
    sum_good : {a b : Value} {t u : StaticType} → OfType p os a t → OfType p os b u → Good p (add a b) (λ v. OfType p os v (sum_type t u))
    sum_good {a} {b} {t} {u} g h = by (is_whole t) (is_whole u) (is_string t) (is_string u) refl refl refl refl
      where
        by : (x y m n : Bool) → is_whole t ≡ x → is_whole u ≡ y → is_string t ≡ m → is_string u ≡ n → Good p (add a b) (λ v. OfType p os v (if x && y then StaticType.Int else if m || n then StaticType.String else StaticType.Any))
        by true true m n e1 e2 e3 e4 = add_ints g h e1 e2
        by true false true n e1 e2 e3 e4 = add_string a b (ap (λ z. z || not_int b) (string_not_int g e3))
        by false y true n e1 e2 e3 e4 = add_string a b (ap (λ z. z || not_int b) (string_not_int g e3))
        by true false false true e1 e2 e3 e4 = add_string a b (ap (λ z. not_int a || z) (string_not_int h e4) ∙ either (not_int a))
          where
            either : (z : Bool) → (z || true) ≡ true
            either true = refl
            either false = refl
        by false y false true e1 e2 e3 e4 = add_string a b (ap (λ z. not_int a || z) (string_not_int h e4) ∙ either (not_int a))
          where
            either : (z : Bool) → (z || true) ≡ true
            either true = refl
            either false = refl
        by true false false false e1 e2 e3 e4 = good_more _ (add_good a b) (λ v k. T_any v k)
        by false y false false e1 e2 e3 e4 = good_more _ (add_good a b) (λ v k. T_any v k)

    truth_good : (x : Computed Bool Stop) → Good p (truth x) (λ v. OfType p os v StaticType.Boolean)
    truth_good x = good_then x _ (λ b. record { holds = T_bool b })

    untruth_good : (x : Computed Bool Stop) → Good p (untruth x) (λ v. OfType p os v StaticType.Boolean)
    untruth_good x = good_then x _ (λ b. record { holds = T_bool _ })

    pub operate_good : (operator : Operator) {a b : Value} {t u : StaticType} → OfType p os a t → OfType p os b u → Good p (operate operator a b) (λ v. OfType p os v (result_type operator t u))
    operate_good Operator.Plus g h = sum_good g h
    operate_good Operator.Minus {a} {b} g h = ints_good subtract a b
    operate_good Operator.Times {a} {b} g h = ints_good multiply a b
    operate_good Operator.Modulo {a} {b} g h = ints_good modulo a b
    operate_good Operator.Less {a} {b} g h = truth_good (less a b)
    operate_good Operator.LessOrEqual {a} {b} g h = untruth_good (less b a)
    operate_good Operator.Greater {a} {b} g h = truth_good (less b a)
    operate_good Operator.Equal {a} {b} g h = truth_good (equal a b)
    operate_good Operator.Same {a} {b} g h = record { holds = T_bool _ }

    pub literal_typed : (l : Literal) → OfType p os (literal_value l) (literal_type l)
    literal_typed Literal.Null = T_any _ A_null
    literal_typed (Literal.Truth b) = T_bool b
    literal_typed (Literal.Whole n) = T_int n
    literal_typed (Literal.Quoted text) = T_text text

    pub start_typed : (t : StaticType) → is_named t ≡ true → OfType p os (start_of_type t) t
    start_typed StaticType.Int e = T_int _
    start_typed StaticType.Boolean e = T_bool false
    start_typed StaticType.String e = T_no_text
    start_typed StaticType.Array e = T_no_array
    start_typed (StaticType.Object c) e = T_no_object c
    start_typed StaticType.Any e = T_any _ A_null
    start_typed StaticType.Unnamed e = absurd (true≢false (sym e))

    pub all_start : (ts : List StaticType) → list_all is_named ts ≡ true → AreOf p os (map start_of_type ts) ts
    all_start [] e = tt
    all_start (t ∷ ts) e = let x = both_true p (is_named t) (list_all is_named ts) e in (start_typed t x.0, all_start ts x.1)

    pub are_append : (vs : List Value) (ts : List StaticType) (us : List Value) (xs : List StaticType) → AreOf p os vs ts → AreOf p os us xs → AreOf p os (vs ++ us) (ts ++ xs)
    are_append [] [] us xs h k = k
    are_append (v ∷ vs) (t ∷ ts) us xs h k = (h.0, are_append vs ts us xs h.1 k)
    are_append [] (t ∷ ts) us xs h k = absurd h
    are_append (v ∷ vs) [] us xs h k = absurd h

    pub are_valid : (vs : List Value) (ts : List StaticType) → AreOf p os vs ts → All (Valid p os) vs
    are_valid [] [] h = tt
    are_valid (v ∷ vs) (t ∷ ts) h = (valid_of p h.0, are_valid vs ts h.1)
    are_valid [] (t ∷ ts) h = absurd h
    are_valid (v ∷ vs) [] h = absurd h

    pub are_length : (vs : List Value) (ts : List StaticType) → AreOf p os vs ts → length vs ≡ length ts
    are_length [] [] h = refl
    are_length (v ∷ vs) (t ∷ ts) h = ap suc (are_length vs ts h.1)
    are_length [] (t ∷ ts) h = absurd h
    are_length (v ∷ vs) [] h = absurd h

    pub are_get : (vs : List Value) (ts : List StaticType) (i : ℕ) (t : StaticType) → AreOf p os vs ts → slice_get ts i ≡ Some t → (v : Value) × (slice_get vs i ≡ Some v) × OfType p os v t
    are_get [] [] i t h e = absurd (cc)
    are_get (v ∷ vs) (x ∷ ts) zero t h e = (v, refl, subst (λ y. OfType p os v y) (same_some x t e) h.0)
    are_get (v ∷ vs) (x ∷ ts) (suc i) t h e = are_get vs ts i t h.1 e
    are_get [] (x ∷ ts) i t h e = absurd h
    are_get (v ∷ vs) [] i t h e = absurd h

    -- Fields

    natives_typed : (c : NativeClass) → AllFields p os (native_fields c)
    natives_typed native.UIComponent = (T_bool true, (T_bool true, (T_int _, (T_int _, (T_int _, (T_int _, (T_int _, (T_int _, (T_int _, (T_int _, (T_no_text, tt)))))))))))
    natives_typed native.VGroup = (T_int _, tt)
    natives_typed native.HGroup = (T_int _, tt)
    natives_typed native.Panel = (T_text _, tt)
    natives_typed native.Label = (T_text _, tt)
    natives_typed native.Button = (T_text _, tt)
    natives_typed native.ToggleButton = (T_text _, (T_bool false, tt))
    natives_typed native.CheckBox = (T_text _, (T_bool false, tt))
    natives_typed native.TextInput = (T_text _, (T_bool true, tt))
    natives_typed native.Event = (T_no_text, (T_any _ A_null, (T_any _ A_null, (T_int _, (T_bool false, (T_bool false, tt))))))
    natives_typed native.State = (T_no_text, (T_no_text, tt))
    natives_typed _ = tt

    variables_typed : (this : Class) (vs : List Variable) → list_all (is_fine_variable p this) vs ≡ true → AllFields p os (map variable_field vs)
    variables_typed this [] e = tt
    variables_typed this (v ∷ vs) e =
        let x = both_true p (is_fine_variable p this v) (list_all (is_fine_variable p this) vs) e in
        (start_typed v.type (both_true p (is_named v.type) (optional_fine p (record { this = this; locals = [] }) v.start) x.0).0, variables_typed this vs x.1)

    fine_variables : is_fine p ≡ true → (k : ℕ) → list_all (is_fine_variable p (Class.File k)) (own_variables p (Class.File k)) ≡ true
    fine_variables fine k = by (slice_get p.classes k) refl
      where
        by : (x : Option SourceClass) → slice_get p.classes k ≡ x → list_all (is_fine_variable p (Class.File k)) (unwrap_or (option_map (λ c. c.variables) x) []) ≡ true
        by None e = refl
        by (Some x) e = (both_true p _ _ (both_true p _ _ (both_true p _ _ (both_true p _ _ (fine_class p fine k x e)).0).0).0).1

    own_typed : is_fine p ≡ true → (c : Class) → AllFields p os (own_fields p c)
    own_typed fine (Class.Native c) = natives_typed c
    own_typed fine (Class.File k) = variables_typed (Class.File k) (own_variables p (Class.File k)) (fine_variables fine k)

    lineage_typed : is_fine p ≡ true → (cs : List Class) → AllFields p os (flat_map (own_fields p) cs)
    lineage_typed fine [] = tt
    lineage_typed fine (c ∷ cs) = all_append _ (own_fields p c) (flat_map (own_fields p) cs) (own_typed fine c) (lineage_typed fine cs)

    pub fresh_typed : is_fine p ≡ true → (c : Class) → TypedObject p os (new_object (Instance_of c) (fields_of p c) [])
    fresh_typed fine c = record {
      fields = lineage_typed fine (lineage_in (bases p) c);
      names = λ name. refl;
      elements = tt;
      parent = tt;
      children = tt;
      listeners = tt;
      entered = λ e. absurd (true≢false (sym e));
      kept = λ name e. absurd (cc);
    }

    pub row_typed : (vs : List Value) → All (Valid p os) vs → TypedObject p os (new_object An_array [] vs)
    row_typed vs h = record {
      fields = tt;
      names = tt;
      elements = h;
      parent = tt;
      children = tt;
      listeners = tt;
      entered = λ e. absurd (true≢false (sym e));
      kept = λ name e. absurd (cc);
    }

    pub shape_as : (c : Object) (k : Class) → TypedObject p os c → c.kind ≡ Instance_of k → (name : List ℕ) → shape_in p c.fields name ≡ shape_in p (fields_of p k) name
    shape_as c k h same = subst (λ x. FitsKind p x c.fields) same h.names

    type_of_shape : (x : Option Field) → option_map (λ f. f.type) x ≡ option_map (λ s. s.0) (option_map (shape p) x)
    type_of_shape None = refl
    type_of_shape (Some f) = refl

    written_of_shape : (x : Option Field) → option_and_then (λ f. if can_be_written f then Some f.type else None) x ≡ option_and_then (λ (s : StaticType × Bool × Bool). if not s.1 then Some s.0 else None) (option_map (shape p) x)
    written_of_shape None = refl
    written_of_shape (Some f) = refl

    names_as : (c : Object) (k : Class) → TypedObject p os c → c.kind ≡ Instance_of k → (name : List ℕ) → kept_in p c.fields name ≡ kept_type p k name
    names_as c k h same name = type_of_shape (field_named name c.fields) ∙ ap (option_map (λ s. s.0)) (shape_as c k h same name) ∙ sym (type_of_shape (field_named name (fields_of p k)))

    -- a property that code may write is a field of its type that may be written
    pub field_writes : (c : Object) (k : Class) → TypedObject p os c → c.kind ≡ Instance_of k → (name : List ℕ) (t : StaticType) → written_type p k name ≡ Some t → (f : Field) × (field_named name c.fields ≡ Some f) × (can_be_written f ≡ true) × (f.type ≡ t)
    field_writes c k h same name t e =
        let same_written : option_and_then (λ f. if can_be_written f then Some f.type else None) (field_named name c.fields) ≡ Some t = written_of_shape (field_named name c.fields) ∙ ap (option_and_then (λ (s : StaticType × Bool × Bool). if not s.1 then Some s.0 else None)) (shape_as c k h same name) ∙ sym (written_of_shape (field_named name (fields_of p k))) ∙ e in
        let f = then_is (λ f. if can_be_written f then Some f.type else None) (field_named name c.fields) t same_written in
        let w = if_is (can_be_written f.0) (Some f.0.type) t f.2 in
        (f.0, f.1, w.0, same_some _ _ w.1)

    -- a property that the class keeps is a field of its type
    pub field_is : (c : Object) (k : Class) → TypedObject p os c → c.kind ≡ Instance_of k → (name : List ℕ) (t : StaticType) → kept_type p k name ≡ Some t → (f : Field) × (field_named name c.fields ≡ Some f) × (f.type ≡ t)
    field_is c k h same name t e = map_is (λ f. f.type) (field_named name c.fields) t (names_as c k h same name ∙ e)

    pub field_type : (c : Object) (k : Class) → TypedObject p os c → c.kind ≡ Instance_of k → (name : List ℕ) (t : StaticType) → kept_type p k name ≡ Some t → (f : Field) → field_named name c.fields ≡ Some f → f.type ≡ t
    field_type c k h same name t e f here = same_some _ _ (sym (ap (option_map (λ g. g.type)) here) ∙ names_as c k h same name ∙ e)

    pub field_typed : (c : Object) → TypedObject p os c → (name : List ℕ) (f : Field) → field_named name c.fields ≡ Some f → OfType p os f.value f.type
    field_typed c h name f e = (all_found (λ g. OfType p os g.value g.type) (λ g. bytes_eq g.name name) c.fields f e h.fields).0

    parent_of : (c : Object) → TypedObject p os c → (o : Option ObjId) → c.parent ≡ o → OfType p os (ref_or_null o) (static_type element)
    parent_of c h None e = T_no_object _
    parent_of c h (Some n) e = let x : IsComponent p os n = subst (λ y. ParentFine p os y) e h.parent in T_object n x.class _ x.at x.is

    -- a property of an object has a value of its type
    pub property_typed : (c : Object) (k : Class) → TypedObject p os c → c.kind ≡ Instance_of k → (name : List ℕ) (t : StaticType) → property_type p k name ≡ Some t → (v : Value) × (property c name ≡ Some v) × OfType p os v t
    property_typed c k h same name t e = by (field_named name c.fields) refl
      where
        is : or_else (kept_in p c.fields name) (computed_type p k name) ≡ Some t
        is = ap (λ x. or_else x (computed_type p k name)) (names_as c k h same name) ∙ e

        computed : (x y u z : Bool) → (x ≡ true → y ≡ true → ⊥) → (if x && u then Some (static_type element) else if y && z then Some StaticType.Int else None) ≡ Some t
            → (v : Value) × ((if x then Some (ref_or_null c.parent) else if y then Some (count (length c.children)) else None) ≡ Some v) × OfType p os v t
        computed true y true z never e1 = (ref_or_null c.parent, refl, subst (λ y. OfType p os (ref_or_null c.parent) y) (same_some _ _ e1) (parent_of c h c.parent refl))
        computed true true false z never e1 = absurd (never refl refl)
        computed true false false z never e1 = absurd (cc)
        computed false true u true never e1 = (count (length c.children), refl, subst (λ y. OfType p os (count (length c.children)) y) (same_some _ _ e1) (T_int _))
        computed false true u false never e1 = absurd (cc)
        computed false false u z never e1 = absurd (cc)

        not_both : bytes_eq name (codes "parent") ≡ true → bytes_eq name (codes "numElements") ≡ true → ⊥
        not_both a b = true≢false (sym (subst (λ n. bytes_eq n (codes "numElements") ≡ true) (same_text name (codes "parent") a) b))

        by : (x : Option Field) → field_named name c.fields ≡ x → (v : Value) × (property c name ≡ Some v) × OfType p os v t
        by (Some f) here = (f.value, ap (λ x. property_or x (computed_property c name)) here, subst (λ y. OfType p os f.value y) (same_some f.type t (sym (ap (λ x. or_else (option_map (λ g. g.type) x) (computed_type p k name)) here) ∙ is)) (field_typed c h name f here))
        by None here =
            let e1 : computed_type p k name ≡ Some t = sym (ap (λ x. or_else (option_map (λ g. g.type) x) (computed_type p k name)) here) ∙ is in
            let v = computed (bytes_eq name (codes "parent")) (bytes_eq name (codes "numElements")) _ _ not_both e1 in
            (v.0, ap (λ x. property_or x (computed_property c name)) here ∙ v.1, v.2)
