-- Facts of the classes of a fine program, in the form in which the play of one uses them.
use Rattle.component_catalog.specs.Laws.{are_distinct}
use Rattle.std.proofs.Common.{List, [], ap, arith, not, refl, subst, suc, sym, true≢false, zero, ℕ, ◌&&◌, ◌++◌, ◌+◌, ◌||◌, ◌∙◌, ◌∷◌, ◌≡◌, ◌≤◌}
use Rattle.std.specs.List.{find, flat_map, list_any}
use Rattle.std.specs.Prelude.{Bool, None, Option, Some, codes, false, if◌then◌else◌, is_some, length, map, option_and_then, option_map, slice_get, true, unwrap_or}
use Rattle.std.specs.Str.{bytes_eq}
use Rattle.component_catalog.specs.Classes.{or_else}
use Rattle.component_catalog.specs.Methods.{NamedMethod, named_method, own_method, element}
use Rattle.component_catalog.specs.declared.class.NativeClass.{NativeClass}
use Rattle.component_catalog.specs.declared.class.NativeClass.TheVariants as native
use Rattle.component_catalog.specs.declared.method.NativeMethod.{NativeMethod}
use Rattle.component_catalog.specs.declared.method.NativeMethod.TheVariants as catalog
use Rattle.flex_world.specs.Classes.{base_in, descends, descends_from, is_component, is_container, lineage_in, same_class, static_type, upward_in}
use Rattle.flex_world.specs.declared.kind.Class.{Class}
use Rattle.flex_world.specs.declared.kind.StaticType.{StaticType}
use Rattle.flex_world.specs.Objects.{Field, can_be_written, current_state, field_named}
use Rattle.flex_program.proofs.ClassLaws.{IsShort, Named, any_first, both_true, callee_of_descendant, descends_then, field_below, fine_members, fine_names, fine_ring, held, is_short, lineage_is, member_of, more_fuel, natives_differ, or_true, same_class_is, same_class_itself, same_text, some_callee}
use Rattle.flex_program.proofs.Inverted.{is_some_of, map_is, not_both_ways, not_is, then_is}
use Rattle.flex_program.specs.Classes.{Callee, bases, callee, callee_in, fields_of, own_callee, own_fields, own_members, variable_field}
use Rattle.flex_program.specs.Fine.{computed_type, has_fine_names, has_no_ring, is_fine, is_fine_method, kept_type, property_type, written_type}
use Rattle.flex_program.specs.Program.{Member, Method, Program, SourceClass}

module _ (p : Program) where
  -- a method that stands in an ancestor of a class
  pub record CanRun (k : Class) (m : ℕ) : Type 0 where
    pub method : Method
    pub here : slice_get p.methods m ≡ Some method
    pub owner : Class
    pub fine : is_fine_method p owner method ≡ true
    pub is : descends (bases p) k owner ≡ true

  none_upward : (n : ℕ) → upward_in (bases p) n None ≡ []
  none_upward zero = refl
  none_upward (suc n) = refl

  -- what a list of other things has at a place
  pub mapped_get : {X Y : Type 0} (f : X → Y) (xs : List X) (k : ℕ) → slice_get (map f xs) k ≡ option_map f (slice_get xs k)
  mapped_get f [] k = refl
  mapped_get f (x ∷ xs) zero = refl
  mapped_get f (x ∷ xs) (suc k) = mapped_get f xs k

  no_base : (k : ℕ) → slice_get p.classes k ≡ None → base_in (bases p) (Class.File k) ≡ None
  no_base k e = ap (option_and_then (λ base. base)) (mapped_get (λ class. class.base) p.classes k ∙ ap (option_map (λ class. class.base)) e)

  -- the classes of the catalog, by the length of the sources' list
  ring_by : Class → ℕ → Bool
  ring_by c l = not (is_some (slice_get (upward_in (bases p) (suc (suc (suc (suc (suc l))))) (Some c)) (suc (suc (suc (suc l))))))

  native_ring : (c : NativeClass) (l : ℕ) → ring_by (Class.Native c) l ≡ true
  unfolding ring_by
  native_ring native.EventDispatcher l = refl
  native_ring native.UIComponent l = refl
  native_ring native.SkinnableContainer l = refl
  native_ring native.Group l = refl
  native_ring native.VGroup l = refl
  native_ring native.HGroup l = refl
  native_ring native.Application l = refl
  native_ring native.Panel l = refl
  native_ring native.Label l = refl
  native_ring native.Button l = refl
  native_ring native.ToggleButton l = refl
  native_ring native.CheckBox l = refl
  native_ring native.TextInput l = refl
  native_ring native.State l = refl
  native_ring native.Event l = refl
  native_ring native.MouseEvent l = refl
  native_ring native.FlexEvent l = refl

  ring_of : (c : Class) → ring_by c (length (bases p)) ≡ true → has_no_ring p c ≡ true
  unfolding ring_by
  ring_of c e =
      let five : suc (suc (suc (suc (suc (length (bases p)))))) ≡ length (bases p) + 5 = omega arith in
      let four : suc (suc (suc (suc (length (bases p))))) ≡ length (bases p) + 4 = omega arith in
      subst (λ n. not (is_some (slice_get (upward_in (bases p) (length (bases p) + 5) (Some c)) n)) ≡ true) four (subst (λ n. not (is_some (slice_get (upward_in (bases p) n (Some c)) (suc (suc (suc (suc (length (bases p)))))))) ≡ true) five e)

  no_class_ring : (k l : ℕ) → slice_get p.classes k ≡ None → ring_by (Class.File k) l ≡ true
  unfolding ring_by
  no_class_ring k l e = ap (λ b. not (is_some (slice_get (Class.File k ∷ upward_in (bases p) (suc (suc (suc (suc l)))) b) (suc (suc (suc (suc l))))))) (no_base k e)

  pub fields_by : ℕ → Class → List Field
  fields_by n class = flat_map (own_fields p) (upward_in (bases p) n (Some class))

  -- names are fine in a list of fields
  names_in : Class → List Field → Bool
  names_in class fields = are_distinct (map (λ f. f.name) fields) && not (list_any (λ f. is_some (computed_type p class f.name)) fields)

  native_names : (c : NativeClass) (l : ℕ) → names_in (Class.Native c) (fields_by (suc (suc (suc (suc l)))) (Class.Native c)) ≡ true
  unfolding fields_by names_in
  native_names native.EventDispatcher l = refl
  native_names native.UIComponent l = refl
  native_names native.SkinnableContainer l = refl
  native_names native.Group l = refl
  native_names native.VGroup zero = refl
  native_names native.VGroup (suc l) = refl
  native_names native.HGroup zero = refl
  native_names native.HGroup (suc l) = refl
  native_names native.Application zero = refl
  native_names native.Application (suc l) = refl
  native_names native.Panel zero = refl
  native_names native.Panel (suc l) = refl
  native_names native.Label l = refl
  native_names native.Button l = refl
  native_names native.ToggleButton l = refl
  native_names native.CheckBox l = refl
  native_names native.TextInput l = refl
  native_names native.State l = refl
  native_names native.Event l = refl
  native_names native.MouseEvent l = refl
  native_names native.FlexEvent l = refl

  pub four_more : suc (suc (suc (suc (length (bases p))))) ≡ length (bases p) + 4
  four_more = omega arith

  names_of : (c : Class) → names_in c (fields_by (suc (suc (suc (suc (length (bases p)))))) c) ≡ true → has_fine_names p c ≡ true
  unfolding fields_by names_in
  names_of c e = subst (λ n. names_in c (fields_by n c) ≡ true) four_more e

  no_class_fields : (k l : ℕ) → slice_get p.classes k ≡ None → fields_by (suc l) (Class.File k) ≡ []
  unfolding fields_by
  no_class_fields k l e =
      ap (λ x. map variable_field (unwrap_or (option_map (λ class. class.variables) x) []) ++ flat_map (own_fields p) (upward_in (bases p) l (base_in (bases p) (Class.File k)))) e
      ∙ ap (λ b. flat_map (own_fields p) (upward_in (bases p) l b)) (no_base k e) ∙ ap (flat_map (own_fields p)) (none_upward l)

  no_class_names : (k l : ℕ) → slice_get p.classes k ≡ None → names_in (Class.File k) (fields_by (suc l) (Class.File k)) ≡ true
  unfolding names_in
  no_class_names k l e = ap (names_in (Class.File k)) (no_class_fields k l e)

  pub descends_itself : (c : Class) → descends (bases p) c c ≡ true
  descends_itself c = any_first p c (lineage_in (bases p) c) _ (lineage_is p c)

  -- the base of a class is an ancestor
  pub base_above : (c b : Class) → base_in (bases p) c ≡ Some b → descends (bases p) c b ≡ true
  base_above c b e =
      let two : length (bases p) + 4 ≡ suc (suc (length (bases p) + 2)) = omega arith in
      let is : lineage_in (bases p) c ≡ c ∷ b ∷ upward_in (bases p) (length (bases p) + 2) (base_in (bases p) b) = ap (λ n. upward_in (bases p) n (Some c)) two ∙ ap (λ x. c ∷ upward_in (bases p) (suc (length (bases p) + 2)) x) e in
      ap (list_any (same_class b)) is ∙ ap (λ s. same_class b c || (s || list_any (same_class b) (upward_in (bases p) (length (bases p) + 2) (base_in (bases p) b)))) (same_class_itself p b) ∙ or_true p (same_class b c)

  module _ (fine : is_fine p ≡ true) where
    pub ringless : (c : Class) → has_no_ring p c ≡ true
    ringless (Class.Native c) = ring_of (Class.Native c) (native_ring c (length (bases p)))
    ringless (Class.File k) = by (slice_get p.classes k) refl
      where
        by : (x : Option SourceClass) → slice_get p.classes k ≡ x → has_no_ring p (Class.File k) ≡ true
        by None e = ring_of (Class.File k) (no_class_ring k (length (bases p)) e)
        by (Some x) e = fine_ring p fine k x e

    pub names_fine : (c : Class) → has_fine_names p c ≡ true
    names_fine (Class.Native c) = names_of (Class.Native c) (native_names c (length (bases p)))
    names_fine (Class.File k) = by (slice_get p.classes k) refl
      where
        by : (x : Option SourceClass) → slice_get p.classes k ≡ x → has_fine_names p (Class.File k) ≡ true
        by None e = names_of (Class.File k) (no_class_names k _ e)
        by (Some x) e = fine_names p fine k x e

    -- ancestors of ancestors
    pub above : (k a b : Class) → descends (bases p) k a ≡ true → descends (bases p) a b ≡ true → descends (bases p) k b ≡ true
    above k a b h i = descends_then p k a b (ringless k) (ringless a) h i

    -- a field of an ancestor's objects
    pub field_down : (k a : Class) → descends (bases p) k a ≡ true → (name : List ℕ) (f : Field) → field_named name (fields_of p a) ≡ Some f → field_named name (fields_of p k) ≡ Some f
    field_down k a h name f e = field_below p k a (ringless k) (names_fine k) h name f e

    pub kept_down : (k a : Class) → descends (bases p) k a ≡ true → (name : List ℕ) (t : StaticType) → kept_type p a name ≡ Some t → kept_type p k name ≡ Some t
    kept_down k a h name t e = let f = map_is (λ f. f.type) (field_named name (fields_of p a)) t e in ap (option_map (λ g. g.type)) (field_down k a h name f.0 f.1) ∙ ap Some f.2

    pub written_type_down : (k a : Class) → descends (bases p) k a ≡ true → (name : List ℕ) (t : StaticType) → written_type p a name ≡ Some t → written_type p k name ≡ Some t
    written_type_down k a h name t e =
        let f = then_is (λ f. if can_be_written f then Some f.type else None) (field_named name (fields_of p a)) t e in
        ap (option_and_then (λ g. if can_be_written g then Some g.type else None)) (field_down k a h name f.0 f.1) ∙ f.2

    -- what is computed in a class is computed below it
    computed_down : (k a : Class) → descends (bases p) k a ≡ true → (name : List ℕ) (t : StaticType) → computed_type p a name ≡ Some t → computed_type p k name ≡ Some t
    computed_down k a h name t e = by (bytes_eq name (codes "parent")) (bytes_eq name (codes "numElements")) (is_component (bases p) a) (is_container (bases p) a) refl refl e
      where
        or_either : (x y : Bool) → (x || y) ≡ true → (x ≡ true → (is_container (bases p) k ≡ true)) → (y ≡ true → (is_container (bases p) k ≡ true)) → is_container (bases p) k ≡ true
        or_either true y e1 f g = f refl
        or_either false y e1 f g = g e1

        container_down : is_container (bases p) a ≡ true → is_container (bases p) k ≡ true
        container_down e1 = or_either (descends_from (bases p) native.SkinnableContainer a) (descends_from (bases p) native.Group a) e1 (λ x. ap (λ b. b || descends_from (bases p) native.Group k) (above k a (Class.Native native.SkinnableContainer) h x)) (λ x. ap (λ b. descends_from (bases p) native.SkinnableContainer k || b) (above k a (Class.Native native.Group) h x) ∙ or_true p _)

        by : (n m c d : Bool) → is_component (bases p) a ≡ c → is_container (bases p) a ≡ d → (if n && c then Some (static_type element) else if m && d then Some StaticType.Int else None) ≡ Some t
            → (if n && is_component (bases p) k then Some (static_type element) else if m && is_container (bases p) k then Some StaticType.Int else None) ≡ Some t
        by true m true d c1 d1 e1 = ap (λ b. if b then Some (static_type element) else (if m && is_container (bases p) k then Some StaticType.Int else None)) (above k a (Class.Native native.UIComponent) h c1) ∙ e1
        by true true false true c1 d1 e1 = absurd (not_both_ways (is_component (bases p) a) (container_is d1) c1)
          where
            either : (x y : Bool) → (x || y) ≡ true → (x ≡ true → is_component (bases p) a ≡ true) → (y ≡ true → is_component (bases p) a ≡ true) → is_component (bases p) a ≡ true
            either true y e2 f g = f refl
            either false y e2 f g = g e2

            container_is : is_container (bases p) a ≡ true → is_component (bases p) a ≡ true
            container_is e2 = either (descends_from (bases p) native.SkinnableContainer a) (descends_from (bases p) native.Group a) e2 (λ x. above a (Class.Native native.SkinnableContainer) (Class.Native native.UIComponent) x (base_above (Class.Native native.SkinnableContainer) (Class.Native native.UIComponent) refl)) (λ x. above a (Class.Native native.Group) (Class.Native native.UIComponent) x (base_above (Class.Native native.Group) (Class.Native native.UIComponent) refl))
        by true true false false c1 d1 e1 = absurd (cc)
        by true false false d c1 d1 e1 = absurd (cc)
        by false true c true c1 d1 e1 = ap (λ b. if b then Some StaticType.Int else None) (container_down d1) ∙ e1
        by false true c false c1 d1 e1 = absurd (cc)
        by false false c d c1 d1 e1 = absurd (cc)

    pub container_component : (a : Class) → is_container (bases p) a ≡ true → is_component (bases p) a ≡ true
    container_component a e = either (descends_from (bases p) native.SkinnableContainer a) (descends_from (bases p) native.Group a) e (λ x. above a (Class.Native native.SkinnableContainer) (Class.Native native.UIComponent) x (base_above (Class.Native native.SkinnableContainer) (Class.Native native.UIComponent) refl)) (λ x. above a (Class.Native native.Group) (Class.Native native.UIComponent) x (base_above (Class.Native native.Group) (Class.Native native.UIComponent) refl))
      where
        either : (x y : Bool) → (x || y) ≡ true → (x ≡ true → is_component (bases p) a ≡ true) → (y ≡ true → is_component (bases p) a ≡ true) → is_component (bases p) a ≡ true
        either true y e2 f g = f refl
        either false y e2 f g = g e2

    -- no kept property has the name of a computed one
    none_kept : (k : Class) (name : List ℕ) (t : StaticType) → computed_type p k name ≡ Some t → kept_type p k name ≡ None
    none_kept k name t e = by (field_named name (fields_of p k)) refl
      where
        free : not (list_any (λ f. is_some (computed_type p k f.name)) (fields_of p k)) ≡ true
        free = (both_true p (are_distinct (map (λ f. f.name) (fields_of p k))) (not (list_any (λ f. is_some (computed_type p k f.name)) (fields_of p k))) (names_fine k)).1

        among : (fields : List Field) (f : Field) → field_named name fields ≡ Some f → list_any (λ g. is_some (computed_type p k g.name)) fields ≡ true
        among [] f h = absurd (cc)
        among (g ∷ fields) f h = here (bytes_eq g.name name) refl h (among fields f)
          where
            here : (b : Bool) → bytes_eq g.name name ≡ b → (if b then Some g else field_named name fields) ≡ Some f → (field_named name fields ≡ Some f → list_any (λ g1. is_some (computed_type p k g1.name)) fields ≡ true)
                → (is_some (computed_type p k g.name) || list_any (λ g1. is_some (computed_type p k g1.name)) fields) ≡ true
            here true s h1 rest = ap (λ b. b || list_any (λ g1. is_some (computed_type p k g1.name)) fields) (is_some_of _ t (ap (computed_type p k) (same_text g.name name s) ∙ e))
            here false s h1 rest = ap (λ b. is_some (computed_type p k g.name) || b) (rest h1) ∙ or_true p _

        by : (x : Option Field) → field_named name (fields_of p k) ≡ x → option_map (λ f. f.type) x ≡ None
        by None h = refl
        by (Some f) h = absurd (not_both_ways _ (among (fields_of p k) f h) (not_is _ free))

    pub property_down : (k a : Class) → descends (bases p) k a ≡ true → (name : List ℕ) (t : StaticType) → property_type p a name ≡ Some t → property_type p k name ≡ Some t
    property_down k a h name t e = by (kept_type p a name) refl e
      where
        by : (x : Option StaticType) → kept_type p a name ≡ x → or_else x (computed_type p a name) ≡ Some t → or_else (kept_type p k name) (computed_type p k name) ≡ Some t
        by None f g = ap (λ x. or_else x (computed_type p k name)) (none_kept k name t (computed_down k a h name t g)) ∙ computed_down k a h name t g
        by (Some u) f g = ap (λ x. or_else x (computed_type p k name)) (kept_down k a h name u f) ∙ g

    -- the method that the class of an object names takes and gives what that of an ancestor does
    pub callee_down : (k a : Class) → descends (bases p) k a ≡ true → (name : List ℕ) (y : Callee) → callee p a name ≡ Some y → Named p name (lineage_in (bases p) k) y
    callee_down k a h name y e = callee_of_descendant p (fine_members p fine) k a name y (ringless k) h e

    -- where a class among others is, that names a method
    record Place (name : List ℕ) (x : Callee) (xs : List Class) : Type 0 where
      class : Class
      own : own_callee p name class ≡ Some x
      among : list_any (same_class class) xs ≡ true

    placed : (name : List ℕ) (x : Callee) (xs : List Class) → callee_in p name xs ≡ Some x → Place name x xs
    placed name x [] e = absurd (cc)
    placed name x (c ∷ xs) e = by (own_callee p name c) refl e (placed name x xs)
      where
        by : (o : Option Callee) → own_callee p name c ≡ o → or_else o (callee_in p name xs) ≡ Some x → (callee_in p name xs ≡ Some x → Place name x xs) → Place name x (c ∷ xs)
        by None own e1 rest = let r : Place name x xs = rest e1 in record { class = r.class; own = r.own; among = ap (λ b. same_class r.class c || b) r.among ∙ or_true p _ }
        by (Some o) own e1 rest = record { class = c; own = own ∙ e1; among = ap (λ b. b || list_any (same_class c) xs) (same_class_itself p c) }

    written_runs : (k : Class) (name : List ℕ) (m : ℕ) (c : Class) → own_callee p name c ≡ Some (Callee.Written m) → descends (bases p) k c ≡ true → CanRun k m
    written_runs k name m (Class.Native c) e h = absurd (none (own_method c name) e)
      where
        none : (x : Option NativeMethod) → option_map Callee.Catalog x ≡ Some (Callee.Written m) → ⊥
        none None e1 = cc
        none (Some y) e1 = cc
    written_runs k name m (Class.File j) e h =
        let x = member_of p name _ (Callee.Written m) e in
        let y = held p _ _ (fine_members p fine j name x.0 x.1) in
        let same : x.0.method ≡ m = number _ _ x.2 in
        record { method = y.0; here = ap (slice_get p.methods) (sym same) ∙ y.1; owner = Class.File j; fine = (both_true p _ _ y.2).0; is = h }
      where
        number : (a b : ℕ) → Some (Callee.Written a) ≡ Some (Callee.Written b) → a ≡ b
        number a b e1 = cc

    -- a written method that a class names can run on its objects
    pub can_run : (k : Class) (name : List ℕ) (m : ℕ) → callee p k name ≡ Some (Callee.Written m) → CanRun k m
    can_run k name m e = let x = placed name (Callee.Written m) (lineage_in (bases p) k) e in written_runs k name m x.class x.own x.among

    -- AddElement is a method of containers
    adds_native : (name : List ℕ) (c : Class) → own_callee p name c ≡ Some (Callee.Catalog catalog.AddElement) → is_component (bases p) c ≡ true
    adds_native name (Class.Native native.SkinnableContainer) e = base_above (Class.Native native.SkinnableContainer) (Class.Native native.UIComponent) refl
    adds_native name (Class.Native native.Group) e = base_above (Class.Native native.Group) (Class.Native native.UIComponent) refl
    adds_native name (Class.Native native.EventDispatcher) e = absurd (four (bytes_eq name (codes "addEventListener")) (bytes_eq name (codes "removeEventListener")) (bytes_eq name (codes "hasEventListener")) (bytes_eq name (codes "dispatchEvent")) e)
      where
        four : (a b c d : Bool) → option_map Callee.Catalog (option_map (λ (m : NamedMethod). m.method) (if a then Some (named_method (codes "addEventListener") catalog.AddEventListener) else if b then Some (named_method (codes "removeEventListener") catalog.RemoveEventListener) else if c then Some (named_method (codes "hasEventListener") catalog.HasEventListener) else if d then Some (named_method (codes "dispatchEvent") catalog.DispatchEvent) else None)) ≡ Some (Callee.Catalog catalog.AddElement) → ⊥
        four true b c d h = cc
        four false true c d h = cc
        four false false true d h = cc
        four false false false true h = cc
        four false false false false h = cc
    adds_native name (Class.Native native.Event) e = absurd (four (bytes_eq name (codes "stopPropagation")) (bytes_eq name (codes "stopImmediatePropagation")) (bytes_eq name (codes "preventDefault")) (bytes_eq name (codes "isDefaultPrevented")) e)
      where
        four : (a b c d : Bool) → option_map Callee.Catalog (option_map (λ (m : NamedMethod). m.method) (if a then Some (named_method (codes "stopPropagation") catalog.StopPropagation) else if b then Some (named_method (codes "stopImmediatePropagation") catalog.StopImmediatePropagation) else if c then Some (named_method (codes "preventDefault") catalog.PreventDefault) else if d then Some (named_method (codes "isDefaultPrevented") catalog.IsDefaultPrevented) else None)) ≡ Some (Callee.Catalog catalog.AddElement) → ⊥
        four true b c d h = cc
        four false true c d h = cc
        four false false true d h = cc
        four false false false true h = cc
        four false false false false h = cc
    adds_native name (Class.Native _) e = absurd (cc)
    adds_native name (Class.File k) e = absurd (none (find (λ m. bytes_eq m.name name) (own_members p (Class.File k))) e)
      where
        none : (x : Option Member) → option_map (λ m. Callee.Written m.method) x ≡ Some (Callee.Catalog catalog.AddElement) → ⊥
        none None h = cc
        none (Some x) h = cc

    pub adds : (k : Class) (name : List ℕ) → callee p k name ≡ Some (Callee.Catalog catalog.AddElement) → is_component (bases p) k ≡ true
    adds k name e = let x = placed name (Callee.Catalog catalog.AddElement) (lineage_in (bases p) k) e in above k x.class (Class.Native native.UIComponent) x.among (adds_native name x.class x.own)

    pub named_type : List ℕ → ℕ → Class → Option StaticType
    named_type name n class = option_map (λ f. f.type) (field_named name (fields_by n class))

    -- components keep `currentState`
    pub component_state : kept_type p (Class.Native native.UIComponent) current_state ≡ Some StaticType.String
    unfolding fields_by named_type
    component_state = subst (λ n. named_type current_state n (Class.Native native.UIComponent) ≡ Some StaticType.String) four_more refl

    -- events keep their type
    pub event_type_kept : kept_type p (Class.Native native.Event) (codes "type") ≡ Some StaticType.String
    unfolding fields_by named_type
    event_type_kept = subst (λ n. named_type (codes "type") n (Class.Native native.Event) ≡ Some StaticType.String) four_more refl

    pub event_target : kept_type p (Class.Native native.Event) (codes "target") ≡ Some StaticType.Any
    unfolding fields_by named_type
    event_target = subst (λ n. named_type (codes "target") n (Class.Native native.Event) ≡ Some StaticType.Any) four_more refl

    pub event_current : kept_type p (Class.Native native.Event) (codes "currentTarget") ≡ Some StaticType.Any
    unfolding fields_by named_type
    event_current = subst (λ n. named_type (codes "currentTarget") n (Class.Native native.Event) ≡ Some StaticType.Any) four_more refl

    pub event_phase : kept_type p (Class.Native native.Event) (codes "eventPhase") ≡ Some StaticType.Int
    unfolding fields_by named_type
    event_phase = subst (λ n. named_type (codes "eventPhase") n (Class.Native native.Event) ≡ Some StaticType.Int) four_more refl

    pub event_bubbles : kept_type p (Class.Native native.Event) (codes "bubbles") ≡ Some StaticType.Boolean
    unfolding fields_by named_type
    event_bubbles = subst (λ n. named_type (codes "bubbles") n (Class.Native native.Event) ≡ Some StaticType.Boolean) four_more refl

    pub event_cancelable : kept_type p (Class.Native native.Event) (codes "cancelable") ≡ Some StaticType.Boolean
    unfolding fields_by named_type
    event_cancelable = subst (λ n. named_type (codes "cancelable") n (Class.Native native.Event) ≡ Some StaticType.Boolean) four_more refl

  pub property_of_kept : (name : List ℕ) (k : Class) (t : StaticType) → kept_type p k name ≡ Some t → property_type p k name ≡ Some t
  property_of_kept name k t e = ap (λ x. or_else x (computed_type p k name)) e

  -- a written method that some classes name
  pub record WrittenIn (name : List ℕ) (xs : List Class) : Type 0 where
    pub number : ℕ
    pub is : callee_in p name xs ≡ Some (Callee.Written number)

  -- below a class that names a written method a name stands for a written one
  written_below : (n : ℕ) (x : Option Class) → IsShort p x n → n ≤ length (bases p) + 4 → (a : Class) (name : List ℕ) (m : ℕ) → list_any (same_class a) (upward_in (bases p) n x) ≡ true → callee p a name ≡ Some (Callee.Written m) → WrittenIn name (upward_in (bases p) n x)
  written_below zero x s le a name m e k = absurd (true≢false (sym e))
  written_below (suc n) None s le a name m e k = absurd (true≢false (sym e))
  written_below (suc n) (Some class) s le a name m e k = by (same_class a class) refl e (λ h. written_below n (base_in (bases p) class) s (omega arith) a name m h k)
    where
      own_is : (d : Class) (o : Callee) → own_callee p name d ≡ Some o → WrittenIn name (upward_in (bases p) n (base_in (bases p) d)) → (j : ℕ) × (o ≡ Callee.Written j)
      own_is (Class.Native d) o own rest = absurd (natives_differ p d n name o (Callee.Written rest.number) own rest.is)
      own_is (Class.File d) o own rest = let y = member_of p name _ o own in (y.0.method, sym (some_callee p _ _ y.2))

      own_first : (o : Option Callee) → own_callee p name class ≡ o → WrittenIn name (upward_in (bases p) n (base_in (bases p) class)) → WrittenIn name (class ∷ upward_in (bases p) n (base_in (bases p) class))
      own_first None own rest = record { number = rest.number; is = ap (λ t. or_else t (callee_in p name (upward_in (bases p) n (base_in (bases p) class)))) own ∙ rest.is }
      own_first (Some o) own rest = let y = own_is class o own rest in record { number = y.0; is = ap (λ t. or_else t (callee_in p name (upward_in (bases p) n (base_in (bases p) class)))) own ∙ ap Some y.1 }

      by : (b : Bool) → same_class a class ≡ b → (b || list_any (same_class a) (upward_in (bases p) n (base_in (bases p) class))) ≡ true
          → (list_any (same_class a) (upward_in (bases p) n (base_in (bases p) class)) ≡ true → WrittenIn name (upward_in (bases p) n (base_in (bases p) class))) → WrittenIn name (class ∷ upward_in (bases p) n (base_in (bases p) class))
      by true same h rest = record { number = m; is = ap (callee_in p name) (sym (more_fuel p (suc n) (length (bases p) + 4) (Some class) s le)) ∙ ap (λ d. callee p d name) (sym (same_class_is a class same)) ∙ k }
      by false same h rest = own_first (own_callee p name class) refl (rest h)

  pub written_down : is_fine p ≡ true → (k a : Class) (name : List ℕ) (m : ℕ) → descends (bases p) k a ≡ true → callee p a name ≡ Some (Callee.Written m) → WrittenIn name (lineage_in (bases p) k)
  written_down fine k a name m e h = written_below (length (bases p) + 4) (Some k) (is_short p k (ringless fine k)) (omega arith) a name m e h
