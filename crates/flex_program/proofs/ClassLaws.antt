-- Laws of the classes of a fine program.
use Rattle.component_catalog.specs.Laws.{are_distinct}
use Rattle.std.proofs.Common.{List, [], ap, append_assoc, arith, not, refl, subst, suc, sym, true≢false, zero, zero-add, ℕ, ◌&&◌, ◌++◌, ◌+◌, ◌||◌, ◌∙◌, ◌∷◌, ◌≡◌, ◌≤◌}
use Rattle.std.proofs.lemmas.Slice.Eq.{bytes_eq-Decides}
use Rattle.std.specs.List.{find, flat_map, list_all, list_any}
use Rattle.std.specs.Prelude.{Bool, None, Option, Some, codes, drop, false, if◌then◌else◌, is_some, length, map, option_map, slice_get, true, unwrap_or, ◌==◌}
use Rattle.std.specs.Str.{bytes_eq}
use Rattle.component_catalog.specs.Classes.{class_named, name_of, or_else}
use Rattle.component_catalog.specs.Methods.{NamedMethod, container_methods, named_method, parameters_of}
use Rattle.component_catalog.specs.declared.class.NativeClass.{NativeClass}
use Rattle.component_catalog.specs.declared.class.NativeClass.TheVariants as native
use Rattle.component_catalog.specs.declared.method.NativeMethod.TheVariants as catalog
use Rattle.component_catalog.specs.declared.method.Parameter.{Parameter}
use Rattle.component_catalog.specs.declared.method.Parameter.TheVariants as parameter
use Rattle.component_catalog.specs.declared.method.Parameter.TheVariants as parameter
use Rattle.component_catalog.specs.declared.method.Parameter.TheVariants as parameter
use Rattle.flex_world.specs.Classes.{base_in, descends, lineage_in, same_class, same_native, static_type, upward_in}
use Rattle.flex_world.specs.declared.kind.Class.{Class}
use Rattle.flex_world.specs.declared.kind.StaticType.{StaticType}
use Rattle.flex_world.specs.Conversions.{accepts}
use Rattle.flex_world.specs.Objects.{Field, field_named}
use Rattle.flex_program.specs.Classes.{Callee, bases, callee_in, fields_of, own_callee, own_fields, own_members, callee}
use Rattle.flex_program.specs.Fine.{are_fine_classes, callee_accepts, callee_gives, callee_types, has_fine_names, has_no_ring, has_signature, holds, is_fine, is_fine_class, is_fine_member, is_fine_method, method_numbered, overrides_well, required_types, same_result, same_type, same_types}
use Rattle.flex_program.specs.Laws.{TakesAlike}
use Rattle.flex_program.specs.Program.{Member, Method, Program, SourceClass}

-- each class of the catalog is found by its name
found_back : (c : NativeClass) → class_named (name_of c) ≡ Some c
found_back native.EventDispatcher = refl
found_back native.UIComponent = refl
found_back native.SkinnableContainer = refl
found_back native.Group = refl
found_back native.VGroup = refl
found_back native.HGroup = refl
found_back native.Application = refl
found_back native.Panel = refl
found_back native.Label = refl
found_back native.Button = refl
found_back native.ToggleButton = refl
found_back native.CheckBox = refl
found_back native.TextInput = refl
found_back native.State = refl
found_back native.Event = refl
found_back native.MouseEvent = refl
found_back native.FlexEvent = refl

pub same_text : (a b : List ℕ) → bytes_eq a b ≡ true → a ≡ b
same_text a b e = (bytes_eq-Decides a b).0 e

pub text_itself : (a : List ℕ) → bytes_eq a a ≡ true
text_itself a = (bytes_eq-Decides a a).1 refl

same_native_is : (a b : NativeClass) → same_native a b ≡ true → a ≡ b
same_native_is a b e = ap (λ x. unwrap_or x a) (sym (found_back a) ∙ ap class_named (same_text (name_of a) (name_of b) e) ∙ found_back b)

pub same_number : (a b : ℕ) → (a == b) ≡ true → a ≡ b
same_number a b e = grind arith

pub same_class_is : (a b : Class) → same_class a b ≡ true → a ≡ b
same_class_is (Class.Native a) (Class.Native b) e = ap Class.Native (same_native_is a b e)
same_class_is (Class.File a) (Class.File b) e = ap Class.File (same_number a b e)
same_class_is (Class.Native a) (Class.File b) e = absurd (true≢false (sym e))
same_class_is (Class.File a) (Class.Native b) e = absurd (true≢false (sym e))

module _ (p : Program) where
  -- a class and its bases come to an end within so many
  abbrev pub IsShort : Option Class → ℕ → Type 0
  IsShort None n = Unit {0}
  IsShort (Some class) zero = ⊥
  IsShort (Some class) (suc n) = IsShort (base_in (bases p) class) n

  short_of : (n : ℕ) (x : Option Class) → slice_get (upward_in (bases p) (suc n) x) n ≡ None → IsShort x n
  short_of n None e = tt
  short_of zero (Some class) e = absurd (cc)
  short_of (suc n) (Some class) e = short_of n (base_in (bases p) class) e

  -- more than enough changes nothing
  pub more_fuel : (n m : ℕ) (x : Option Class) → IsShort x n → n ≤ m → upward_in (bases p) m x ≡ upward_in (bases p) n x
  more_fuel zero zero x s le = refl
  more_fuel zero (suc m) None s le = refl
  more_fuel zero (suc m) (Some class) s le = absurd s
  more_fuel (suc n) zero x s le = absurd (omega arith)
  more_fuel (suc n) (suc m) None s le = refl
  more_fuel (suc n) (suc m) (Some class) s le = ap (λ l. class ∷ l) (more_fuel n m (base_in (bases p) class) s (omega arith))

  -- a list of classes ends with the lineage of a class
  pub record EndsWith (xs : List Class) (a : Class) : Type 0 where
    pub front : List Class
    pub is : xs ≡ front ++ lineage_in (bases p) a

  -- the lineage of a class is the class, and then that of its base
  pub lineage_is : (a : Class) → upward_in (bases p) (length (bases p) + 4) (Some a) ≡ a ∷ upward_in (bases p) (length (bases p) + 3) (base_in (bases p) a)
  lineage_is a = let e : length (bases p) + 4 ≡ suc (length (bases p) + 3) = omega arith in ap (λ n. upward_in (bases p) n (Some a)) e

  -- where an ancestor is among so many, its lineage is the rest
  ends_with : (n : ℕ) (x : Option Class) → IsShort x n → n ≤ length (bases p) + 4 → (a : Class) → list_any (same_class a) (upward_in (bases p) n x) ≡ true → EndsWith (upward_in (bases p) n x) a
  ends_with zero x s le a e = absurd (true≢false (sym e))
  ends_with (suc n) None s le a e = absurd (true≢false (sym e))
  ends_with (suc n) (Some class) s le a e = by (same_class a class) refl e (λ h. ends_with n (base_in (bases p) class) s (omega arith) a h)
    where
      by : (b : Bool) → same_class a class ≡ b → (b || list_any (same_class a) (upward_in (bases p) n (base_in (bases p) class))) ≡ true
          → (list_any (same_class a) (upward_in (bases p) n (base_in (bases p) class)) ≡ true → EndsWith (upward_in (bases p) n (base_in (bases p) class)) a) → EndsWith (class ∷ upward_in (bases p) n (base_in (bases p) class)) a
      by true same h rest = record {
        front = [];
        is = sym (more_fuel (suc n) (length (bases p) + 4) (Some class) s le) ∙ ap (lineage_in (bases p)) (sym (same_class_is a class same));
      }
      by false same h rest = record { front = class ∷ (rest h).front; is = ap (λ l. class ∷ l) (rest h).is }

  -- no class above it comes again
  pub is_short : (class : Class) → has_no_ring p class ≡ true → IsShort (Some class) (length (bases p) + 4)
  is_short class e = short_of (length (bases p) + 4) (Some class) (none (slice_get (upward_in (bases p) (suc (length (bases p) + 4)) (Some class)) (length (bases p) + 4)) (subst (λ n. not (is_some (slice_get (upward_in (bases p) n (Some class)) (length (bases p) + 4))) ≡ true) five e))
    where
      five : length (bases p) + 5 ≡ suc (length (bases p) + 4)
      five = omega arith

      none : (x : Option Class) → not (is_some x) ≡ true → x ≡ None
      none None h = refl
      none (Some y) h = absurd (true≢false (sym h))

  -- a class that descends from another has the other's lineage behind its own
  pub descends_ends : (class a : Class) → has_no_ring p class ≡ true → descends (bases p) class a ≡ true → EndsWith (lineage_in (bases p) class) a
  descends_ends class a fine e = ends_with (length (bases p) + 4) (Some class) (is_short class fine) (omega arith) a e

  ends_then : (xs : List Class) (a b : Class) → EndsWith xs a → EndsWith (lineage_in (bases p) a) b → EndsWith xs b
  ends_then xs a b x y = record { front = x.front ++ y.front; is = x.is ∙ ap (λ l. x.front ++ l) y.is ∙ sym (append_assoc x.front y.front (lineage_in (bases p) b)) }

  pub same_class_itself : (a : Class) → same_class a a ≡ true
  same_class_itself (Class.Native a) = text_itself (name_of a)
  same_class_itself (Class.File a) = same_nat a
    where
      same_nat : (n : ℕ) → (n == n) ≡ true
      same_nat n = grind arith

  pub or_true : (b : Bool) → (b || true) ≡ true
  or_true true = refl
  or_true false = refl

  pub any_behind : (a : Class) (xs ys : List Class) → list_any (same_class a) ys ≡ true → list_any (same_class a) (xs ++ ys) ≡ true
  any_behind a [] ys e = e
  any_behind a (x ∷ xs) ys e = ap (λ b. same_class a x || b) (any_behind a xs ys e) ∙ or_true (same_class a x)

  pub any_first : (a : Class) (xs ys : List Class) → xs ≡ a ∷ ys → list_any (same_class a) xs ≡ true
  any_first a xs ys e = ap (list_any (same_class a)) e ∙ ap (λ b. b || list_any (same_class a) ys) (same_class_itself a)

  -- and the other way round
  pub ends_descends : (class a : Class) → EndsWith (lineage_in (bases p) class) a → descends (bases p) class a ≡ true
  ends_descends class a x =
      ap (list_any (same_class a)) x.is ∙ any_behind a x.front (lineage_in (bases p) a) (any_first a (lineage_in (bases p) a) (upward_in (bases p) (length (bases p) + 3) (base_in (bases p) a)) (lineage_is a))

  -- ancestors of ancestors are ancestors
  pub descends_then : (class a b : Class) → has_no_ring p class ≡ true → has_no_ring p a ≡ true → descends (bases p) class a ≡ true → descends (bases p) a b ≡ true → descends (bases p) class b ≡ true
  descends_then class a b fine fine1 e e1 = ends_descends class b (ends_then (lineage_in (bases p) class) a b (descends_ends class a fine e) (descends_ends a b fine1 e1))

  flat_map_append : {X Y : Type 0} (f : X → List Y) (xs ys : List X) → flat_map f (xs ++ ys) ≡ flat_map f xs ++ flat_map f ys
  flat_map_append f [] ys = refl
  flat_map_append f (x ∷ xs) ys = ap (λ l. f x ++ l) (flat_map_append f xs ys) ∙ sym (append_assoc (f x) (flat_map f xs) (flat_map f ys))

  -- the fields of a descendant end with those of its ancestor
  pub fields_end : (class a : Class) → (x : EndsWith (lineage_in (bases p) class) a) → fields_of p class ≡ flat_map (own_fields p) x.front ++ fields_of p a
  fields_end class a x = ap (flat_map (own_fields p)) x.is ∙ flat_map_append (own_fields p) x.front (lineage_in (bases p) a)

  -- a name that is found is among the names
  pub found_among : (name : List ℕ) (fields : List Field) (f : Field) → field_named name fields ≡ Some f → list_any (bytes_eq name) (map (λ g. g.name) fields) ≡ true
  found_among name [] f e = absurd (cc)
  found_among name (g ∷ fields) f e = by (bytes_eq g.name name) refl e (λ h. found_among name fields f h)
    where
      by : (b : Bool) → bytes_eq g.name name ≡ b → (if b then Some g else field_named name fields) ≡ Some f → (field_named name fields ≡ Some f → list_any (bytes_eq name) (map (λ h. h.name) fields) ≡ true)
          → (bytes_eq name g.name || list_any (bytes_eq name) (map (λ h. h.name) fields)) ≡ true
      by true same h rest = ap (λ b. b || list_any (bytes_eq name) (map (λ k. k.name) fields)) (subst (λ t. bytes_eq name t ≡ true) (sym (same_text g.name name same)) (text_itself name))
      by false same h rest = ap (λ b. bytes_eq name g.name || b) (rest h) ∙ or_true (bytes_eq name g.name)

  names_behind : (t : List ℕ) (xs ys : List Field) → list_any (bytes_eq t) (map (λ g. g.name) ys) ≡ true → list_any (bytes_eq t) (map (λ g. g.name) (xs ++ ys)) ≡ true
  names_behind t [] ys e = e
  names_behind t (x ∷ xs) ys e = ap (λ b. bytes_eq t x.name || b) (names_behind t xs ys e) ∙ or_true (bytes_eq t x.name)

  pub both_true : (a b : Bool) → (a && b) ≡ true → (a ≡ true) × (b ≡ true)
  both_true true b e = (refl, e)
  both_true false b e = absurd (true≢false (sym e))

  -- what is found behind is found, where names are distinct
  pub found_behind : (name : List ℕ) (xs ys : List Field) (f : Field) → are_distinct (map (λ g. g.name) (xs ++ ys)) ≡ true → field_named name ys ≡ Some f → field_named name (xs ++ ys) ≡ Some f
  found_behind name [] ys f d e = e
  found_behind name (x ∷ xs) ys f d e = by (bytes_eq x.name name) refl (found_behind name xs ys f (both_true _ _ d).1 e)
    where
      by : (b : Bool) → bytes_eq x.name name ≡ b → field_named name (xs ++ ys) ≡ Some f → (if b then Some x else field_named name (xs ++ ys)) ≡ Some f
      by false same rest = rest
      by true same rest = absurd (differs (list_any (bytes_eq x.name) (map (λ g. g.name) (xs ++ ys))) (both_true _ _ d).0 (subst (λ t. list_any (bytes_eq t) (map (λ g. g.name) (xs ++ ys)) ≡ true) (sym (same_text x.name name same)) (names_behind name xs ys (found_among name ys f e))))
        where
          differs : (b : Bool) → not b ≡ true → b ≡ true → ⊥
          differs true h k = true≢false (sym h)
          differs false h k = true≢false (sym k)

  -- a property that a class keeps is kept by the classes that descend from it, as the very same field
  pub field_below : (class a : Class) → has_no_ring p class ≡ true → has_fine_names p class ≡ true → descends (bases p) class a ≡ true → (name : List ℕ) (f : Field) → field_named name (fields_of p a) ≡ Some f → field_named name (fields_of p class) ≡ Some f
  field_below class a fine names e name f found =
      let x : EndsWith (lineage_in (bases p) class) a = descends_ends class a fine e in
      let d : are_distinct (map (λ g. g.name) (flat_map (own_fields p) x.front ++ fields_of p a)) ≡ true = subst (λ l. are_distinct (map (λ g. g.name) l) ≡ true) (fields_end class a x) (both_true _ _ names).0 in
      ap (field_named name) (fields_end class a x) ∙ found_behind name (flat_map (own_fields p) x.front) (fields_of p a) f d found

  pub same_type_is : (a b : StaticType) → same_type a b ≡ true → a ≡ b
  same_type_is StaticType.Int StaticType.Int e = refl
  same_type_is StaticType.Boolean StaticType.Boolean e = refl
  same_type_is StaticType.String StaticType.String e = refl
  same_type_is StaticType.Array StaticType.Array e = refl
  same_type_is (StaticType.Object a) (StaticType.Object b) e = ap StaticType.Object (same_class_is a b e)
  same_type_is StaticType.Any StaticType.Any e = refl
  same_type_is _ _ e = absurd (true≢false (sym e))

  pub same_types_are : (a b : List StaticType) → same_types a b ≡ true → a ≡ b
  same_types_are [] [] e = refl
  same_types_are [] (b ∷ bs) e = absurd (true≢false (sym e))
  same_types_are (a ∷ as1) [] e = absurd (true≢false (sym e))
  same_types_are (a ∷ as1) (b ∷ bs) e =
      let h : (same_type a b ≡ true) × (same_types as1 bs ≡ true) = both_true (same_type a b) (same_types as1 bs) e in
      ap (λ x. x ∷ as1) (same_type_is a b h.0) ∙ ap (λ l. b ∷ l) (same_types_are as1 bs h.1)

  pub held : {A : Type 0} (test : A → Bool) (x : Option A) → holds test x ≡ true → (y : A) × (x ≡ Some y) × (test y ≡ true)
  held test None e = absurd (true≢false (sym e))
  held test (Some y) e = (y, refl, e)

  pub same_result_is : (a b : Option StaticType) → same_result a b ≡ true → a ≡ b
  same_result_is None None e = refl
  same_result_is (Some a) (Some b) e = ap Some (same_type_is a b e)
  same_result_is None (Some b) e = absurd (true≢false (sym e))
  same_result_is (Some a) None e = absurd (true≢false (sym e))

  -- where parameters are all required, a call gives as many arguments
  required_count : (xs : List Parameter) (types : List StaticType) → required_types xs ≡ Some types → (n : ℕ) → accepts xs n ≡ (n == length types)
  required_count [] [] e n = refl
  required_count [] (t ∷ types) e n = absurd (cc)
  required_count (parameter.Optional t v ∷ xs) types e n = absurd (cc)
  required_count (parameter.Listener ∷ xs) types e n = absurd (cc)
  required_count (parameter.Required t ∷ xs) [] e n = absurd (none (required_types xs) e)
    where
      none : (x : Option (List StaticType)) → option_map (λ types. static_type t ∷ types) x ≡ Some [] → ⊥
      none None e1 = cc
      none (Some y) e1 = cc
  required_count (parameter.Required t ∷ xs) (u ∷ types) e zero = grind arith
  required_count (parameter.Required t ∷ xs) (u ∷ types) e (suc n) = required_count xs types (behind (required_types xs) e) n ∙ one_more n (length types)
    where
      one_more : (a b : ℕ) → (a == b) ≡ (suc a == suc b)
      one_more a b = grind arith

      behind : (x : Option (List StaticType)) → option_map (λ ts. static_type t ∷ ts) x ≡ Some (u ∷ types) → x ≡ Some types
      behind None e1 = absurd (cc)
      behind (Some y) e1 = ap (option_map (λ ts. drop 1 ts)) e1

  accepts_as : (y : Callee) (types : List StaticType) → callee_types p y ≡ Some types → (n : ℕ) → callee_accepts p y n ≡ (n == length types)
  accepts_as (Callee.Catalog m) types e n = required_count (parameters_of m) types e n
  accepts_as (Callee.Written m) types e n = by (method_numbered p m) refl e
    where
      by : (x : Option Method) → method_numbered p m ≡ x → option_map (λ z. z.parameters) x ≡ Some types → callee_accepts p (Callee.Written m) n ≡ (n == length types)
      by None here e1 = absurd (cc)
      by (Some z) here e1 = ap (holds (λ x. n == length x.parameters)) here ∙ ap (λ o. n == length (unwrap_or o types)) e1

  -- a method of this number takes and gives what one does that it overrides
  pub signature_alike : (i : ℕ) (m : Method) (y : Callee) → method_numbered p i ≡ Some m → has_signature p m y ≡ true → TakesAlike p (Callee.Written i) y
  signature_alike i m y here e =
      let s : (ts : List StaticType) × (callee_types p y ≡ Some ts) × (same_types m.parameters ts ≡ true) = held _ _ (both_true _ _ e).0 in
      let r : (t : Option StaticType) × (callee_gives p y ≡ Some t) × (same_result m.result t ≡ true) = held _ _ (both_true _ _ e).1 in
      let types : callee_types p (Callee.Written i) ≡ Some s.0 = ap (option_map (λ x. x.parameters)) here ∙ ap Some (same_types_are _ _ s.2) in
      record {
        counts = λ n. accepts_as (Callee.Written i) s.0 types n ∙ sym (accepts_as y s.0 s.1 n);
        types = types ∙ sym s.1;
        result = ap (option_map (λ x. x.result)) here ∙ ap Some (same_result_is _ _ r.2) ∙ sym r.1;
      }

  alike_then : (x y z : Callee) → TakesAlike p x y → TakesAlike p y z → TakesAlike p x z
  alike_then x y z a b = record { counts = λ n. a.counts n ∙ b.counts n; types = a.types ∙ b.types; result = a.result ∙ b.result }

  -- the method that a list of classes names for a name, which takes what another takes
  pub record Named (name : List ℕ) (xs : List Class) (y : Callee) : Type 0 where
    pub callee : Callee
    pub is : callee_in p name xs ≡ Some callee
    pub alike : TakesAlike p callee y

  member_found : (name : List ℕ) (xs : List Member) (x : Member) → find (λ m. bytes_eq m.name name) xs ≡ Some x → x.name ≡ name
  member_found name [] x e = absurd (cc)
  member_found name (m ∷ xs) x e = by (bytes_eq m.name name) refl e (λ h. member_found name xs x h)
    where
      some_is : (a b : Member) → Some a ≡ Some b → a.name ≡ b.name
      some_is a b e = ap (λ o. unwrap_or (option_map (λ g. g.name) o) a.name) e

      by : (b : Bool) → bytes_eq m.name name ≡ b → (if b then Some m else find (λ g. bytes_eq g.name name) xs) ≡ Some x → (find (λ g. bytes_eq g.name name) xs ≡ Some x → x.name ≡ name) → x.name ≡ name
      by true same h rest = sym (some_is m x h) ∙ same_text m.name name same
      by false same h rest = rest h

  -- each class declares members that are fine
  abbrev pub HasFineMembers : Type 0
  HasFineMembers = (k : ℕ) (name : List ℕ) (x : Member) → find (λ m. bytes_eq m.name name) (own_members p (Class.File k)) ≡ Some x → is_fine_member p (Class.File k) x ≡ true

  -- what is found in the bases of a class is what its base names
  pub base_callee : (n : ℕ) (name : List ℕ) (b : Class) → IsShort (Some b) n → n ≤ length (bases p) + 4 → callee p b name ≡ callee_in p name (upward_in (bases p) n (Some b))
  base_callee n name b s le = ap (callee_in p name) (more_fuel n (length (bases p) + 4) (Some b) s le)

  -- a member that a class declares takes what the method takes that it overrides
  pub member_alike : (k : ℕ) (b : Class) (name : List ℕ) (x : Member) (z : Callee) → base_in (bases p) (Class.File k) ≡ Some b → x.name ≡ name → callee p b name ≡ Some z → is_fine_member p (Class.File k) x ≡ true → TakesAlike p (Callee.Written x.method) z
  member_alike k b name x z base named found e =
      let m : (m : Method) × (method_numbered p x.method ≡ Some m) × ((is_fine_method p (Class.File k) m && overrides_well p (base_in (bases p) (Class.File k)) x.name m) ≡ true) = held _ _ e in
      let o : overrides_well p (Some b) name m.0 ≡ true = subst (λ t. overrides_well p (Some b) t m.0 ≡ true) named (subst (λ t. overrides_well p t x.name m.0 ≡ true) base (both_true (is_fine_method p (Class.File k) m.0) (overrides_well p (base_in (bases p) (Class.File k)) x.name m.0) m.2).1) in
      signature_alike x.method m.0 z m.1 (subst (λ c. unwrap_or (option_map (has_signature p m.0) c) true ≡ true) found o)

  pub none_above : (n : ℕ) (name : List ℕ) → callee_in p name (upward_in (bases p) n None) ≡ None
  none_above zero name = refl
  none_above (suc n) name = refl

  -- components have the methods of dispatchers alone
  dispatcher_lacks : (n : ℕ) (name : List ℕ) → own_callee p name (Class.Native native.EventDispatcher) ≡ None → callee_in p name (upward_in (bases p) n (Some (Class.Native native.UIComponent))) ≡ None
  dispatcher_lacks zero name e = refl
  dispatcher_lacks (suc zero) name e = refl
  dispatcher_lacks (suc (suc n)) name e = ap (λ o. or_else o (callee_in p name (upward_in (bases p) n None))) e ∙ none_above n name

  not_both : (o : Option Callee) (z : Callee) → o ≡ None → o ≡ Some z → ⊥
  not_both None z e h = cc
  not_both (Some x) z e h = cc

  -- a method of containers is none of dispatchers
  container_differs : (name : List ℕ) (x : Callee) → option_map Callee.Catalog (option_map (λ (m : NamedMethod). m.method) (find (λ (m : NamedMethod). bytes_eq name m.name) container_methods)) ≡ Some x → own_callee p name (Class.Native native.EventDispatcher) ≡ None
  container_differs name x e = first (bytes_eq name (codes "addElement")) refl e
    where
      Claim : Type 0
      Claim = own_callee p name (Class.Native native.EventDispatcher) ≡ None

      is_text : (t : List ℕ) → bytes_eq name t ≡ true → own_callee p t (Class.Native native.EventDispatcher) ≡ None → own_callee p name (Class.Native native.EventDispatcher) ≡ None
      is_text t same none = subst (λ u. own_callee p u (Class.Native native.EventDispatcher) ≡ None) (sym (same_text name t same)) none

      fourth : (b : Bool) → bytes_eq name (codes "getElementAt") ≡ b → option_map Callee.Catalog (option_map (λ (m : NamedMethod). m.method) (if b then Some (named_method (codes "getElementAt") catalog.GetElementAt) else None)) ≡ Some x → own_callee p name (Class.Native native.EventDispatcher) ≡ None
      fourth true same h = is_text (codes "getElementAt") same refl
      fourth false same h = absurd (cc)

      third : (b : Bool) → bytes_eq name (codes "removeAllElements") ≡ b
          → option_map Callee.Catalog (option_map (λ (m : NamedMethod). m.method) (if b then Some (named_method (codes "removeAllElements") catalog.RemoveAllElements) else find (λ (m : NamedMethod). bytes_eq name m.name) (named_method (codes "getElementAt") catalog.GetElementAt ∷ []))) ≡ Some x
          → own_callee p name (Class.Native native.EventDispatcher) ≡ None
      third true same h = is_text (codes "removeAllElements") same refl
      third false same h = fourth (bytes_eq name (codes "getElementAt")) refl h

      second : (b : Bool) → bytes_eq name (codes "removeElement") ≡ b
          → option_map Callee.Catalog (option_map (λ (m : NamedMethod). m.method) (if b then Some (named_method (codes "removeElement") catalog.RemoveElement) else find (λ (m : NamedMethod). bytes_eq name m.name) (named_method (codes "removeAllElements") catalog.RemoveAllElements ∷ named_method (codes "getElementAt") catalog.GetElementAt ∷ []))) ≡ Some x
          → own_callee p name (Class.Native native.EventDispatcher) ≡ None
      second true same h = is_text (codes "removeElement") same refl
      second false same h = third (bytes_eq name (codes "removeAllElements")) refl h

      first : (b : Bool) → bytes_eq name (codes "addElement") ≡ b
          → option_map Callee.Catalog (option_map (λ (m : NamedMethod). m.method) (if b then Some (named_method (codes "addElement") catalog.AddElement) else find (λ (m : NamedMethod). bytes_eq name m.name) (named_method (codes "removeElement") catalog.RemoveElement ∷ named_method (codes "removeAllElements") catalog.RemoveAllElements ∷ named_method (codes "getElementAt") catalog.GetElementAt ∷ []))) ≡ Some x
          → own_callee p name (Class.Native native.EventDispatcher) ≡ None
      first true same h = is_text (codes "addElement") same refl
      first false same h = second (bytes_eq name (codes "removeElement")) refl h

  -- no class of the catalog declares a method that its bases have
  pub natives_differ : (c : NativeClass) (n : ℕ) (name : List ℕ) (x z : Callee) → own_callee p name (Class.Native c) ≡ Some x → callee_in p name (upward_in (bases p) n (base_in (bases p) (Class.Native c))) ≡ Some z → ⊥
  natives_differ native.EventDispatcher n name x z e h = not_both _ z (none_above n name) h
  natives_differ native.SkinnableContainer n name x z e h = not_both _ z (dispatcher_lacks n name (container_differs name x e)) h
  natives_differ native.Group n name x z e h = not_both _ z (dispatcher_lacks n name (container_differs name x e)) h
  natives_differ native.Event n name x z e h = not_both _ z (none_above n name) h
  natives_differ _ n name x z e h = cc

  pub member_of : (name : List ℕ) (xs : Option Member) (o : Callee) → option_map (λ m. Callee.Written m.method) xs ≡ Some o → (x : Member) × (xs ≡ Some x) × (Some (Callee.Written x.method) ≡ Some o)
  member_of name None o e = absurd (cc)
  member_of name (Some x) o e = (x, refl, e)

  pub some_callee : (a b : Callee) → Some a ≡ Some b → a ≡ b
  some_callee a b e = ap (λ o. unwrap_or o a) e

  -- what a class declares takes what its bases' method takes
  own_alike : HasFineMembers → (class : Class) (n : ℕ) (name : List ℕ) (o z : Callee) → IsShort (base_in (bases p) class) n → n ≤ length (bases p) + 4 → own_callee p name class ≡ Some o → callee_in p name (upward_in (bases p) n (base_in (bases p) class)) ≡ Some z → TakesAlike p o z
  own_alike fine (Class.Native c) n name o z s le own h = absurd (natives_differ c n name o z own h)
  own_alike fine (Class.File k) n name o z s le own h =
      let x : (x : Member) × (find (λ m. bytes_eq m.name name) (own_members p (Class.File k)) ≡ Some x) × (Some (Callee.Written x.method) ≡ Some o) = member_of name _ o own in
      subst (λ t. TakesAlike p t z) (some_callee _ _ x.2) (by (base_in (bases p) (Class.File k)) refl s h x.0 x.1)
    where
      by : (b : Option Class) → base_in (bases p) (Class.File k) ≡ b → IsShort b n → callee_in p name (upward_in (bases p) n b) ≡ Some z → (x : Member) → find (λ m. bytes_eq m.name name) (own_members p (Class.File k)) ≡ Some x → TakesAlike p (Callee.Written x.method) z
      by None base s1 h1 x found = absurd (not_both _ z (none_above n name) h1)
      by (Some b) base s1 h1 x found = member_alike k b name x z base (member_found name (own_members p (Class.File k)) x found) (base_callee n name b s1 le ∙ h1) (fine k name x found)

  -- a method that a class names is named by the classes that descend from it, and takes and gives the same
  callee_below : HasFineMembers → (n : ℕ) (x : Option Class) → IsShort x n → n ≤ length (bases p) + 4 → (a : Class) (name : List ℕ) (y : Callee) → list_any (same_class a) (upward_in (bases p) n x) ≡ true → callee p a name ≡ Some y → Named name (upward_in (bases p) n x) y
  callee_below fine zero x s le a name y e k = absurd (true≢false (sym e))
  callee_below fine (suc n) None s le a name y e k = absurd (true≢false (sym e))
  callee_below fine (suc n) (Some class) s le a name y e k =
      by (same_class a class) refl e (λ h. callee_below fine n (base_in (bases p) class) s (omega arith) a name y h k)
    where
      own_first : (o : Option Callee) → own_callee p name class ≡ o → Named name (upward_in (bases p) n (base_in (bases p) class)) y → Named name (class ∷ upward_in (bases p) n (base_in (bases p) class)) y
      own_first None own rest = record { callee = rest.callee; is = ap (λ t. or_else t (callee_in p name (upward_in (bases p) n (base_in (bases p) class)))) own ∙ rest.is; alike = rest.alike }
      own_first (Some o) own rest = record { callee = o; is = ap (λ t. or_else t (callee_in p name (upward_in (bases p) n (base_in (bases p) class)))) own; alike = alike_then o rest.callee y (own_alike fine class n name o rest.callee s (omega arith) own rest.is) rest.alike }

      by : (b : Bool) → same_class a class ≡ b → (b || list_any (same_class a) (upward_in (bases p) n (base_in (bases p) class))) ≡ true
          → (list_any (same_class a) (upward_in (bases p) n (base_in (bases p) class)) ≡ true → Named name (upward_in (bases p) n (base_in (bases p) class)) y) → Named name (class ∷ upward_in (bases p) n (base_in (bases p) class)) y
      by true same h rest = record {
        callee = y;
        is = ap (callee_in p name) (sym (more_fuel (suc n) (length (bases p) + 4) (Some class) s le)) ∙ ap (λ c. callee p c name) (sym (same_class_is a class same)) ∙ k;
        alike = record { counts = λ n. refl; types = refl; result = refl };
      }
      by false same h rest = own_first (own_callee p name class) refl (rest h)

  pub callee_of_descendant : HasFineMembers → (class a : Class) (name : List ℕ) (y : Callee) → has_no_ring p class ≡ true → descends (bases p) class a ≡ true → callee p a name ≡ Some y → Named name (lineage_in (bases p) class) y
  callee_of_descendant fine class a name y ring e k = callee_below fine (length (bases p) + 4) (Some class) (is_short class ring) (omega arith) a name y e k

  pub class_at : (i : ℕ) (classes : List SourceClass) → are_fine_classes p i classes ≡ true → (k : ℕ) (x : SourceClass) → slice_get classes k ≡ Some x → is_fine_class p (i + k) x ≡ true
  class_at i [] e k x h = absurd (cc)
  class_at i (y ∷ classes) e zero x h = subst (λ n. is_fine_class p n x ≡ true) (omega arith) (subst (λ z. is_fine_class p i z ≡ true) (same_item y x h) (both_true (is_fine_class p i y) (are_fine_classes p (suc i) classes) e).0)
    where
      same_item : (a b : SourceClass) → Some a ≡ Some b → a ≡ b
      same_item a b e = ap (λ o. unwrap_or o a) e
  class_at i (y ∷ classes) e (suc k) x h =
      subst (λ n. is_fine_class p n x ≡ true) (omega arith) (class_at (suc i) classes (both_true (is_fine_class p i y) (are_fine_classes p (suc i) classes) e).1 k x h)

  -- each class of a fine program is fine
  pub fine_class : is_fine p ≡ true → (k : ℕ) (x : SourceClass) → slice_get p.classes k ≡ Some x → is_fine_class p k x ≡ true
  fine_class e k x h = subst (λ n. is_fine_class p n x ≡ true) (zero-add k) (class_at 0 p.classes (both_true _ _ (both_true _ _ e).0).0 k x h)

  member_fine : (this : Class) (name : List ℕ) (xs : List Member) (x : Member) → list_all (is_fine_member p this) xs ≡ true → find (λ m. bytes_eq m.name name) xs ≡ Some x → is_fine_member p this x ≡ true
  member_fine this name [] x e h = absurd (cc)
  member_fine this name (m ∷ xs) x e h = by (bytes_eq m.name name) h (member_fine this name xs x (both_true (is_fine_member p this m) (list_all (is_fine_member p this) xs) e).1)
    where
      some_is : (a b : Member) → Some a ≡ Some b → a ≡ b
      some_is a b e = ap (λ o. unwrap_or o a) e

      by : (b : Bool) → (if b then Some m else find (λ g. bytes_eq g.name name) xs) ≡ Some x → (find (λ g. bytes_eq g.name name) xs ≡ Some x → is_fine_member p this x ≡ true) → is_fine_member p this x ≡ true
      by true h1 rest = subst (λ z. is_fine_member p this z ≡ true) (some_is m x h1) (both_true (is_fine_member p this m) (list_all (is_fine_member p this) xs) e).0
      by false h1 rest = rest h1

  -- a fine program has fine members
  pub fine_members : is_fine p ≡ true → HasFineMembers
  fine_members e k name x h = by (slice_get p.classes k) refl h
    where
      by : (o : Option SourceClass) → slice_get p.classes k ≡ o → find (λ m. bytes_eq m.name name) (unwrap_or (option_map (λ c. c.members) o) []) ≡ Some x → is_fine_member p (Class.File k) x ≡ true
      by None here h1 = absurd (cc)
      by (Some c) here h1 = member_fine (Class.File k) name c.members x (both_true _ _ (both_true _ _ (both_true _ _ (fine_class e k c here)).0).0).1 h1

  -- no class of a fine program is its own ancestor
  pub fine_ring : is_fine p ≡ true → (k : ℕ) (x : SourceClass) → slice_get p.classes k ≡ Some x → has_no_ring p (Class.File k) ≡ true
  fine_ring e k x h = (both_true _ _ (both_true _ _ (both_true _ _ (both_true _ _ (both_true _ _ (fine_class e k x h)).0).0).0).0).0

  pub fine_names : is_fine p ≡ true → (k : ℕ) (x : SourceClass) → slice_get p.classes k ≡ Some x → has_fine_names p (Class.File k) ≡ true
  fine_names e k x h = (both_true _ _ (both_true _ _ (both_true _ _ (both_true _ _ (both_true _ _ (fine_class e k x h)).0).0).0).0).1
