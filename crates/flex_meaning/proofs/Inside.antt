-- The instances of a document, the objects that they are, and the runs of bindings.
use Rattle.std.proofs.Common.{List, [], ap, refl, subst, suc, sym, true≢false, zero, ℕ, ◌∙◌, ◌∷◌, ◌≡◌}
use Rattle.std.specs.List.{find, list_all}
use Rattle.std.specs.Prelude.{Bool, None, Option, Some, false, if◌then◌else◌, map, option_and_then, option_map, slice_get, true, ◌==◌}
use Rattle.flex_base.specs.Value.{is_object}
use Rattle.flex_base.specs.declared.value.ObjId.{ObjId}
use Rattle.flex_base.specs.declared.value.Value.{Value}
use Rattle.flex_world.specs.Classes.{base_in, descends, is_component, same_class}
use Rattle.flex_world.specs.declared.kind.Class.{Class}
use Rattle.flex_world.specs.declared.kind.StaticType.{StaticType}
use Rattle.flex_world.specs.Objects.{Instance_of, Object, without_number}
use Rattle.flex_program.proofs.ClassLaws.{both_true, held, same_class_is, same_number}
use Rattle.flex_program.proofs.Facts.{base_above, descends_itself, property_of_kept}
use Rattle.flex_program.proofs.Inverted.{All, all_append, all_found, all_get, all_passing, map_is, same_some, some_is, then_is}
use Rattle.flex_program.specs.Classes.{bases, document_of}
use Rattle.flex_program.specs.Fine.{are_fine_items, are_numbered, can_write, class_of_type, ends_well, holds, instance_class, is_fine, is_fine_binding, is_fine_contents, is_fine_destination, is_fine_document, is_fine_given, is_fine_instance, is_fine_made, is_fine_part, is_fine_source, is_fine_state, own_scope, property_type, type_of, written_type}
use Rattle.flex_program.specs.Instances.{given_instances, instance_numbered, instances_in, instances_of, items_instances, part_of, parts_of}
use Rattle.flex_program.specs.Program.{Binding, BindingSource, Contents, Destination, Document, Given, Givens, Instance, Part, Program}
use Rattle.flex_meaning.proofs.Acting.{keeping_from}
use Rattle.flex_meaning.proofs.Changing.{read_safe}
use Rattle.flex_meaning.proofs.Evaluating.{eval_safe}
use Rattle.flex_meaning.proofs.Executing.{kept_of_written}
use Rattle.flex_meaning.proofs.Holding.{BuiltFine, IsA, IsDocument, OfType, T_no_object, T_object, Typed, Valid, kind_at}
use Rattle.flex_meaning.proofs.Keeping.{Safe, document_later, isa_later, later_same, safe_bind, safe_done, safe_found, safe_from, safe_later, safe_map, safe_on, valid_of}
use Rattle.flex_meaning.proofs.Kept.{Kept}
use Rattle.flex_meaning.proofs.Writing.{assign_safe, document_in_is, fine_document}
use Rattle.flex_meaning.specs.Activities.{Context, Does}
use Rattle.flex_meaning.specs.Bindings.{Target, caught, closed, destination, end_of_chain, go_on, opened, read_built, run_binding, source, target, transfer, write_source, write_target}
use Rattle.flex_meaning.specs.Results.{Ends, Goes, Halts, Result, Stuck}
use Rattle.flex_meaning.specs.Storing.{binding_of}
use Rattle.flex_meaning.specs.Tasks.{context}
use Rattle.flex_meaning.specs.World.{Built, World, built_object, is_of_instance}

module _ (p : Program) where
  pub same_object : (a b : ObjId) → is_object a b ≡ true → a ≡ b
  same_object a b e = λ i. record { 0 = (same_number a.0 b.0 e) i }

  module _ (this : Class) (root : Instance) where
    abbrev pub IsInner : Instance → Type 0
    IsInner i = (is_fine_instance p this root i ≡ true) × (is_fine_made p this root i ≡ true)

    mutual
      inside_instance : (i : Instance) → is_fine_instance p this root i ≡ true → is_fine_made p this root i ≡ true → All IsInner (instances_of i)
      inside_instance (Instance.Holding part contents) e m =
          ((e, m), inside_contents part.class contents (both_true p (is_fine_part p this root part) (is_fine_contents p this root part.class contents) e).1)

      pub inside_contents : (class : Class) (contents : Contents) → is_fine_contents p this root class contents ≡ true → All IsInner (instances_in contents)
      inside_contents class Contents.NoContent e = tt
      inside_contents class (Contents.Child i contents) e =
          let a = both_true p _ (is_fine_contents p this root class contents) e in
          let b = both_true p _ (is_fine_instance p this root i) a.0 in
          let d = both_true p _ (is_fine_made p this root i) b.0 in
          all_append _ (instances_of i) (instances_in contents) (inside_instance i b.1 d.1) (inside_contents class contents a.1)
      inside_contents class (Contents.Tag name value contents) e =
          let a = both_true p _ (is_fine_contents p this root class contents) e in
          let b = both_true p _ (is_fine_given p this root value) a.0 in
          all_append _ (given_instances value) (instances_in contents) (inside_given value b.1) (inside_contents class contents a.1)
      inside_contents class (Contents.Declared i contents) e =
          let a = both_true p _ (is_fine_contents p this root class contents) e in
          let b = both_true p (is_fine_made p this root i) (is_fine_instance p this root i) a.0 in
          all_append _ (instances_of i) (instances_in contents) (inside_instance i b.1 b.0) (inside_contents class contents a.1)
      inside_contents class (Contents.Declared_value id value contents) e =
          let a = both_true p _ (is_fine_contents p this root class contents) e in
          let b = both_true p _ (is_fine_given p this root value) a.0 in
          all_append _ (given_instances value) (instances_in contents) (inside_given value b.1) (inside_contents class contents a.1)

      inside_given : (value : Given) → is_fine_given p this root value ≡ true → All IsInner (given_instances value)
      inside_given (Given.Given_literal value) e = tt
      inside_given (Given.Given_instance i) e = let b = both_true p (is_fine_made p this root i) (is_fine_instance p this root i) e in inside_instance i b.1 b.0
      inside_given (Given.Given_array items) e = inside_items items e

      inside_items : (items : Givens) → are_fine_items p this root items ≡ true → All IsInner (items_instances items)
      inside_items Givens.NoGiven e = tt
      inside_items (Givens.MoreGiven x items) e =
          let a = both_true p (is_fine_given p this root x) (are_fine_items p this root items) e in
          all_append _ (given_instances x) (items_instances items) (inside_given x a.0) (inside_items items a.1)

    -- parts and instances of a number
    found_part : (number : ℕ) (xs : List Instance) → find (λ part. part.number == number) (map part_of xs) ≡ option_map part_of (find (λ i. (part_of i).number == number) xs)
    found_part number [] = refl
    found_part number (x ∷ xs) = by ((part_of x).number == number) (found_part number xs)
      where
        by : (b : Bool) → find (λ part. part.number == number) (map part_of xs) ≡ option_map part_of (find (λ i. (part_of i).number == number) xs)
            → (if b then Some (part_of x) else find (λ part. part.number == number) (map part_of xs)) ≡ option_map part_of (if b then Some x else find (λ i. (part_of i).number == number) xs)
        by true rest = refl
        by false rest = rest

    class_of_some : (x : Option Instance) (c : Class) → option_map (λ (part : Part). part.class) (option_map part_of x) ≡ Some c → (i : Instance) × (x ≡ Some i) × ((part_of i).class ≡ c)
    class_of_some None c e = absurd (cc)
    class_of_some (Some i) c e = (i, refl, same_some _ _ e)

    pub class_instance : (number : ℕ) (c : Class) → instance_class p this root number ≡ Some c → (i : Instance) × (instance_numbered root number ≡ Some i) × ((part_of i).class ≡ c)
    class_instance number c e = class_of_some (instance_numbered root number) c (sym (ap (option_map (λ (part : Part). part.class)) (found_part number (instances_of root))) ∙ e)

    pub instance_class_of : (number : ℕ) (i : Instance) → instance_numbered root number ≡ Some i → instance_class p this root number ≡ Some (part_of i).class
    instance_class_of number i e = ap (option_map (λ (part : Part). part.class)) (found_part number (instances_of root)) ∙ ap (λ x. option_map (λ (part : Part). part.class) (option_map part_of x)) e

  -- what is known of a document of a fine program
  pub record DocumentFine (this : Class) (d : Document) : Type 0 where
    pub component : is_component (bases p) this ≡ true
    pub numbered : are_numbered p 0 (parts_of d.root) ≡ true
    pub base : base_in (bases p) this ≡ Some (part_of d.root).class
    pub root : is_fine_instance p this d.root d.root ≡ true
    pub bindings : All (λ b. is_fine_binding p this d.root b ≡ true) d.bindings
    pub states : All (λ s. is_fine_state p this d.root s ≡ true) d.states

  pub document_fine : (this : Class) (d : Document) → is_fine_document p this d ≡ true → DocumentFine this d
  document_fine this d e =
      let a5 = both_true p _ (list_all (is_fine_state p this d.root) d.states) e in
      let a4 = both_true p _ (list_all (is_fine_binding p this d.root) d.bindings) a5.0 in
      let a3 = both_true p _ (is_fine_instance p this d.root d.root) a4.0 in
      let a2 = both_true p _ (holds (same_class (part_of d.root).class) (base_in (bases p) this)) a3.0 in
      let a1 = both_true p (is_component (bases p) this) (are_numbered p 0 (parts_of d.root)) a2.0 in
      let b = held p (same_class (part_of d.root).class) (base_in (bases p) this) a2.1 in
      record { component = a1.0; numbered = a1.1; base = b.1 ∙ ap Some (sym (same_class_is _ b.0 b.2)); root = a3.1; bindings = all_passing _ d.bindings a4.1; states = all_passing _ d.states a5.1 }

  -- an instance that isn't the root lies inside it
  pub inner_numbered : (this : Class) (d : Document) → DocumentFine this d → (number : ℕ) (i : Instance) → (number == 0) ≡ false → instance_numbered d.root number ≡ Some i → IsInner this d.root i
  inner_numbered this d h number i e f = by d.root h.root h.numbered f (λ contents class g k. (all_found _ (λ j. (part_of j).number == number) (instances_in contents) i k (inside_contents this d.root class contents g)).0)
    where
      by : (r : Instance) → is_fine_instance p this d.root r ≡ true → are_numbered p 0 (parts_of r) ≡ true → find (λ j. (part_of j).number == number) (instances_of r) ≡ Some i
          → ((contents : Contents) (class : Class) → is_fine_contents p this d.root class contents ≡ true → find (λ j. (part_of j).number == number) (instances_in contents) ≡ Some i → IsInner this d.root i) → IsInner this d.root i
      by (Instance.Holding part contents) g k f1 rest = one (part.number == number) refl f1
        where
          one : (b : Bool) → (part.number == number) ≡ b → (if b then Some (Instance.Holding part contents) else find (λ j. (part_of j).number == number) (instances_in contents)) ≡ Some i → IsInner this d.root i
          one true same f2 =
              let zero_is : part.number ≡ 0 = same_number part.number 0 (both_true p (part.number == 0) _ k).0 in
              absurd (true≢false (sym (ap (λ x. x == 0) (sym (same_number part.number number same) ∙ zero_is)) ∙ e))
          one false same f2 = rest contents part.class (both_true p (is_fine_part p this d.root part) (is_fine_contents p this d.root part.class contents) g).1 f2

  pub kinds_agree : (os : List Object) (o : ObjId) (a b : Class) → kind_at os o ≡ Some (Instance_of a) → kind_at os o ≡ Some (Instance_of b) → a ≡ b
  kinds_agree os o a b e h = one a b (sym e ∙ h)
    where
      one : (x y : Class) → Some (Instance_of x) ≡ Some (Instance_of y) → x ≡ y
      one x y g = cc

  -- the object that an instance is, is of its class
  pub built_class : (this : Class) (d : Document) → DocumentFine this d → (o : ObjId) (w : World) → IsDocument p w.objects o this d → Typed p w → (number : ℕ) (x : ObjId) (c : Class) → built_object w.built o number ≡ Some x → instance_class p this d.root number ≡ Some c → IsA p w.objects x c
  built_class this d h o w is ty zero x c e k = subst (λ y. IsA p w.objects y c) (same_some o x e) (record { class = this; at = is.at; is = subst (λ y. descends (bases p) this y ≡ true) (root_class d.root h.numbered k) (base_above p this _ h.base) })
    where
      root_class : (r : Instance) → are_numbered p 0 (parts_of r) ≡ true → option_map (λ (part : Part). part.class) (find (λ part. part.number == 0) (parts_of r)) ≡ Some c → (part_of r).class ≡ c
      root_class (Instance.Holding part contents) g f = one (part.number == 0) refl (both_true p (part.number == 0) _ g).0 f
        where
          one : (b : Bool) → (part.number == 0) ≡ b → b ≡ true → option_map (λ (q : Part). q.class) (if b then Some part else find (λ q. q.number == 0) (map part_of (instances_in contents))) ≡ Some c → part.class ≡ c
          one true a b1 f1 = same_some _ _ f1
          one false a b1 f1 = absurd (true≢false (sym b1))
  built_class this d h o w is ty (suc n) x c e k =
      let b = map_is (λ (y : Built). y.object) (find (is_of_instance o (suc n)) w.built) x e in
      let f = all_found (BuiltFine p w.objects) (is_of_instance o (suc n)) w.built b.0 b.1 ty.1 in
      let g = both_true p (is_object b.0.document o) (b.0.instance == suc n) f.1 in
      let at : kind_at w.objects o ≡ Some (Instance_of f.0.class) = ap (kind_at w.objects) (sym (same_object _ _ g.0)) ∙ f.0.is.at in
      let class : f.0.class ≡ this = kinds_agree w.objects o f.0.class this at is.at in
      let document : f.0.document ≡ d = same_some _ _ (sym f.0.is.is ∙ ap (document_of p) class ∙ is.is) in
      let part : f.0.part ≡ c = same_some _ _ (sym f.0.of ∙ ap (λ y. instance_class p f.0.class y.root b.0.instance) document ∙ ap (instance_class p f.0.class d.root) (same_number _ _ g.1) ∙ k) in
      subst (λ y. IsA p w.objects y c) b.2 (subst (λ y. IsA p w.objects b.0.object y) part f.0.object)

  module _ (fine : is_fine p ≡ true) (n : ℕ) (does : Does) (law : Kept p does) where
    abbrev c : Context
    c = context p n does

    -- what a binding writes is a property that can be written
    abbrev pub TargetFine : Option Target → List Object → Type 0
    TargetFine None os = Unit {0}
    TargetFine (Some t) os = (a : Class) × (u : StaticType) × IsA p os t.object a × (written_type p a t.name ≡ Some u)

    object_class_of : (t : StaticType) (a : Class) → class_of_type t ≡ Some a → t ≡ StaticType.Object a
    object_class_of (StaticType.Object b) a e = ap StaticType.Object (same_some b a e)
    object_class_of _ a e = absurd (cc)

    go_safe : (next : ObjId → World → Result (Option Target)) (v : Value) (a : Class) (w : World) → OfType p w.objects v (StaticType.Object a) → ((o : ObjId) → IsA p w.objects o a → Safe p false w.objects (next o w) TargetFine) → Typed p w → Safe p false w.objects (go_on next v w) TargetFine
    go_safe next v a w (T_object o k b e d) f ty = f o (record { class = k; at = e; is = d })
    go_safe next v a w (T_no_object b) f ty = safe_done p ty tt

    chain_safe : (this : Class) (root : Instance) (name : List ℕ) (names : List (List ℕ)) (o : ObjId) (a : Class) (w : World) → ends_well p this root name names a ≡ true → IsA p w.objects o a → Typed p w → Safe p false w.objects (end_of_chain p name names o w) TargetFine
    chain_safe this root name [] o a w e i ty = let u = some_is (written_type p a name) e in safe_done p ty (a, u.0, i, u.1)
    chain_safe this root name (next ∷ names) o a w e i ty =
        let h = held p (ends_well p this root next names) (option_and_then class_of_type (property_type p a name)) e in
        let t = then_is class_of_type (property_type p a name) h.0 h.1 in
        safe_bind p (read_safe p fine o a name (StaticType.Object h.0) w i (t.1 ∙ ap Some (object_class_of t.0 h.0 t.2)) ty)
        (λ v w1 l k. go_safe (end_of_chain p next names) v h.0 w1 k (λ x j. chain_safe this root next names x h.0 w1 h.2 j l.typed) l.typed)

    destination_safe : (this : Class) (d : Document) → DocumentFine this d → (o : ObjId) (t : Destination) (w : World) → is_fine_destination p this d.root t ≡ true → IsDocument p w.objects o this d → Typed p w → Safe p false w.objects (destination p o t w) TargetFine
    destination_safe this d h o (Destination.In_instance i name) w e is ty = safe_done p ty (by (built_object w.built o i) refl)
      where
        g : (a : Class) × (instance_class p this d.root i ≡ Some a) × (can_write p a name ≡ true)
        g = held p (λ class. can_write p class name) (instance_class p this d.root i) e

        by : (x : Option ObjId) → built_object w.built o i ≡ x → TargetFine (option_map (target name) x) w.objects
        by None f = tt
        by (Some x) f = let u = some_is (written_type p g.0 name) g.2 in (g.0, u.0, built_class this d h o w is ty i x g.0 f g.1, u.1)
    destination_safe this d h o (Destination.At_chain []) w e is ty = absurd (true≢false (sym e))
    destination_safe this d h o (Destination.At_chain (name ∷ names)) w e is ty = chain_safe this d.root name names o this w e (record { class = this; at = is.at; is = descends_itself p this }) ty

    abbrev pub Given_valid : Option Value → List Object → Type 0
    Given_valid None os = Unit {0}
    Given_valid (Some v) os = Valid p os v

    caught_safe : (os : List Object) (r : Result Value) → Safe p true os r (λ v os1. Valid p os1 v) → Safe p false os (caught r) Given_valid
    caught_safe os (Goes v w) s = record { holds = s.holds }
    caught_safe os (Halts o w) s = record { holds = s.holds }
    caught_safe os (Ends w) s = record { holds = (s.holds.1, tt) }
    caught_safe os (Stuck w) s = absurd s.holds

    source_safe : (this : Class) (d : Document) → DocumentFine this d → (o : ObjId) (x : BindingSource) (w : World) → is_fine_source p this d.root x ≡ true → IsDocument p w.objects o this d → Typed p w → Safe p true w.objects (source c o x w) (λ v os. Valid p os v)
    source_safe this d h o (BindingSource.An_expression e) w f is ty =
        let t = some_is (type_of p (own_scope p this d.root) e) f in
        safe_map p (eval_safe p fine n does law true (own_scope p this d.root) e t.0 t.1 (record { this = o; locals = [] }) w (record { class = this; at = is.at; is = descends_itself p this }, tt) ty) (λ v w1 l k. valid_of p k)
    source_safe this d h o (BindingSource.A_property i name) w f is ty = by (built_object w.built o i) refl
      where
        g : (a : Class) × (instance_class p this d.root i ≡ Some a) × (can_write p a name ≡ true)
        g = held p (λ class. can_write p class name) (instance_class p this d.root i) f

        by : (x : Option ObjId) → built_object w.built o i ≡ x → Safe p true w.objects (read_built p name x w) (λ v os. Valid p os v)
        by None e = record { holds = (refl, record { later = later_same p w.objects; typed = ty }) }
        by (Some x) e = let u = some_is (written_type p g.0 name) g.2 in
            safe_map p (read_safe p fine x g.0 name u.0 w (built_class this d h o w is ty i x g.0 e g.1) (property_of_kept p name g.0 u.0 (kept_of_written p g.0 name u.0 u.1)) ty) (λ v w1 l k. valid_of p k)

    transfer_safe : (this : Class) (d : Document) → DocumentFine this d → (o : ObjId) (b : Binding) (w : World) → is_fine_binding p this d.root b ≡ true → IsDocument p w.objects o this d → Typed p w → Safe p false w.objects (transfer c o b w) (λ _ _. Unit {0})
    transfer_safe this d h o b w e is ty =
        let f = both_true p (is_fine_source p this d.root b.source) (is_fine_destination p this d.root b.destination) e in
        safe_bind p (destination_safe this d h o b.destination w f.1 is ty) (λ t w1 l k. by t w1 f.0 k (document_later p l.later is) l.typed)
      where
        written : (t : Target) (v : Option Value) (w2 : World) → Given_valid v w2.objects → TargetFine (Some t) w2.objects → Typed p w2 → Safe p false w2.objects (write_target c t v w2) (λ _ _. Unit {0})
        written t None w2 k g ty2 = safe_done p {w = w2} ty2 tt
        written t (Some v) w2 k g ty2 = assign_safe p fine n does law t.object g.0 t.name g.1 v w2 g.2 g.3 k ty2

        by : (t : Option Target) (w1 : World) → is_fine_source p this d.root b.source ≡ true → TargetFine t w1.objects → IsDocument p w1.objects o this d → Typed p w1 → Safe p false w1.objects (write_source c o b.source t w1) (λ _ _. Unit {0})
        by None w1 f k is1 ty1 = safe_done p {w = w1} ty1 tt
        by (Some t) w1 f k is1 ty1 = safe_bind p (caught_safe w1.objects (source c o b.source w1) (source_safe this d h o b.source w1 f is1 ty1)) (λ v w2 l g. written t v w2 g (k.0, k.1, isa_later p l.later k.2, k.3) l.typed)

    pub run_binding_safe : (o : ObjId) (number : ℕ) (this : Class) (d : Document) (b : Binding) (w : World) → IsDocument p w.objects o this d → slice_get d.bindings number ≡ Some b → Typed p w → Safe p false w.objects (run_binding c o number w) (λ _ _. Unit {0})
    run_binding_safe o number this d b w is e ty =
        let h = document_fine this d (fine_document p fine this d is.is) in
        let f = keeping_from p o (λ k. record k { open_bindings = number ∷ k.open_bindings }) w (λ x e h. h) (λ x e h. h) ty in
        safe_on p o w (Instance_of this) _ is.at ty
        (λ x here same th. safe_found p (binding_of c x number) w _ b (ap (option_and_then (λ y. slice_get y.bindings number)) (document_in_is p x this d same is.is) ∙ e)
        (safe_bind p (safe_later p f.later (transfer c o b (opened o number w)) (transfer_safe this d h o b (opened o number w) (all_get _ d.bindings number b e h.bindings) (document_later p f.later is) f.typed))
        (λ _ w1 l _. safe_from p {w = closed o number w1} (keeping_from p o (λ k. record k { open_bindings = without_number number k.open_bindings }) w1 (λ x e h. h) (λ x e h. h) l.typed) tt)))
