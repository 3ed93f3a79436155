-- What a change of one object makes of all of them.
use Rattle.std.proofs.Common.{◌≡◌, ℕ, zero, suc, List, [], ◌∷◌, Bool, true, false, Option, Some, None, refl, ap, sym, subst, arith, ◌-◌, ◌<◌, ◌++◌, ◌∙◌, slice_set, length, IsSome}
use Rattle.std.specs.Prelude.{slice_get, if◌then◌else◌}
use Rattle.std.specs.Str.{bytes_eq}
use Rattle.flex_base.specs.declared.value.Value.{Value}
use Rattle.avm2_machine.specs.declared.stage.Slot.{Slot}
use Rattle.avm2_machine.specs.declared.stage.Object.{Object}
use Rattle.avm2_machine.specs.declared.stage.Registration.{Registration}
use Rattle.avm2_machine.specs.declared.stage.Stage.{Stage}
use Rattle.flex_base.specs.declared.value.ObjId.{ObjId}
use Rattle.flex_base.specs.Lists.{changed_at, changed_entry, entry, one_later}
use Rattle.avm2_machine.specs.Stage.{object_at, property, slot_of, with_last, with_parent, with_listener, with_property, with_value, place_of, slot_named}

pub changed_at-set : (f : Object → Object) (objects : List Object) (n : ℕ) (o : Object) → slice_get objects n ≡ Some o → changed_at f objects n ≡ slice_set objects n (f o)
changed_at-set f [] n o h = refl
changed_at-set f (x ∷ objects) zero o h = let e : x ≡ o = cc in ap (λ y. f y ∷ objects) e
changed_at-set f (x ∷ objects) (suc n) o h = ap (λ xs. x ∷ xs) (changed_at-set f objects n o h)

pub changed_entry-set : (f : Object → Object) (objects : List Object) (n : ℕ) (o : Object) → 0 < n → slice_get objects (n - 1) ≡ Some o → changed_entry f objects n ≡ slice_set objects (n - 1) (f o)
changed_entry-set f objects zero o pos h = absurd (omega arith)
changed_entry-set f objects (suc n) o pos h =
    let e : suc n - 1 ≡ n = omega arith in
    let at : slice_get objects n ≡ Some o = subst (λ k. slice_get objects k ≡ Some o) e h in
    subst (λ k. changed_at f objects n ≡ slice_set objects k (f o)) (sym e) (changed_at-set f objects n o at)

pub changed_at-none : (f : Object → Object) (objects : List Object) (n : ℕ) → slice_get objects n ≡ None → changed_at f objects n ≡ objects
changed_at-none f [] n h = refl
changed_at-none f (x ∷ objects) zero h = absurd (cc)
changed_at-none f (x ∷ objects) (suc n) h = ap (λ xs. x ∷ xs) (changed_at-none f objects n h)

pub changed_entry-none : (f : Object → Object) (objects : List Object) (n : ℕ) → 0 < n → slice_get objects (n - 1) ≡ None → changed_entry f objects n ≡ objects
changed_entry-none f objects zero pos h = refl
changed_entry-none f objects (suc n) pos h =
    let e : suc n - 1 ≡ n = omega arith in
    changed_at-none f objects n (subst (λ k. slice_get objects k ≡ None) e h)

pub entry-get : (objects : List Object) (n : ℕ) → 0 < n → entry objects n ≡ slice_get objects (n - 1)
entry-get objects zero pos = absurd (omega arith)
entry-get objects (suc n) pos = let e : n ≡ suc n - 1 = omega arith in ap (slice_get objects) e

-- the first property is the one of this name, or a later one is
with_value-cases : (name : List ℕ) (v : Value) (x : Slot) (slots : List Slot) (s : Slot) → ((n : ℕ) → place_of name slots ≡ Some n → slice_get slots n ≡ Some s → with_value name v slots ≡ slice_set slots n (record s { value = v })) → (t : Bool) (p : Option ℕ) → place_of name slots ≡ p → (n : ℕ) → (if t then Some 0 else one_later p) ≡ Some n → slice_get (x ∷ slots) n ≡ Some s → (if t then record x { value = v } ∷ slots else x ∷ with_value name v slots) ≡ slice_set (x ∷ slots) n (record s { value = v })
with_value-cases name v x slots s more true p e zero h g =
    let same : x ≡ s = cc in
    let F : Slot → List Slot = λ y. record y { value = v } ∷ slots in
    ap F same
with_value-cases name v x slots s more true p e (suc n) h g = absurd (cc)
with_value-cases name v x slots s more false None e n h g = absurd (cc)
with_value-cases name v x slots s more false (Some j) e zero h g = absurd (cc)
with_value-cases name v x slots s more false (Some j) e (suc n) h g =
    let same : j ≡ n = cc in
    let at : place_of name slots ≡ Some n = cc in
    ap (λ xs. x ∷ xs) (more n at g)

pub with_value-set : (name : List ℕ) (v : Value) (slots : List Slot) (n : ℕ) (s : Slot) → place_of name slots ≡ Some n → slice_get slots n ≡ Some s → with_value name v slots ≡ slice_set slots n (record s { value = v })
with_value-set name v [] n s h g = refl
with_value-set name v (x ∷ slots) n s h g =
    with_value-cases name v x slots s (λ k. with_value-set name v slots k s) (bytes_eq x.name name) (place_of name slots) refl n h g

slot_named-cases : (name : List ℕ) (x : Slot) (slots : List Slot) → (place_of name slots ≡ None → slot_named name slots ≡ None) → (t : Bool) (p : Option ℕ) → place_of name slots ≡ p → (if t then Some 0 else one_later p) ≡ None → (if t then Some x else slot_named name slots) ≡ None
slot_named-cases name x slots more true p e h = absurd (cc)
slot_named-cases name x slots more false None e h = more e
slot_named-cases name x slots more false (Some j) e h = absurd (cc)

pub slot_named-none : (name : List ℕ) (slots : List Slot) → place_of name slots ≡ None → slot_named name slots ≡ None
slot_named-none name [] h = refl
slot_named-none name (x ∷ slots) h = slot_named-cases name x slots (slot_named-none name slots) (bytes_eq x.name name) (place_of name slots) refl h

pub with_last-set : (s : Stage) (container child : ObjId) (o : Object) → 0 < container.0 → Some o ≡ slice_get s.objects (container.0 - 1) → record s { objects = slice_set s.objects (container.0 - 1) (record o { children = o.children ++ child ∷ [] }) } ≡ with_last container child s
with_last-set s container child o pos h =
    let F : List Object → Stage = λ objects. record s { objects = objects } in
    ap F (sym (changed_entry-set (λ object. record object { children = object.children ++ child ∷ [] }) s.objects container.0 o pos (sym h)))

pub with_parent-set : (s : Stage) (container child : ObjId) (o : Object) → 0 < child.0 → Some o ≡ slice_get s.objects (child.0 - 1) → record s { objects = slice_set s.objects (child.0 - 1) (record o { parent = Some container }) } ≡ with_parent container child s
with_parent-set s container child o pos h =
    let F : List Object → Stage = λ objects. record s { objects = objects } in
    ap F (sym (changed_entry-set (λ object. record object { parent = Some container }) s.objects child.0 o pos (sym h)))

pub with_listener-set : (s : Stage) (at : ObjId) (listener : Registration) (o : Object) → 0 < at.0 → Some o ≡ slice_get s.objects (at.0 - 1) → record s { objects = slice_set s.objects (at.0 - 1) (record o { listeners = o.listeners ++ listener ∷ [] }) } ≡ with_listener at listener s
with_listener-set s at listener o pos h =
    let F : List Object → Stage = λ objects. record s { objects = objects } in
    ap F (sym (changed_entry-set (λ object. record object { listeners = object.listeners ++ listener ∷ [] }) s.objects at.0 o pos (sym h)))

-- an object that isn't there can't be changed
pub with_last-none : (s : Stage) (container child : ObjId) → 0 < container.0 → None ≡ slice_get s.objects (container.0 - 1) → s ≡ with_last container child s
with_last-none s container child pos h =
    let F : List Object → Stage = λ objects. record s { objects = objects } in
    ap F (sym (changed_entry-none (λ object. record object { children = object.children ++ child ∷ [] }) s.objects container.0 pos (sym h)))

pub with_parent-none : (s : Stage) (container child : ObjId) → 0 < child.0 → None ≡ slice_get s.objects (child.0 - 1) → s ≡ with_parent container child s
with_parent-none s container child pos h =
    let F : List Object → Stage = λ objects. record s { objects = objects } in
    ap F (sym (changed_entry-none (λ object. record object { parent = Some container }) s.objects child.0 pos (sym h)))

pub with_listener-none : (s : Stage) (at : ObjId) (listener : Registration) → 0 < at.0 → None ≡ slice_get s.objects (at.0 - 1) → s ≡ with_listener at listener s
with_listener-none s at listener pos h =
    let F : List Object → Stage = λ objects. record s { objects = objects } in
    ap F (sym (changed_entry-none (λ object. record object { listeners = object.listeners ++ listener ∷ [] }) s.objects at.0 pos (sym h)))

pub with_property-set : (s : Stage) (o : ObjId) (name : List ℕ) (v : Value) (object : Object) (n : ℕ) (slot : Slot) → 0 < o.0 → Some object ≡ slice_get s.objects (o.0 - 1) → Some n ≡ place_of name object.slots → Some slot ≡ slice_get object.slots n → record s { objects = slice_set s.objects (o.0 - 1) (record object { slots = slice_set object.slots n (record slot { value = v }) }) } ≡ with_property o name v s
with_property-set s o name v object n slot pos h at g =
    let F : List Object → Stage = λ objects. record s { objects = objects } in
    let G : List Slot → Stage = λ slots. record s { objects = slice_set s.objects (o.0 - 1) (record object { slots = slots }) } in
    ap G (sym (with_value-set name v object.slots n slot (sym at) (sym g)))
    ∙ ap F (sym (changed_entry-set (λ x. record x { slots = with_value name v x.slots }) s.objects o.0 object pos (sym h)))

-- where the object has the property, it has a place
pub has_place : (s : Stage) (o : ObjId) (name : List ℕ) (object : Object) → 0 < o.0 → Some object ≡ slice_get s.objects (o.0 - 1) → IsSome (property s o name) → IsSome (place_of name object.slots)
has_place s o name object pos h has =
    let at : object_at s o ≡ Some object = entry-get s.objects o.0 pos ∙ sym h in
    let here : IsSome (slot_named name object.slots) = subst (λ x. IsSome (slot_of name x)) at has in
    some_place (place_of name object.slots) refl here
  where
    some_place : (p : Option ℕ) → place_of name object.slots ≡ p → IsSome (slot_named name object.slots) → IsSome p
    some_place None e here = subst IsSome (slot_named-none name object.slots e) here
    some_place (Some n) e here = refl

-- an index inside a list has an item
pub has_item : {A : Type 0} (xs : List A) (n : ℕ) → n < length xs → None ≡ slice_get xs n → ⊥
has_item [] n lt h = omega arith
has_item (x ∷ xs) zero lt h = cc
has_item (x ∷ xs) (suc n) lt h = has_item xs n (omega arith) h

pub some_or_none : (p : Option ℕ) → IsSome p → None ≡ p → ⊥
some_or_none None h e = cc
some_or_none (Some n) h e = cc

pub ruleset changes = (with_last-set, with_last-none, with_parent-set, with_parent-none, with_listener-set, with_listener-none, with_property-set, has_place)
