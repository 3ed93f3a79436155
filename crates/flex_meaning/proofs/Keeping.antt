-- What is kept while objects are made and changed, and the laws of results that keep it.
use Rattle.std.proofs.Common.{List, [], ap, refl, subst, suc, sym, true≢false, zero, ℕ, ◌++◌, ◌∙◌, ◌∷◌, ◌≡◌, ◌⊎◌, inl, inr}
use Rattle.std.specs.Prelude.{Bool, Err, None, Ok, Option, Some, false, is_some, length, option_map, slice_get, true}
use Rattle.std.specs.Prelude.{Result as Computed}
use Rattle.flex_base.specs.Lists.{changed_at, changed_entry, entry}
use Rattle.flex_base.specs.declared.outcome.Outcome.TheVariants.{Stopped, TurnsSpent}
use Rattle.flex_base.specs.declared.outcome.Stop.{Stop}
use Rattle.flex_base.specs.declared.value.ObjId.{ObjId}
use Rattle.flex_base.specs.declared.value.Value.{Value}
use Rattle.flex_world.specs.declared.kind.Class.{Class}
use Rattle.flex_world.specs.declared.kind.StaticType.{StaticType}
use Rattle.flex_world.specs.Objects.{An_array, Instance_of, Kind, Object, changed_object, is_object_among, next_object, object_at}
use Rattle.flex_program.proofs.Inverted.{All, all_get, all_map, map_is, same_some, some_is}
use Rattle.flex_program.specs.Classes.{document_of}
use Rattle.flex_program.specs.Program.{Document, Program}
use Rattle.flex_meaning.proofs.Holding.{A_bool, A_listener, A_null, A_ref, A_text, An_int, An_undefined, AreOf, AreRegistered, BuiltFine, Hearer, IsA, IsDocument, IsMade, Later, OfType, ParentFine, SavedFine, T_any, T_array, T_bool, T_int, T_no_array, T_no_object, T_no_text, T_object, T_text, Typed, TypedObject, Valid, in_state, kind_at}
use Rattle.flex_meaning.specs.Results.{Ends, Goes, Halts, Result, Stuck, bind, choose, each, given, need, on}
use Rattle.flex_meaning.specs.World.{Built, Saved, World, change_object}

module _ (p : Program) where
  pub later_same : (os : List Object) → Later p os os
  later_same os = record { kinds = λ o k e. e; states = λ o e. e }

  pub later_then : {a b c : List Object} → Later p a b → Later p b c → Later p a c
  later_then f g = record { kinds = λ o k e. g.kinds o k (f.kinds o k e); states = λ o e. g.states o (f.states o e) }

  pub hearer_later : {os os1 : List Object} {o : ObjId} {m : ℕ} → Later p os os1 → Hearer p os o m → Hearer p os1 o m
  hearer_later {o} l h = record { class = h.class; at = l.kinds o (Instance_of h.class) h.at; run = h.run; type = h.type; one = h.one }

  pub valid_later : {os os1 : List Object} {v : Value} → Later p os os1 → Valid p os v → Valid p os1 v
  valid_later l An_undefined = An_undefined
  valid_later l A_null = A_null
  valid_later l (A_bool b) = A_bool b
  valid_later l (An_int n) = An_int n
  valid_later l (A_text t) = A_text t
  valid_later l (A_ref o k e) = A_ref o k (l.kinds o k e)
  valid_later l (A_listener o m h) = A_listener o m (hearer_later l h)

  pub type_later : {os os1 : List Object} {v : Value} {t : StaticType} → Later p os os1 → OfType p os v t → OfType p os1 v t
  type_later l (T_int n) = T_int n
  type_later l (T_bool b) = T_bool b
  type_later l (T_text t) = T_text t
  type_later l T_no_text = T_no_text
  type_later l (T_array o e) = T_array o (l.kinds o An_array e)
  type_later l T_no_array = T_no_array
  type_later l (T_object o k c e d) = T_object o k c (l.kinds o (Instance_of k) e) d
  type_later l (T_no_object c) = T_no_object c
  type_later l (T_any v h) = T_any v (valid_later l h)

  -- a value of a type is one of a world
  pub valid_of : {os : List Object} {v : Value} {t : StaticType} → OfType p os v t → Valid p os v
  valid_of (T_int n) = An_int n
  valid_of (T_bool b) = A_bool b
  valid_of (T_text t) = A_text t
  valid_of T_no_text = A_null
  valid_of (T_array o e) = A_ref o An_array e
  valid_of T_no_array = A_null
  valid_of (T_object o k c e d) = A_ref o (Instance_of k) e
  valid_of (T_no_object c) = A_null
  valid_of (T_any v h) = h

  pub are_later : {os os1 : List Object} → Later p os os1 → (vs : List Value) (ts : List StaticType) → AreOf p os vs ts → AreOf p os1 vs ts
  are_later l [] [] h = tt
  are_later l (v ∷ vs) (t ∷ ts) h = (type_later l h.0, are_later l vs ts h.1)
  are_later l [] (t ∷ ts) h = absurd h
  are_later l (v ∷ vs) [] h = absurd h

  pub all_valid_later : {os os1 : List Object} → Later p os os1 → (vs : List Value) → All (Valid p os) vs → All (Valid p os1) vs
  all_valid_later l vs h = all_map _ _ vs (λ v. valid_later l) h

  pub isa_later : {os os1 : List Object} {o : ObjId} {c : Class} → Later p os os1 → IsA p os o c → IsA p os1 o c
  isa_later {o} l h = record { class = h.class; at = l.kinds o (Instance_of h.class) h.at; is = h.is }

  pub document_later : {os os1 : List Object} {o : ObjId} {c : Class} {d : Document} → Later p os os1 → IsDocument p os o c d → IsDocument p os1 o c d
  document_later {o} {c} l h = record { at = l.kinds o (Instance_of c) h.at; is = h.is }

  parent_later : {os os1 : List Object} → Later p os os1 → (o : Option ObjId) → ParentFine p os o → ParentFine p os1 o
  parent_later l None h = tt
  parent_later l (Some o) h = isa_later l h

  pub object_later : {os os1 : List Object} → Later p os os1 → (c : Object) → TypedObject p os c → TypedObject p os1 c
  object_later l c h = record {
    fields = all_map _ _ c.fields (λ f. type_later l) h.fields;
    names = h.names;
    elements = all_valid_later l c.elements h.elements;
    parent = parent_later l c.parent h.parent;
    children = all_map _ _ c.children (λ o. isa_later l) h.children;
    listeners = all_map _ _ c.listeners (λ r. hearer_later l) h.listeners;
    entered = h.entered;
    kept = h.kept;
  }

  built_later : {os os1 : List Object} → Later p os os1 → (b : Built) → BuiltFine p os b → BuiltFine p os1 b
  built_later l b h = record { class = h.class; document = h.document; is = document_later l h.is; part = h.part; of = h.of; object = isa_later l h.object }

  saved_later : {os os1 : List Object} → Later p os os1 → (s : Saved) → SavedFine p os s → SavedFine p os1 s
  saved_later l s h = record {
    class = h.class;
    document = h.document;
    is = document_later l h.is;
    state = h.state;
    named = h.named;
    override = h.override;
    at = h.at;
    part = h.part;
    of = h.of;
    object = isa_later l h.object;
    value = valid_later l h.value;
  }

  made_later : {os os1 : List Object} → Later p os os1 → (o : ObjId) → IsMade p os o → IsMade p os1 o
  made_later {os} {os1} l o h =
      let c = some_is (object_at os o) h in
      let k = map_is (λ x. x.kind) (object_at os1 o) _ (l.kinds o c.0.kind (ap (option_map (λ x. x.kind)) c.1)) in
      ap is_some k.1

  pub all_made_later : {os os1 : List Object} → Later p os os1 → (xs : List ObjId) → All (IsMade p os) xs → All (IsMade p os1) xs
  all_made_later l xs h = all_map _ _ xs (made_later l) h

  pub all_built_later : {os os1 : List Object} → Later p os os1 → (bs : List Built) → All (BuiltFine p os) bs → All (BuiltFine p os1) bs
  all_built_later l bs h = all_map _ _ bs (built_later l) h

  pub all_saved_later : {os os1 : List Object} → Later p os os1 → (ss : List Saved) → All (SavedFine p os) ss → All (SavedFine p os1) ss
  all_saved_later l ss h = all_map _ _ ss (saved_later l) h

  -- the world holds, and its objects are those and later ones
  pub record From (os : List Object) (w : World) : Type 0 where
    pub later : Later p os w.objects
    pub typed : Typed p w

  -- One object is changed

  pub record Unharmed (os : List Object) (o : ObjId) (f : Object → Object) : Type 0 where
    pub kinds : (c : Object) → object_at os o ≡ Some c → (f c).kind ≡ c.kind
    pub states : (c : Object) → object_at os o ≡ Some c → in_state p c ≡ true → in_state p (f c) ≡ true
    pub typed : (c : Object) → object_at os o ≡ Some c → (os1 : List Object) → Later p os os1 → TypedObject p os1 c → TypedObject p os1 (f c)

  at_changed : {B : Type 0} (g : Object → B) (y : B) (f : Object → Object) (xs : List Object) (n j : ℕ) → ((c : Object) → slice_get xs n ≡ Some c → g c ≡ y → g (f c) ≡ y)
      → option_map g (slice_get xs j) ≡ Some y → option_map g (slice_get (changed_at f xs n) j) ≡ Some y
  at_changed g y f [] n j keep e = e
  at_changed g y f (x ∷ xs) zero zero keep e = ap Some (keep x refl (same_some _ _ e))
  at_changed g y f (x ∷ xs) zero (suc j) keep e = e
  at_changed g y f (x ∷ xs) (suc n) zero keep e = e
  at_changed g y f (x ∷ xs) (suc n) (suc j) keep e = at_changed g y f xs n j keep e

  all_changed : (P : Object → Type 0) (f : Object → Object) (xs : List Object) (n : ℕ) → ((c : Object) → slice_get xs n ≡ Some c → P c → P (f c)) → All P xs → All P (changed_at f xs n)
  all_changed P f [] n keep h = tt
  all_changed P f (x ∷ xs) zero keep h = (keep x refl h.0, h.1)
  all_changed P f (x ∷ xs) (suc n) keep h = (h.0, all_changed P f xs n keep h.1)

  entry_changed : {B : Type 0} (g : Object → B) (y : B) (f : Object → Object) (xs : List Object) (n j : ℕ) → ((c : Object) → entry xs n ≡ Some c → g c ≡ y → g (f c) ≡ y)
      → option_map g (entry xs j) ≡ Some y → option_map g (entry (changed_entry f xs n) j) ≡ Some y
  entry_changed g y f xs zero j keep e = e
  entry_changed g y f xs (suc n) zero keep e = e
  entry_changed g y f xs (suc n) (suc j) keep e = at_changed g y f xs n j keep e

  all_entry_changed : (P : Object → Type 0) (f : Object → Object) (xs : List Object) (n : ℕ) → ((c : Object) → entry xs n ≡ Some c → P c → P (f c)) → All P xs → All P (changed_entry f xs n)
  all_entry_changed P f xs zero keep h = h
  all_entry_changed P f xs (suc n) keep h = all_changed P f xs n keep h

  later_changed : (os : List Object) (o : ObjId) (f : Object → Object) → Unharmed os o f → Later p os (changed_object f o os)
  later_changed os o f u = record {
    kinds = λ j k e. entry_changed (λ c. c.kind) k f os o.0 j.0 (λ c here h. u.kinds c here ∙ h) e;
    states = λ j e. entry_changed (in_state p) true f os o.0 j.0 (λ c here h. u.states c here h) e;
  }

  objects_changed : (os os1 : List Object) (o : ObjId) (f : Object → Object) → Unharmed os o f → Later p os os1 → All (TypedObject p os1) os → All (TypedObject p os1) (changed_object f o os)
  objects_changed os os1 o f u l h = all_entry_changed (TypedObject p os1) f os o.0 (λ c here k. u.typed c here os1 l k) h

  -- an object keeps its kind, so documents are those that they were
  kind_before : (os : List Object) (o : ObjId) (f : Object → Object) → Unharmed os o f → (j : ObjId) (k : Kind) → kind_at (changed_object f o os) j ≡ Some k → kind_at os j ≡ Some k
  kind_before os o f u j k e = by (object_at os j) refl
    where
      none_changed : (xs : List Object) (n i : ℕ) → slice_get xs i ≡ None → slice_get (changed_at f xs n) i ≡ None
      none_changed [] n i e1 = e1
      none_changed (x ∷ xs) zero zero e1 = absurd (cc)
      none_changed (x ∷ xs) zero (suc i) e1 = e1
      none_changed (x ∷ xs) (suc n) zero e1 = absurd (cc)
      none_changed (x ∷ xs) (suc n) (suc i) e1 = none_changed xs n i e1

      none_entry : (n i : ℕ) → entry os i ≡ None → entry (changed_entry f os n) i ≡ None
      none_entry zero i e1 = e1
      none_entry (suc n) zero e1 = e1
      none_entry (suc n) (suc i) e1 = none_changed os n i e1

      by : (x : Option Object) → object_at os j ≡ x → kind_at os j ≡ Some k
      by None h = absurd (none_is (kind_at (changed_object f o os) j) (ap (option_map (λ c. c.kind)) (none_entry o.0 j.0 h)) e)
        where
          none_is : (y : Option Kind) → y ≡ None → y ≡ Some k → ⊥
          none_is y a b = cc
      by (Some c) h =
          let at : kind_at os j ≡ Some c.kind = ap (option_map (λ x. x.kind)) h in
          at ∙ sym ((later_changed os o f u).kinds j c.kind at) ∙ e

  registered_changed : (os : List Object) (o : ObjId) (f : Object → Object) → Unharmed os o f → (registered : List ObjId) → AreRegistered p os registered → AreRegistered p (changed_object f o os) registered
  registered_changed os o f u registered h j class d at is = h j class d (kind_before os o f u j (Instance_of class) at) is

  pub changed_from : (o : ObjId) (f : Object → Object) (w : World) → Unharmed w.objects o f → Typed p w → From w.objects (change_object o f w)
  changed_from o f w u ty =
      let l : Later p w.objects (changed_object f o w.objects) = later_changed w.objects o f u in
      record {
        later = l;
        typed = (objects_changed w.objects (changed_object f o w.objects) o f u l (all_map _ _ w.objects (object_later l) ty.0), all_built_later l w.built ty.1, all_saved_later l w.saved ty.2, all_made_later l w.registered ty.3, all_made_later l w.begun ty.4, registered_changed w.objects o f u w.registered ty.5);
      }

  pub from_then : {os : List Object} {w w1 : World} → From os w → From w.objects w1 → From os w1
  from_then a b = record { later = later_then a.later b.later; typed = b.typed }

  -- One object more

  at_more : {B : Type 0} (g : Object → B) (y : B) (xs : List Object) (x : Object) (j : ℕ) → option_map g (slice_get xs j) ≡ Some y → option_map g (slice_get (xs ++ x ∷ []) j) ≡ Some y
  at_more g y [] x j e = absurd (cc)
  at_more g y (z ∷ xs) x zero e = e
  at_more g y (z ∷ xs) x (suc j) e = at_more g y xs x j e

  entry_more : {B : Type 0} (g : Object → B) (y : B) (xs : List Object) (x : Object) (j : ℕ) → option_map g (entry xs j) ≡ Some y → option_map g (entry (xs ++ x ∷ []) j) ≡ Some y
  entry_more g y xs x zero e = e
  entry_more g y xs x (suc j) e = at_more g y xs x j e

  pub later_more : (os : List Object) (x : Object) → Later p os (os ++ x ∷ [])
  later_more os x = record { kinds = λ j k e. entry_more (λ c. c.kind) k os x j.0 e; states = λ j e. entry_more (in_state p) true os x j.0 e }

  all_more : (P : Object → Type 0) (xs : List Object) (x : Object) → All P xs → P x → All P (xs ++ x ∷ [])
  all_more P [] x h k = (k, tt)
  all_more P (y ∷ xs) x h k = (h.0, all_more P xs x h.1 k)

  pub kind_new : (os : List Object) (x : Object) → kind_at (os ++ x ∷ []) (next_object os) ≡ Some x.kind
  kind_new [] x = refl
  kind_new (y ∷ os) x = kind_new os x

  -- what has a kind now had it before, or is the new object
  kind_earlier : (os : List Object) (x : Object) (j : ObjId) (k : Kind) → kind_at (os ++ x ∷ []) j ≡ Some k → (kind_at os j ≡ Some k) ⊎ ((j ≡ next_object os) × (x.kind ≡ k))
  kind_earlier os x j k e = by j.0 refl e
    where
      Claim : List Object → ℕ → Type 0
      Claim xs n = (option_map (λ c. c.kind) (slice_get xs n) ≡ Some k) ⊎ ((n ≡ length xs) × (x.kind ≡ k))

      next : (y : Object) (xs : List Object) (n : ℕ) → Claim xs n → Claim (y ∷ xs) (suc n)
      next y xs n (inl h) = inl h
      next y xs n (inr h) = inr (ap suc h.0, h.1)

      at : (xs : List Object) (n : ℕ) → option_map (λ c. c.kind) (slice_get (xs ++ x ∷ []) n) ≡ Some k → Claim xs n
      at [] zero h = inr (refl, same_some _ _ h)
      at [] (suc n) h = absurd (cc)
      at (y ∷ xs) zero h = inl h
      at (y ∷ xs) (suc n) h = next y xs n (at xs n h)

      number : (n : ℕ) → j.0 ≡ suc n → Claim os n → (kind_at os j ≡ Some k) ⊎ ((j ≡ next_object os) × (x.kind ≡ k))
      number n e1 (inl h) = inl (ap (λ i. option_map (λ c. c.kind) (entry os i)) e1 ∙ h)
      number n e1 (inr h) = inr ((λ i. record { 0 = (e1 ∙ ap suc h.0) i }), h.1)

      by : (n : ℕ) → j.0 ≡ n → option_map (λ c. c.kind) (entry (os ++ x ∷ []) j.0) ≡ Some k → (kind_at os j ≡ Some k) ⊎ ((j ≡ next_object os) × (x.kind ≡ k))
      by zero e1 h = absurd (none_is (option_map (λ c. c.kind) (entry (os ++ x ∷ []) j.0)) (ap (λ i. option_map (λ c. c.kind) (entry (os ++ x ∷ []) i)) e1) h)
        where
          none_is : (y : Option Kind) → y ≡ None → y ≡ Some k → ⊥
          none_is y a b = cc
      by (suc n) e1 h = number n e1 (at os n (sym (ap (λ i. option_map (λ c. c.kind) (entry (os ++ x ∷ []) i)) e1) ∙ h))

  -- a new object that is no document, or one that counts as registered
  pub more_registered : (os : List Object) (x : Object) (registered others : List ObjId) → ((o : ObjId) → is_object_among o registered ≡ true → is_object_among o others ≡ true)
      → ((class : Class) (d : Document) → x.kind ≡ Instance_of class → document_of p class ≡ Some d → is_object_among (next_object os) others ≡ true)
      → AreRegistered p os registered → AreRegistered p (os ++ x ∷ []) others
  more_registered os x registered others grows new h o class d at is = by (kind_earlier os x o (Instance_of class) at)
    where
      by : (kind_at os o ≡ Some (Instance_of class)) ⊎ ((o ≡ next_object os) × (x.kind ≡ Instance_of class)) → is_object_among o others ≡ true
      by (inl before) = grows o (h o class d before is)
      by (inr here) = subst (λ j. is_object_among j others ≡ true) (sym here.0) (new class d here.1 is)

  -- a new object, with documents that count as registered from now on
  pub more_typed : (x : Object) (registered : List ObjId) (w : World) → Typed p w → TypedObject p (w.objects ++ x ∷ []) x → All (IsMade p (w.objects ++ x ∷ [])) registered → AreRegistered p (w.objects ++ x ∷ []) registered
      → Typed p (record w { objects = w.objects ++ x ∷ []; registered = registered })
  more_typed x registered w ty h made are =
      let l : Later p w.objects (w.objects ++ x ∷ []) = later_more w.objects x in
      (all_more _ w.objects x (all_map _ _ w.objects (object_later l) ty.0) h, all_built_later l w.built ty.1, all_saved_later l w.saved ty.2, made, all_made_later l w.begun ty.4, are)

  -- a new object that is no document
  pub plain_typed : (x : Object) (w : World) → Typed p w → TypedObject p (w.objects ++ x ∷ []) x → ((class : Class) (d : Document) → x.kind ≡ Instance_of class → document_of p class ≡ Some d → ⊥) → Typed p (record w { objects = w.objects ++ x ∷ [] })
  plain_typed x w ty h plain =
      more_typed x w.registered w ty h (all_made_later (later_more w.objects x) w.registered ty.3)
      (more_registered w.objects x w.registered w.registered (λ o e. e) (λ class d k is. absurd (plain class d k is)) ty.5)

  pub numbered_all : (P : Object → Type 0) (os : List Object) (n : ℕ) (c : Object) → entry os n ≡ Some c → All P os → P c
  numbered_all P os zero c e h = absurd (cc)
  numbered_all P os (suc n) c e h = all_get P os n c e h

  pub object_typed : (o : ObjId) (c : Object) (w : World) → object_at w.objects o ≡ Some c → Typed p w → TypedObject p w.objects c
  object_typed o c w e ty = numbered_all (TypedObject p w.objects) w.objects o.0 c e ty.0

  -- Results

  abbrev pub Keeps : {A : Type 0} → Bool → List Object → Result A → (A → List Object → Type 0) → Type 0
  Keeps own os (Goes v w) P = From os w × P v w.objects
  Keeps own os (Halts o w) P = Unit {0}
  Keeps own os (Ends w) P = (own ≡ true) × From os w
  Keeps own os (Stuck w) P = ⊥

  -- the result is not stuck, and comes to an end at null in an own expression of a binding alone; a value has P, in a world that holds
  pub record Safe (own : Bool) (os : List Object) {A : Type 0} (r : Result A) (P : A → List Object → Type 0) : Type 0 where
    pub holds : Keeps own os r P

  pub safe_done : {own : Bool} {A : Type 0} {P : A → List Object → Type 0} {v : A} {w : World} → Typed p w → P v w.objects → Safe own w.objects (Goes v w) P
  safe_done {w} ty h = record { holds = (record { later = later_same w.objects; typed = ty }, h) }

  -- a changed world
  pub safe_from : {own : Bool} {A : Type 0} {P : A → List Object → Type 0} {os : List Object} {v : A} {w : World} → From os w → P v w.objects → Safe own os (Goes v w) P
  safe_from f h = record { holds = (f, h) }

  pub safe_stop : {own : Bool} {A : Type 0} {P : A → List Object → Type 0} {os : List Object} {cause : Stop} {w : World} → Safe own os (Halts (Stopped cause) w) P
  safe_stop = record { holds = tt }

  pub safe_spent : {own : Bool} {A : Type 0} {P : A → List Object → Type 0} {os : List Object} {w : World} → Safe own os (Halts TurnsSpent w) P
  safe_spent = record { holds = tt }

  pub safe_ends : {A : Type 0} {P : A → List Object → Type 0} {w : World} → Typed p w → Safe true w.objects (Ends w) P
  safe_ends {w} ty = record { holds = (refl, record { later = later_same w.objects; typed = ty }) }

  pub safe_later : {own : Bool} {A : Type 0} {P : A → List Object → Type 0} {os os1 : List Object} → Later p os os1 → (r : Result A) → Safe own os1 r P → Safe own os r P
  safe_later l (Goes v w) s = record { holds = (record { later = later_then l s.holds.0.later; typed = s.holds.0.typed }, s.holds.1) }
  safe_later l (Halts o w) s = record { holds = s.holds }
  safe_later l (Ends w) s = record { holds = (s.holds.0, record { later = later_then l s.holds.1.later; typed = s.holds.1.typed }) }
  safe_later l (Stuck w) s = absurd s.holds

  bound : {own : Bool} {A B : Type 0} {P : A → List Object → Type 0} {Q : B → List Object → Type 0} {os : List Object} (r : Result A) (f : A → World → Result B) → Safe own os r P → ((v : A) (w : World) → From os w → P v w.objects → Safe own w.objects (f v w) Q) → Safe own os (bind r f) Q
  bound (Goes v w) f s t = safe_later s.holds.0.later (f v w) (t v w s.holds.0 s.holds.1)
  bound (Halts o w) f s t = record { holds = s.holds }
  bound (Ends w) f s t = record { holds = s.holds }
  bound (Stuck w) f s t = absurd s.holds

  pub safe_bind : {own : Bool} {A B : Type 0} {P : A → List Object → Type 0} {Q : B → List Object → Type 0} {os : List Object} {r : Result A} {f : A → World → Result B} → Safe own os r P → ((v : A) (w : World) → From os w → P v w.objects → Safe own w.objects (f v w) Q) → Safe own os (bind r f) Q
  safe_bind {r} {f} s t = bound r f s t

  own_of : {own : Bool} {A : Type 0} {P : A → List Object → Type 0} {os : List Object} (r : Result A) → Safe false os r P → Safe own os r P
  own_of (Goes v w) s = record { holds = s.holds }
  own_of (Halts o w) s = record { holds = s.holds }
  own_of (Ends w) s = absurd (true≢false (sym s.holds.0))
  own_of (Stuck w) s = absurd s.holds

  -- what never ends at null may stand in an own expression
  pub safe_own : {own : Bool} {A : Type 0} {P : A → List Object → Type 0} {os : List Object} {r : Result A} → Safe false os r P → Safe own os r P
  safe_own {r} s = own_of r s

  more_of : {own : Bool} {A : Type 0} {P Q : A → List Object → Type 0} {os : List Object} (r : Result A) → Safe own os r P → ((v : A) (w : World) → From os w → P v w.objects → Q v w.objects) → Safe own os r Q
  more_of (Goes v w) s f = record { holds = (s.holds.0, f v w s.holds.0 s.holds.1) }
  more_of (Halts o w) s f = record { holds = s.holds }
  more_of (Ends w) s f = record { holds = s.holds }
  more_of (Stuck w) s f = absurd s.holds

  -- and so a value has Q
  pub safe_map : {own : Bool} {A : Type 0} {P Q : A → List Object → Type 0} {os : List Object} {r : Result A} → Safe own os r P → ((v : A) (w : World) → From os w → P v w.objects → Q v w.objects) → Safe own os r Q
  safe_map {r} s f = more_of r s f

  pub safe_choose : {own : Bool} {A : Type 0} {P : A → List Object → Type 0} {os : List Object} (b : Bool) (f g : World → Result A) (w : World) → (b ≡ true → Safe own os (f w) P) → (b ≡ false → Safe own os (g w) P) → Safe own os (choose b f g w) P
  safe_choose true f g w s t = s refl
  safe_choose false f g w s t = t refl

  pub safe_need : {own : Bool} {A B : Type 0} {Q : B → List Object → Type 0} {os : List Object} (o : Option A) (w : World) (f : A → Result B) → is_some o ≡ true → ((x : A) → o ≡ Some x → Safe own os (f x) Q) → Safe own os (need o w f) Q
  safe_need None w f e t = absurd (true≢false (sym e))
  safe_need (Some x) w f e t = t x refl

  pub safe_found : {own : Bool} {A B : Type 0} {Q : B → List Object → Type 0} {os : List Object} (o : Option A) (w : World) (f : A → Result B) (y : A) → o ≡ Some y → Safe own os (f y) Q → Safe own os (need o w f) Q
  safe_found {own} {Q} {os} o w f y e s = subst (λ x. Safe own os (need x w f) Q) (sym e) s

  pub safe_on : {own : Bool} {B : Type 0} {Q : B → List Object → Type 0} {os : List Object} (o : ObjId) (w : World) (k : Kind) (f : Object → Result B) → kind_at w.objects o ≡ Some k → Typed p w
      → ((c : Object) → object_at w.objects o ≡ Some c → c.kind ≡ k → TypedObject p w.objects c → Safe own os (f c) Q) → Safe own os (on o w f) Q
  safe_on o w k f e ty t =
      let c : (c : Object) × (object_at w.objects o ≡ Some c) × (c.kind ≡ k) = map_is (λ x. x.kind) (object_at w.objects o) k e in
      safe_found (object_at w.objects o) w f c.0 c.1 (t c.0 c.1 c.2 (object_typed o c.0 w c.1 ty))

  pub safe_each : {own : Bool} {A : Type 0} (R : A → List Object → Type 0) → ((x : A) (os os1 : List Object) → Later p os os1 → R x os → R x os1)
      → (f : A → World → Result (Unit {0})) → ((x : A) (w : World) → R x w.objects → Typed p w → Safe own w.objects (f x w) (λ _ _. Unit {0}))
      → (xs : List A) (w : World) → All (λ x. R x w.objects) xs → Typed p w → Safe own w.objects (each f xs w) (λ _ _. Unit {0})
  safe_each R keep f one [] w h ty = safe_done ty tt
  safe_each R keep f one (x ∷ xs) w h ty =
      safe_bind (one x w h.0 ty) (λ _ w1 l _. safe_each R keep f one xs w1 (all_map _ _ xs (λ y. keep y w.objects w1.objects l.later) h.1) l.typed)

  abbrev Grants : {A : Type 0} → Computed A Stop → (A → Type 0) → Type 0
  Grants (Ok v) P = P v
  Grants (Err cause) P = Unit {0}

  -- what is computed has P
  pub record Good {A : Type 0} (x : Computed A Stop) (P : A → Type 0) : Type 0 where
    pub holds : Grants x P

  pub safe_given : {own : Bool} {A : Type 0} {P : A → List Object → Type 0} (x : Computed A Stop) (w : World) → Good x (λ v. P v w.objects) → Typed p w → Safe own w.objects (given x w) P
  safe_given (Ok v) w g ty = safe_done ty g.holds
  safe_given (Err cause) w g ty = record { holds = tt }
